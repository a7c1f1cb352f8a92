-- Of Stands: a leaf that is split, and a split one side of which has grown.
use Rattle.std.proofs.Common.{◌≡◌, ◌≤◌, ℕ, ℤ, ◌≤ℤ◌, ◌<ℤ◌, Bool, List, length, refl, ap, sym}
use Rattle.std.proofs.Common.{subst, ◌∙◌, arith}
use Rattle.std.proofs.lemmas.Int.{clamps, ints}
use Rattle.std.specs.Int.{int_max}
use Rattle.colour_graph.specs.Bounded.{IsBounded}
use Rattle.colour_graph.specs.Cap.{cap_of}
use Rattle.colour_graph.specs.EdgeSet.{edges_into, leaving, only}
use Rattle.colour_graph.specs.Graph.{Graph, colour_count}
use Rattle.tree_certificate.specs.BoundHolds.{IsDecided}
use Rattle.tree_certificate.specs.BoundValue.{PriceValue}
use Rattle.tree_certificate.specs.PriceHolds.{PriceHolds, price_total}
use Rattle.price_bound.specs.Plain.{IsTreeScore}
use Rattle.branch_search.specs.inside.Growing.{Grown, IsHalf, IsLeaf, Stands, fork, leaf, total_in}
use Rattle.branch_search.proofs.Standing.{Stands-weaker, max-low}

pub joined : (a b c : ℤ) → a ≤ℤ b → b ≤ℤ c → a ≤ℤ c
joined a b c one other = omega (arith, ints)

self : (a : ℤ) → a ≤ℤ a
self a = omega (arith, ints)

-- a set that can be split is not decided
pub open-not_decided : (graph : Graph) (allowed : List Bool) (colour : ℕ)
    → (1 ≤ colour) × (colour ≤ colour_count graph) × (2 ≤ length (edges_into graph allowed colour))
    → IsDecided graph allowed → ⊥
open-not_decided graph allowed colour is decided =
    let few = decided colour is.0 is.1 in
    let many = is.2 in
    omega (arith, few, many)

-- a tree's score is at most what bounds all trees
pub tree-capped : (graph : Graph) (allowed : List Bool) (total upper : ℤ) → IsTreeScore graph allowed total
    → IsBounded graph allowed upper → total ≤ℤ upper
tree-capped graph allowed total upper is bounded =
    subst (λ (n : ℤ). n ≤ℤ upper) is.reached (bounded is.edges is.colourful is.in_set)

pub IsLeaf-better : (graph : Graph) (allowed : List Bool) (score more : ℤ) (cert : PriceValue) (total : ℤ)
    → score ≤ℤ more → IsLeaf graph allowed score cert total → IsLeaf graph allowed more cert total
IsLeaf-better graph allowed score more cert total rises is = record {
  holds = is.holds;
  is_total = is.is_total;
  capped = is.capped;
  decided = λ decided. joined total score more (is.decided decided) rises;
}

-- the certificate above, where it says less than a leaf's own
pub IsLeaf-above : (graph : Graph) (allowed : List Bool) (score : ℤ) (cert : PriceValue) (total : ℤ)
    (above : PriceValue) (less : ℤ) → IsLeaf graph allowed score cert total → PriceHolds graph allowed above
    → less ≡ price_total graph above → less ≤ℤ total → IsLeaf graph allowed score above less
IsLeaf-above graph allowed score cert total above less is holds same low = record {
  holds = holds;
  is_total = same;
  capped = joined less total (cap_of graph allowed) low is.capped;
  decided = λ decided. joined less total score low (is.decided decided);
}

-- A split of two leaves stands.
pub Stands-split : (graph : Graph) (allowed : List Bool) (score middle upper : ℤ) (colour : ℕ) (part : List ℕ)
    (first second : PriceValue) (one other : ℤ) (new : Grown)
    → new ≡ fork (int_max one other) colour part (leaf first one) (leaf second other)
    → IsHalf graph allowed colour part → upper ≤ℤ cap_of graph allowed → middle ≤ℤ score
    → IsLeaf graph (only graph allowed colour part) middle first one
    → IsLeaf graph (leaving allowed part) score second other → Stands graph allowed score upper new
Stands-split graph allowed score middle upper colour part first second one other new is half capped rises left right =
    subst (Stands graph allowed score upper) (sym is) (
      half,
      refl,
      capped,
      IsLeaf-better graph (only graph allowed colour part) middle score first one rises left,
      right,
    )

-- a split of two leaves, from its sides
pub fork-leaves : (new one_side other_side : Grown) (colour : ℕ) (named part : List ℕ) (first second : PriceValue)
    (one other : ℤ)
    → new ≡ fork (int_max (total_in one_side) (total_in other_side)) colour named one_side other_side
    → named ≡ part → one_side ≡ leaf first one → other_side ≡ leaf second other
    → new ≡ fork (int_max one other) colour part (leaf first one) (leaf second other)
fork-leaves new one_side other_side colour named part first second one other is same left right =
    is ∙ rw (same, left, right) refl

pub total-split : (upper : ℤ) (colour : ℕ) (part : List ℕ) (first second : Grown) (one other : ℤ) (new : Grown)
    → new ≡ fork (int_max one other) colour part first second → one ≤ℤ upper → other ≤ℤ upper
    → total_in new ≤ℤ upper
total-split upper colour part first second one other new is low also =
    subst (λ (n : Grown). total_in n ≤ℤ upper) (sym is) (max-low one other upper low also)

-- the side of greatest total
first-is : (total one other : ℤ) → total ≡ int_max one other → other ≤ℤ one → total ≡ one
first-is total one other is low = omega (arith, ints, clamps)

second-is : (total one other : ℤ) → total ≡ int_max one other → one <ℤ other → total ≡ other
second-is total one other is low = omega (arith, ints, clamps)

module _ (graph : Graph) (allowed : List Bool) (score : ℤ) (node : Grown) (total : ℤ) (colour : ℕ)
    (part : List ℕ) (first second : Grown) (is : node ≡ fork total colour part first second)
    (stands : Stands graph allowed score (total_in node) node)
  where
    opened : Stands graph allowed score total (fork total colour part first second)
    opened = subst (λ (n : Grown). Stands graph allowed score (total_in n) n) is stands

    same-total : total_in node ≡ total
    same-total = ap total_in is

    pub half-of : IsHalf graph allowed colour part
    half-of = opened.0

    pub total-first : total_in second ≤ℤ total_in first → total_in node ≡ total_in first
    total-first low = same-total ∙ first-is total (total_in first) (total_in second) opened.1 low

    pub total-second : total_in first <ℤ total_in second → total_in node ≡ total_in second
    total-second low = same-total ∙ second-is total (total_in first) (total_in second) opened.1 low

    pub take-first : total_in second ≤ℤ total_in first
        → Stands graph (only graph allowed colour part) score (total_in first) first
    take-first low =
        subst (λ (upper : ℤ). Stands graph (only graph allowed colour part) score upper first)
        (sym same-total ∙ total-first low) opened.3

    pub take-second : total_in first <ℤ total_in second
        → Stands graph (leaving allowed part) score (total_in second) second
    take-second low =
        subst (λ (upper : ℤ). Stands graph (leaving allowed part) score upper second)
        (sym same-total ∙ total-second low) opened.4

    -- after one side has grown
    module _ (more : ℤ) (rises : score ≤ℤ more) (new : Grown) where
      pub give-first : (side : Grown) → total_in second ≤ℤ total_in first
          → new ≡ fork (int_max (total_in side) (total_in second)) colour part side second
          → Stands graph (only graph allowed colour part) more (total_in first) side
          → Stands graph allowed more (total_in node) new
      give-first side low made side-stands =
          subst (Stands graph allowed more (total_in node)) (sym made) (
            opened.0,
            refl,
            subst (λ (n : ℤ). n ≤ℤ cap_of graph allowed) (sym same-total) opened.2,
            subst (λ (upper : ℤ). Stands graph (only graph allowed colour part) more upper side)
                (sym (total-first low)) side-stands,
            subst (λ (upper : ℤ). Stands graph (leaving allowed part) more upper second) (sym same-total)
                (Stands-weaker graph (leaving allowed part) score more total total second rises (self total) opened.4),
          )

      pub give-second : (side : Grown) → total_in first <ℤ total_in second
          → new ≡ fork (int_max (total_in first) (total_in side)) colour part first side
          → Stands graph (leaving allowed part) more (total_in second) side
          → Stands graph allowed more (total_in node) new
      give-second side low made side-stands =
          subst (Stands graph allowed more (total_in node)) (sym made) (
            opened.0,
            refl,
            subst (λ (n : ℤ). n ≤ℤ cap_of graph allowed) (sym same-total) opened.2,
            subst (λ (upper : ℤ). Stands graph (only graph allowed colour part) more upper first) (sym same-total)
                (Stands-weaker graph (only graph allowed colour part) score more total total first rises (self total)
                opened.3),
            subst (λ (upper : ℤ). Stands graph (leaving allowed part) more upper side)
                (sym (total-second low)) side-stands,
          )

      same-le : (a b c : ℤ) → a ≡ b → c ≤ℤ b → c ≤ℤ a
      same-le a b c is' low = rw is' low

      less-le : (a b : ℤ) → a <ℤ b → a ≤ℤ b
      less-le a b low = omega (arith, ints)

      pub total-given-first : (side : Grown) → total_in second ≤ℤ total_in first
          → new ≡ fork (int_max (total_in side) (total_in second)) colour part side second
          → total_in side ≤ℤ total_in first → total_in new ≤ℤ total_in node
      total-given-first side low made less =
          same-le (total_in node) (total_in first) (total_in new) (total-first low)
          (total-split (total_in first) colour part side second (total_in side) (total_in second) new made less low)

      pub total-given-second : (side : Grown) → total_in first <ℤ total_in second
          → new ≡ fork (int_max (total_in first) (total_in side)) colour part first side
          → total_in side ≤ℤ total_in second → total_in new ≤ℤ total_in node
      total-given-second side low made less =
          same-le (total_in node) (total_in second) (total_in new) (total-second low)
          (total-split (total_in second) colour part first side (total_in first) (total_in side) new made
          (less-le (total_in first) (total_in second) low) less)
