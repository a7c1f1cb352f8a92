-- Of IsLeaf: a set's own certificate, and the better of two trees.
use Rattle.std.proofs.Common.{◌≡◌, ◌≤◌, ◌⊎◌, inl, inr, ℕ, ℤ, ◌≤ℤ◌, ◌<ℤ◌, Bool, true, false, List, length, Option}
use Rattle.std.proofs.Common.{Some, None}
use Rattle.std.proofs.Common.{MatchOption, is_some, ap, sym, subst, ◌∙◌, arith}
use Rattle.std.proofs.lemmas.Bool.{false≢true}
use Rattle.std.proofs.lemmas.Int.{ints}
use Rattle.colour_graph.specs.Bounded.{IsBounded}
use Rattle.colour_graph.specs.Cap.{cap_of}
use Rattle.colour_graph.specs.EdgeSet.{edges_into}
use Rattle.colour_graph.specs.Graph.{Graph, colour_count}
use Rattle.tree_certificate.specs.BoundHolds.{IsDecided}
use Rattle.tree_certificate.specs.BoundValue.{PriceValue}
use Rattle.tree_certificate.specs.PriceHolds.{PriceHolds, price_total}
use Rattle.price_bound.specs.Plain.{IsTreeScore}
use Rattle.branch_search.specs.Pricing.{IsPriced}
use Rattle.branch_search.specs.declared.trees.Tree.{Tree}
use Rattle.branch_search.specs.inside.Choosing.{IsTree}
use Rattle.branch_search.specs.inside.Growing.{IsLeaf}
use Rattle.branch_search.proofs.GrowSteps.{IsLeaf-above, open-not_decided, tree-capped}

-- what is answered of the least colour with two edges of a set
abbrev pub IsOpenColour : Graph → List Bool → Option ℕ → Type 0
IsOpenColour graph allowed found =
    MatchOption found (IsDecided graph allowed)
    (λ colour. (1 ≤ colour) × (colour ≤ colour_count graph) × (2 ≤ length (edges_into graph allowed colour)))

pub open-some : (graph : Graph) (allowed : List Bool) (found : Option ℕ) → IsOpenColour graph allowed found
    → is_some found ≡ true → IsDecided graph allowed → ⊥
open-some graph allowed None is none = absurd (false≢true none)
open-some graph allowed (Some colour) is some = open-not_decided graph allowed colour is

pub open-none : (graph : Graph) (allowed : List Bool) (found : Option ℕ) → IsOpenColour graph allowed found
    → is_some found ≡ false → IsDecided graph allowed
open-none graph allowed None is none = is
open-none graph allowed (Some colour) is none = absurd (false≢true (sym none))

-- of a set that can be split
pub leaf-priced : (graph : Graph) (allowed : List Bool) (score : ℤ) (own cert : PriceValue) (total : ℤ) → cert ≡ own
    → total ≡ price_total graph cert → IsPriced graph allowed own → (IsDecided graph allowed → ⊥)
    → IsLeaf graph allowed score cert total
leaf-priced graph allowed score own cert total same is priced opened = record {
  holds = subst (PriceHolds graph allowed) (sym same) priced.holds;
  is_total = is;
  capped = subst (λ (n : ℤ). n ≤ℤ cap_of graph allowed) (sym (is ∙ ap (price_total graph) same)) priced.capped;
  decided = λ decided. absurd (opened decided);
}

-- of a set that is decided
pub leaf-plain : (graph : Graph) (allowed : List Bool) (score : ℤ) (own cert : PriceValue) (total : ℤ) → cert ≡ own
    → total ≡ price_total graph cert → PriceHolds graph allowed own → IsTreeScore graph allowed (price_total graph own)
    → IsBounded graph allowed (cap_of graph allowed) → price_total graph cert ≤ℤ score
    → IsLeaf graph allowed score cert total
leaf-plain graph allowed score own cert total same is holds tree bounded low = record {
  holds = subst (PriceHolds graph allowed) (sym same) holds;
  is_total = is;
  capped = subst (λ (n : ℤ). n ≤ℤ cap_of graph allowed) (sym (is ∙ ap (price_total graph) same))
      (tree-capped graph allowed (price_total graph own) (cap_of graph allowed) tree bounded);
  decided = λ decided. subst (λ (n : ℤ). n ≤ℤ score) (sym is) low;
}

-- the tree that is kept of an old one and a new one
abbrev pub IsKept : Tree → Tree → Tree → Type 0
IsKept old new kept = ((kept ≡ new) × (old.score <ℤ new.score)) ⊎ ((kept ≡ old) × (new.score ≤ℤ old.score))

less : (a b : ℤ) → a <ℤ b → a ≤ℤ b
less a b low = omega (arith, ints)

self : (a : ℤ) → a ≤ℤ a
self a = omega (arith, ints)

pub kept-old : (old new kept : Tree) → IsKept old new kept → old.score ≤ℤ kept.score
kept-old old new kept (inl is) =
    subst (λ (tree : Tree). old.score ≤ℤ tree.score) (sym is.0) (less old.score new.score is.1)
kept-old old new kept (inr is) = subst (λ (tree : Tree). old.score ≤ℤ tree.score) (sym is.0) (self old.score)

pub kept-new : (old new kept : Tree) → IsKept old new kept → new.score ≤ℤ kept.score
kept-new old new kept (inl is) = subst (λ (tree : Tree). new.score ≤ℤ tree.score) (sym is.0) (self new.score)
kept-new old new kept (inr is) = subst (λ (tree : Tree). new.score ≤ℤ tree.score) (sym is.0) is.1

pub kept-tree : (graph : Graph) (old new kept : Tree) → IsKept old new kept
    → IsTree graph old.edges.items old.score → IsTree graph new.edges.items new.score
    → IsTree graph kept.edges.items kept.score
kept-tree graph old new kept (inl is) one other =
    subst (λ (tree : Tree). IsTree graph tree.edges.items tree.score) (sym is.0) other
kept-tree graph old new kept (inr is) one other =
    subst (λ (tree : Tree). IsTree graph tree.edges.items tree.score) (sym is.0) one

-- a leaf with a copy of the certificate above it, which says less than its own
pub leaf-above : (graph : Graph) (allowed : List Bool) (score : ℤ) (own : PriceValue) (total : ℤ)
    (above copy : PriceValue) (high number : ℤ) → IsLeaf graph allowed score own total → PriceHolds graph allowed above
    → high ≡ price_total graph above → high <ℤ total → copy ≡ above → number ≡ high
    → IsLeaf graph allowed score copy number
leaf-above graph allowed score own total above copy high number is holds same low copied read =
    subst (λ (n : ℤ). IsLeaf graph allowed score copy n) (sym read)
    (subst (λ (cert : PriceValue). IsLeaf graph allowed score cert high) (sym copied)
    (IsLeaf-above graph allowed score own total above high is holds same (less high total low)))
