-- Of Stands: what it says of the bound that has grown.
use Rattle.std.proofs.Common.{◌≡◌, ◌+◌, ◌⊎◌, inl, inr, ℕ, zero, suc, ℤ, ◌≤ℤ◌, ◌<ℤ◌, Bool, List, []}
use Rattle.std.proofs.Common.{◌∷◌, ◌++◌, length, Some, slice_get, ap₂, refl, subst, sym, arith}
use Rattle.std.proofs.lemmas.Int.{clamps, ints}
use Rattle.std.proofs.lemmas.List.Elements.{All-append, All-nil}
use Rattle.std.specs.Cmp.{int_ranks}
use Rattle.std.specs.Int.{int_max}
use Rattle.std.specs.Ordering.{MatchOrdering, int_cmp}
use Rattle.std.specs.declared.cmp.Ordering.{Ordering}
use Rattle.std.specs.declared.cmp.Ordering.TheVariants.{Less, Equal, Greater}
use Rattle.std.specs.List.{All}
use Rattle.colour_graph.specs.Cap.{cap_of}
use Rattle.colour_graph.specs.EdgeSet.{leaving, only}
use Rattle.colour_graph.specs.Graph.{Graph}
use Rattle.tree_certificate.specs.BoundHolds.{BoundHolds, nodes_of, splits_of}
use Rattle.tree_certificate.specs.PriceHolds.{price_total}
use Rattle.tree_certificate.specs.Spent.{CanGoOn, IsGreatestTotal, IsTight, IsUseful, Leaf, leaves_of, split_nodes_of}
use Rattle.branch_search.specs.inside.Growing.{Grown, Stands, bound_in, fork, leaf, splits_in, total_in}

joined : (a b c : ℤ) → a ≤ℤ b → b ≤ℤ c → a ≤ℤ c
joined a b c one other = omega (arith, ints)

self : (a : ℤ) → a ≤ℤ a
self a = omega (arith, ints)

pub max-first : (a b : ℤ) → a ≤ℤ int_max a b
max-first a b = omega (arith, ints, clamps)

pub max-second : (a b : ℤ) → b ≤ℤ int_max a b
max-second a b = omega (arith, ints, clamps)

pub max-low : (a b c : ℤ) → a ≤ℤ c → b ≤ℤ c → int_max a b ≤ℤ c
max-low a b c one other = omega (arith, ints, clamps)

-- with a greater score and a smaller number
pub Stands-weaker : (graph : Graph) (allowed : List Bool) (score more upper less : ℤ) (node : Grown)
    → score ≤ℤ more → less ≤ℤ upper → Stands graph allowed score upper node → Stands graph allowed more less node
Stands-weaker graph allowed score more upper less (leaf cert total) rises falls is = record {
  holds = is.holds;
  is_total = is.is_total;
  capped = is.capped;
  decided = λ decided. joined total score more (is.decided decided) rises;
}
Stands-weaker graph allowed score more upper less (fork total colour part first second) rises falls is = (
  is.0,
  is.1,
  joined less upper (cap_of graph allowed) falls is.2,
  Stands-weaker graph (only graph allowed colour part) score more upper less first rises falls is.3,
  Stands-weaker graph (leaving allowed part) score more upper less second rises falls is.4,
)

pub BoundHolds-grown : (graph : Graph) (allowed : List Bool) (score upper high : ℤ) (node : Grown)
    → Stands graph allowed score upper node → total_in node ≤ℤ high → BoundHolds graph allowed (bound_in node) high
BoundHolds-grown graph allowed score upper high (leaf cert total) is low =
    (is.holds, subst (λ (n : ℤ). n ≤ℤ high) is.is_total low)
BoundHolds-grown graph allowed score upper high (fork total colour part first second) is low = (
  is.0.is_split,
  BoundHolds-grown graph (only graph allowed colour part) score upper high first is.3
      (joined (total_in first) total high (subst (λ (n : ℤ). total_in first ≤ℤ n) (sym is.1)
      (max-first (total_in first) (total_in second))) low),
  BoundHolds-grown graph (leaving allowed part) score upper high second is.4
      (joined (total_in second) total high (subst (λ (n : ℤ). total_in second ≤ℤ n) (sym is.1)
      (max-second (total_in first) (total_in second))) low),
)

pub splits_of-grown : (node : Grown) → splits_of (bound_in node) ≡ splits_in node
splits_of-grown (leaf cert total) = refl
splits_of-grown (fork total colour part first second) =
    ap₂ (λ a b. 1 + a + b) (splits_of-grown first) (splits_of-grown second)

one_only : {X : Type 0} (P : X → Type 0) (x : X) → P x → All P (x ∷ [])
one_only P x here zero d within = here
one_only P x here (suc k) d within = absurd (omega arith)

first_too : {X : Type 0} (P : X → Type 0) (x : X) (xs : List X) → P x → All P xs → All P (x ∷ xs)
first_too P x xs here rest zero d within = here
first_too P x xs here rest (suc k) d within = rest k d (omega arith)

pub tight-grown : (graph : Graph) (allowed : List Bool) (score upper : ℤ) (node : Grown) (at : ℕ)
    → Stands graph allowed score upper node → All (IsTight graph) (leaves_of graph allowed (bound_in node) at)
tight-grown graph allowed score upper (leaf cert total) at is =
    one_only (IsTight graph) (record { node = at; allowed = allowed; cert = cert })
    (subst (λ (n : ℤ). n ≤ℤ cap_of graph allowed) is.is_total is.capped)
tight-grown graph allowed score upper (fork total colour part first second) at is =
    All-append (IsTight graph) (leaves_of graph (only graph allowed colour part) (bound_in first) (at + 1))
    (leaves_of graph (leaving allowed part) (bound_in second) (at + 1 + nodes_of (bound_in first)))
    (tight-grown graph (only graph allowed colour part) score upper first (at + 1) is.3)
    (tight-grown graph (leaving allowed part) score upper second (at + 1 + nodes_of (bound_in first)) is.4)

above : (score total : ℤ) → score <ℤ total → total ≤ℤ score → ⊥
above score total more low = omega (arith, ints)

pub go_on-grown : (graph : Graph) (allowed : List Bool) (score upper : ℤ) (node : Grown) (at : ℕ)
    → Stands graph allowed score upper node → All (CanGoOn graph score) (leaves_of graph allowed (bound_in node) at)
go_on-grown graph allowed score upper (leaf cert total) at is =
    one_only (CanGoOn graph score) (record { node = at; allowed = allowed; cert = cert })
    (λ more decided. above score (price_total graph cert) more
    (subst (λ (n : ℤ). n ≤ℤ score) is.is_total (is.decided decided)))
go_on-grown graph allowed score upper (fork total colour part first second) at is =
    All-append (CanGoOn graph score) (leaves_of graph (only graph allowed colour part) (bound_in first) (at + 1))
    (leaves_of graph (leaving allowed part) (bound_in second) (at + 1 + nodes_of (bound_in first)))
    (go_on-grown graph (only graph allowed colour part) score upper first (at + 1) is.3)
    (go_on-grown graph (leaving allowed part) score upper second (at + 1 + nodes_of (bound_in first)) is.4)

pub useful-grown : (graph : Graph) (allowed : List Bool) (score upper : ℤ) (node : Grown) (at : ℕ)
    → Stands graph allowed score upper node
    → All (IsUseful graph upper) (split_nodes_of graph allowed (bound_in node) at)
useful-grown graph allowed score upper (leaf cert total) at is = All-nil (IsUseful graph upper)
useful-grown graph allowed score upper (fork total colour part first second) at is =
    first_too (IsUseful graph upper) (record { node = at; allowed = allowed })
    (split_nodes_of graph (only graph allowed colour part) (bound_in first) (at + 1)
    ++ split_nodes_of graph (leaving allowed part) (bound_in second) (at + 1 + nodes_of (bound_in first))) is.2
    (All-append (IsUseful graph upper) (split_nodes_of graph (only graph allowed colour part) (bound_in first) (at + 1))
    (split_nodes_of graph (leaving allowed part) (bound_in second) (at + 1 + nodes_of (bound_in first)))
    (useful-grown graph (only graph allowed colour part) score upper first (at + 1) is.3)
    (useful-grown graph (leaving allowed part) score upper second (at + 1 + nodes_of (bound_in first)) is.4))

-- the greatest total of the leaves of two sides
slice_get-before : {X : Type 0} (xs ys : List X) (place : ℕ) (x : X) → slice_get xs place ≡ Some x
    → slice_get (xs ++ ys) place ≡ Some x
slice_get-before [] ys place x is = absurd (differ is)
  where
    differ : slice_get [] place ≡ Some x → ⊥
    differ same = cc
slice_get-before (first ∷ xs) ys zero x there = there
slice_get-before (first ∷ xs) ys (suc place) x there = slice_get-before xs ys place x there

slice_get-behind : {X : Type 0} (xs ys : List X) (place behind : ℕ) (x : X) → behind ≡ length xs + place
    → slice_get ys place ≡ Some x
    → slice_get (xs ++ ys) behind ≡ Some x
slice_get-behind [] ys place behind x is there = subst (λ (n : ℕ). slice_get ys n ≡ Some x) (omega (arith, is)) there
slice_get-behind (first ∷ xs) ys place zero x is there = absurd (omega (arith, is))
slice_get-behind (first ∷ xs) ys place (suc behind) x is there =
    slice_get-behind xs ys place behind x (omega (arith, is)) there

max_is : (one other most : ℤ) → most ≡ int_max one other
    → ((most ≡ one) × (other ≤ℤ one)) ⊎ ((most ≡ other) × (one ≤ℤ other))
max_is one other most is = choose (int_cmp other one) (int_ranks other one)
  where
    choose : (order : Ordering) → MatchOrdering order (other <ℤ one) (other ≡ one) (one <ℤ other)
        → ((most ≡ one) × (other ≤ℤ one)) ⊎ ((most ≡ other) × (one ≤ℤ other))
    choose Less less = inl (omega (arith, ints, clamps, is), omega (arith, ints))
    choose Equal equal = inr (omega (arith, ints, clamps, is), omega (arith, ints))
    choose Greater less = inr (omega (arith, ints, clamps, is), omega (arith, ints))

raised : (graph : Graph) (leaves : List Leaf) (low high : ℤ) → low ≤ℤ high
    → All (λ leaf. price_total graph leaf.cert ≤ℤ low) leaves
    → All (λ leaf. price_total graph leaf.cert ≤ℤ high) leaves
raised graph leaves low high rises each k d within = joined _ low high (each k d within) rises

both : (graph : Graph) (first second : List Leaf) (one other most : ℤ) → IsGreatestTotal graph first one
    → IsGreatestTotal graph second other → most ≡ int_max one other → IsGreatestTotal graph (first ++ second) most
both graph first second one other most is its same = choose (max_is one other most same)
  where
    below : ℤ → Leaf → Type 0
    below upper leaf' = price_total graph leaf'.cert ≤ℤ upper

    choose : ((most ≡ one) × (other ≤ℤ one)) ⊎ ((most ≡ other) × (one ≤ℤ other))
        → IsGreatestTotal graph (first ++ second) most
    choose (inl greater) = rw greater.0 (record {
      most = All-append (below one) first second is.most (raised graph second other one greater.1 its.most);
      place = is.place;
      leaf = is.leaf;
      is_leaf = slice_get-before first second is.place is.leaf is.is_leaf;
      reached = is.reached;
    })
    choose (inr greater) = rw greater.0 (record {
      most = All-append (below other) first second (raised graph first one other greater.1 is.most) its.most;
      place = length first + its.place;
      leaf = its.leaf;
      is_leaf = slice_get-behind first second its.place (length first + its.place) its.leaf refl its.is_leaf;
      reached = its.reached;
    })

pub greatest-grown : (graph : Graph) (allowed : List Bool) (score upper : ℤ) (node : Grown) (at : ℕ)
    → Stands graph allowed score upper node
    → IsGreatestTotal graph (leaves_of graph allowed (bound_in node) at) (total_in node)
greatest-grown graph allowed score upper (leaf cert total) at is = record {
  most = one_only (λ leaf'. price_total graph leaf'.cert ≤ℤ total) here
      (subst (λ (n : ℤ). n ≤ℤ total) is.is_total (self total));
  place = 0;
  leaf = here;
  is_leaf = refl;
  reached = sym is.is_total;
}
  where
    here : Leaf
    here = record { node = at; allowed = allowed; cert = cert }
greatest-grown graph allowed score upper (fork total colour part first second) at is =
    both graph (leaves_of graph (only graph allowed colour part) (bound_in first) (at + 1))
    (leaves_of graph (leaving allowed part) (bound_in second) (at + 1 + nodes_of (bound_in first)))
    (total_in first) (total_in second) total
    (greatest-grown graph (only graph allowed colour part) score upper first (at + 1) is.3)
    (greatest-grown graph (leaving allowed part) score upper second (at + 1 + nodes_of (bound_in first)) is.4) is.1
