-- Of IsGreatestTotal: the greatest total of the leaves of a bound, by its sides.
use Rattle.std.proofs.Common.{◌≡◌, ◌+◌, ◌∙◌, ◌⊎◌, inl, inr, ℕ, zero, suc, ℤ, ◌≤ℤ◌, ◌<ℤ◌, Bool, List, [], ◌∷◌, ◌++◌}
use Rattle.std.proofs.Common.{Some, length, ap, refl, subst, arith}
use Rattle.std.proofs.lemmas.Int.{clamps, ints}
use Rattle.std.proofs.lemmas.List.Elements.{All-append, All-nil, All-push}
use Rattle.std.specs.Cmp.{int_ranks}
use Rattle.std.specs.Int.{int_max}
use Rattle.std.specs.List.{All, slice_get}
use Rattle.std.specs.Ordering.{MatchOrdering, int_cmp}
use Rattle.std.specs.declared.cmp.Ordering.{Ordering}
use Rattle.std.specs.declared.cmp.Ordering.TheVariants.{Less, Equal, Greater}
use Rattle.colour_graph.specs.Graph.{Graph}
use Rattle.tree_certificate.proofs.BoundValues.{value_of_split}
use Rattle.tree_certificate.specs.BoundHolds.{BoundHolds}
use Rattle.tree_certificate.specs.BoundValue.{BoundValue, PriceValue, priced, split}
use Rattle.tree_certificate.specs.BoundView.{bound_value}
use Rattle.tree_certificate.specs.PriceHolds.{AreNotNegative, FitsPrices, price_total}
use Rattle.tree_certificate.specs.Spent.{IsGreatestTotal, Leaf, leaves_of}
use Rattle.tree_certificate.specs.declared.bound.Bound.{Bound}
use Rattle.tree_certificate.specs.declared.bound.Bound.TheVariants.{Priced, Split}
use Rattle.colour_graph.specs.EdgeSet.{leaving, only}
use Rattle.certificate_checker.proofs.CapOf.{self}
use Rattle.entry_checker.proofs.Gathering.{slice_get-kept}
use Rattle.entry_checker.specs.inside.Gathered.{HasTotals}

-- a bound that holds has totals
pub HasTotals-holds : (graph : Graph) (allowed : List Bool) (bound : BoundValue) (upper : ℤ)
    → BoundHolds graph allowed bound upper
    → HasTotals graph bound
HasTotals-holds graph allowed (priced cert) upper holds = (holds.0.fits, holds.0.prices)
HasTotals-holds graph allowed (split colour part first second) upper holds = (
  HasTotals-holds graph (only graph allowed colour part) first upper holds.1,
  HasTotals-holds graph (leaving allowed part) second upper holds.2,
)

-- totals of prices, and of the sides of a split
pub HasTotals-priced : (graph : Graph) (bound : Bound) (cert : PriceValue) → bound ≡ Priced cert
    → HasTotals graph (bound_value bound)
    → FitsPrices graph cert × AreNotNegative cert.prices
HasTotals-priced graph bound cert is has = subst (λ (value : BoundValue). HasTotals graph value) (ap bound_value is) has

pub HasTotals-split : (graph : Graph) (bound : Bound) (colour : ℕ) (part : List ℕ) (first second : Bound)
    → bound ≡ Split colour part first second → HasTotals graph (bound_value bound)
    → HasTotals graph (bound_value first) × HasTotals graph (bound_value second)
HasTotals-split graph bound colour part first second is has =
    subst (λ (value : BoundValue). HasTotals graph value) (ap bound_value is
    ∙ value_of_split colour part first second) has

-- the total of one leaf
pub IsGreatestTotal-leaf : (graph : Graph) (leaf : Leaf)
    → IsGreatestTotal graph (leaf ∷ []) (price_total graph leaf.cert)
IsGreatestTotal-leaf graph leaf = record {
  most = All-push below [] leaf (All-nil below) (self (price_total graph leaf.cert));
  place = 0;
  leaf = leaf;
  is_leaf = refl;
  reached = refl;
}
  where
    below : Leaf → Type 0
    below other = price_total graph other.cert ≤ℤ price_total graph leaf.cert

-- the element at a place stands behind those of another list
slice_get-behind : {X : Type 0} (xs ys : List X) (place behind : ℕ) (x : X) → behind ≡ length xs + place
    → slice_get ys place ≡ Some x
    → slice_get (xs ++ ys) behind ≡ Some x
slice_get-behind [] ys place behind x is there = subst (λ (n : ℕ). slice_get ys n ≡ Some x) (omega (arith, is)) there
slice_get-behind (first ∷ xs) ys place zero x is there = absurd (omega (arith, is))
slice_get-behind (first ∷ xs) ys place (suc behind) x is there =
    slice_get-behind xs ys place behind x (omega (arith, is)) there

-- the greater of two numbers is one of them
max_is : (one other most : ℤ) → most ≡ int_max one other
    → ((most ≡ one) × (other ≤ℤ one)) ⊎ ((most ≡ other) × (one ≤ℤ other))
max_is one other most is = choose (int_cmp other one) (int_ranks other one)
  where
    choose : (order : Ordering) → MatchOrdering order (other <ℤ one) (other ≡ one) (one <ℤ other)
        → ((most ≡ one) × (other ≤ℤ one)) ⊎ ((most ≡ other) × (one ≤ℤ other))
    choose Less less = inl (omega (arith, ints, clamps, is), omega (arith, ints))
    choose Equal equal = inr (omega (arith, ints, clamps, is), omega (arith, ints))
    choose Greater less = inr (omega (arith, ints, clamps, is), omega (arith, ints))

raised : (graph : Graph) (leaves : List Leaf) (low high : ℤ) → low ≤ℤ high
    → All (λ leaf. price_total graph leaf.cert ≤ℤ low) leaves
    → All (λ leaf. price_total graph leaf.cert ≤ℤ high) leaves
raised graph leaves low high rises each k d within = joined _ (each k d within)
  where
    joined : (total : ℤ) → total ≤ℤ low → total ≤ℤ high
    joined total below = omega (arith, ints)

-- the greatest total of the leaves of two sides
both : (graph : Graph) (first second : List Leaf) (one other most : ℤ) → IsGreatestTotal graph first one
    → IsGreatestTotal graph second other → most ≡ int_max one other → IsGreatestTotal graph (first ++ second) most
both graph first second one other most is its same = choose (max_is one other most same)
  where
    below : ℤ → Leaf → Type 0
    below upper leaf = price_total graph leaf.cert ≤ℤ upper

    choose : ((most ≡ one) × (other ≤ℤ one)) ⊎ ((most ≡ other) × (one ≤ℤ other))
        → IsGreatestTotal graph (first ++ second) most
    choose (inl greater) = rw greater.0 (record {
      most = All-append (below one) first second is.most (raised graph second other one greater.1 its.most);
      place = is.place;
      leaf = is.leaf;
      is_leaf = slice_get-kept first second is.place is.leaf is.is_leaf;
      reached = is.reached;
    })
    choose (inr greater) = rw greater.0 (record {
      most = All-append (below other) first second (raised graph first one other greater.1 is.most) its.most;
      place = length first + its.place;
      leaf = its.leaf;
      is_leaf = slice_get-behind first second its.place (length first + its.place) its.leaf refl its.is_leaf;
      reached = its.reached;
    })

abbrev pub IsGreatestOf : Graph → Bound → ℤ → Type 0
IsGreatestOf graph bound most =
    (allowed : List Bool) → (node : ℕ) → IsGreatestTotal graph (leaves_of graph allowed (bound_value bound) node) most

pub IsGreatestOf-priced : (graph : Graph) (bound : Bound) (cert : PriceValue) (most : ℤ) → bound ≡ Priced cert
    → most ≡ price_total graph cert → IsGreatestOf graph bound most
IsGreatestOf-priced graph bound cert most is same allowed node =
    rw (same, is) (IsGreatestTotal-leaf graph (record { node = node; allowed = allowed; cert = cert }))

pub IsGreatestOf-split : (graph : Graph) (bound : Bound) (colour : ℕ) (part : List ℕ) (first second : Bound)
    (one other most : ℤ)
    → bound ≡ Split colour part first second → IsGreatestOf graph first one → IsGreatestOf graph second other
    → most ≡ int_max one other → IsGreatestOf graph bound most
IsGreatestOf-split graph bound colour part first second one other most is its others same allowed node =
    rw (ap bound_value is ∙ value_of_split colour part first second)
    (both graph _ _ one other most (its _ _) (others _ _) same)
