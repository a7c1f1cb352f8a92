-- Of IsGapPlace: a budget that was spent was wasted nowhere.
use Rattle.std.proofs.Common.{◌≡◌, ℕ, ℤ, ◌≤ℤ◌, List, Some, subst, arith}
use Rattle.std.proofs.lemmas.Int.{ints}
use Rattle.std.proofs.lemmas.Option.{get_or_from_slice_get, slice_get_within}
use Rattle.std.specs.List.{All}
use Rattle.std.specs.Prelude.{slice_get}
use Rattle.colour_graph.specs.Graph.{Graph}
use Rattle.tree_certificate.specs.BoundValue.{BoundValue}
use Rattle.tree_certificate.specs.PriceHolds.{price_total}
use Rattle.tree_certificate.specs.Spent.{CanGoOn, IsGreatestTotal, IsTight, IsUseful, Leaf, Spent}
use Rattle.entry_checker.specs.GapPlaces.{IsGapPlace, all_splits, all_leaves}
use Rattle.tree_entry.specs.declared.place.EntryPlace.{EntryPlace}
use Rattle.tree_entry.specs.declared.place.EntryPlace.TheVariants.{Splits, Loose, Slack, Wasted, Decided}

-- what holds of all items holds of the one at a place
all_at : {X : Type 0} (Is : X → Type 0) (items : List X) (place : ℕ) (item : X) → All Is items
    → slice_get items place ≡ Some item
    → Is item
all_at Is items place item all is =
    subst Is (get_or_from_slice_get items place item item is) (all place item (slice_get_within items place item is))

-- leaves have one greatest total
one_greatest : (graph : Graph) (leaves : List Leaf) (one other : ℤ) → IsGreatestTotal graph leaves one
    → IsGreatestTotal graph leaves other
    → one ≡ other
one_greatest graph leaves one other first second =
    same (price_total graph first.leaf.cert) (price_total graph second.leaf.cert) one other first.reached second.reached
    (all_at (λ leaf. price_total graph leaf.cert ≤ℤ other) leaves first.place first.leaf second.most first.is_leaf)
    (all_at (λ leaf. price_total graph leaf.cert ≤ℤ one) leaves second.place second.leaf first.most second.is_leaf)
  where
    same : (a b one other : ℤ) → a ≡ one → b ≡ other → a ≤ℤ other → b ≤ℤ one → one ≡ other
    same a b one other is also below above = omega (arith, ints)

pub no_gap_place : (graph : Graph) (bound : BoundValue) (score upper : ℤ) (budget : ℕ) (place : EntryPlace)
    → IsGapPlace graph bound score upper budget place → Spent graph bound score upper budget → ⊥
no_gap_place graph bound score upper budget (Splits splits) is spent = is.1 spent.splits
no_gap_place graph bound score upper budget (Loose greatest) is spent =
    is.2 (one_greatest graph _ greatest upper is.1 spent.greatest)
no_gap_place graph bound score upper budget (Slack node) is spent =
    is.1.wrong (all_at (IsTight graph) (all_leaves graph bound) is.1.place is.1.node spent.tight is.1.is_node)
no_gap_place graph bound score upper budget (Wasted node) is spent =
    is.1.wrong (all_at (IsUseful graph upper) (all_splits graph bound) is.1.place is.1.node spent.useful is.1.is_node)
no_gap_place graph bound score upper budget (Decided node) is spent =
    is.1.wrong (all_at (CanGoOn graph score) (all_leaves graph bound) is.1.place is.1.node spent.go_on is.1.is_node)
no_gap_place graph bound score upper budget other is spent = is
