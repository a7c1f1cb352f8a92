-- Of sorted_losses and IsLossTable: tables of losses, sorted and searched.
use Rattle.std.proofs.Common.{◌≡◌, ◌≢◌, ◌∙◌, ◌<◌, ◌≤◌, ◌+◌, ℕ, ℤ, pos, Bool, true, false, cond, List, [], ◌∷◌, length}
use Rattle.std.proofs.Common.{get_or, Option, Some, None, Ok, Err, refl, sym, ap, arith, T, AllPairs, Contains}
use Rattle.std.specs.Prelude.{slice_get}
use Rattle.std.specs.Cmp.{eq_by_cmp_equiv, tied_itself}
use Rattle.std.specs.FinMap.{find, is_sorted, put}
use Rattle.std.specs.FinMap.Entries.{below_all, by_order, find-put, is_sorted-put, same_entries}
use Rattle.std.specs.List.{All, AllByRecursion, IsDistinct}
use Rattle.std.specs.List.Sorted.{IsBinarySearchResult, IsPermutation, IsSorted, IsSortedByKey, IsStrictlySortedBy}
use Rattle.std.specs.Map.{keys_of, lookup}
use Rattle.std.specs.Ordering.{eq_by_cmp, is_eq, is_lt, ordering_reverse}
use Rattle.std.specs.declared.cmp.Ordering.{Ordering}
use Rattle.std.specs.declared.cmp.Ordering.TheVariants.{Less, Equal, Greater}
use Rattle.std.proofs.lemmas.Bool.{and_from, and_parts}
use Rattle.std.proofs.lemmas.Cmp.{nat_list_cmp_total}
use Rattle.std.proofs.lemmas.Float.{T_from_true}
use Rattle.std.proofs.lemmas.List.{get_or-map, length-map}
use Rattle.std.proofs.lemmas.List.Elements.{All-cons, All-head, All-tail}
use Rattle.std.proofs.lemmas.List.Sorted.{All-permutation, Contains-permutation, length_permutation, IsPermutation-map}
use Rattle.std.proofs.lemmas.List.Sorted.{IsPermutation-sym, searchable_from_sorted}
use Rattle.std.proofs.lemmas.Map.Entries.{lookup_at_gap, lookup_from_place, place_from_lookup}
use Rattle.std.proofs.lemmas.Map.Keys.{IsDistinct-from_sorted, IsDistinct-IsPermutation, sorted_from_all_adjacent}
use Rattle.std.proofs.lemmas.Map.Keys.{sorted_head, sorted_tail, Less-from_sorted}
use Rattle.std.proofs.lemmas.Map.Lookups.{exact_bytes}
use Rattle.std.proofs.lemmas.Option.{get_or_from_slice_get, slice_get_within, slice_get-get_or}
use Rattle.element_table.specs.Formula.{IsFormula, empty_formula, formula_cmp}
use Rattle.element_table.specs.Rule.{IsNearZero}
use Rattle.score_tables.specs.Tables.{IsLossTable, IsScores, LossTable, LossesRise, ScoresValue, greatest_score}
use Rattle.score_tables.specs.Tables.{in_formula_order, sorted_losses}

below_from_rising : (loss : List ℕ) (losses : LossTable)
    → AllByRecursion (λ later. formula_cmp loss later ≡ Less) (keys_of losses) → below_all formula_cmp loss losses
    ≡ true
below_from_rising loss [] rising = refl
below_from_rising loss (entry ∷ losses) rising =
    and_from _ _ (ap is_lt rising.0) (below_from_rising loss losses rising.1)

-- losses that rise are sorted, by the test
sorted_from_rising : (losses : LossTable) → LossesRise losses → is_sorted formula_cmp losses ≡ true
sorted_from_rising [] rising = refl
sorted_from_rising (entry ∷ losses) rising =
    and_from _ _ (below_from_rising entry.0 losses (sorted_head formula_cmp entry.0 (keys_of losses) rising))
    (sorted_from_rising losses (sorted_tail formula_cmp entry.0 (keys_of losses) rising))

-- the sorted losses of a table are sorted
sorted_losses-sorted : (losses : LossTable) → T (is_sorted formula_cmp (sorted_losses losses))
sorted_losses-sorted [] = tt
sorted_losses-sorted (entry ∷ losses) =
    is_sorted-put formula_cmp nat_list_cmp_total entry.0 entry.1 (sorted_losses losses) (sorted_losses-sorted losses)

-- and a look-up in them finds what it finds in the table
pub find-sorted_losses : (loss : List ℕ) (losses : LossTable)
    → find formula_cmp loss (sorted_losses losses) ≡ find formula_cmp loss losses
find-sorted_losses loss [] = refl
find-sorted_losses loss (entry ∷ losses) =
    find-put formula_cmp nat_list_cmp_total loss entry.0 entry.1 (sorted_losses losses)
    ∙ ap (cond (eq_by_cmp formula_cmp loss entry.0) (Some entry.1)) (find-sorted_losses loss losses)

find-lookup : (loss : List ℕ) (losses : LossTable)
    → find formula_cmp loss losses ≡ lookup (eq_by_cmp formula_cmp loss) losses
find-lookup loss [] = refl
find-lookup loss (entry ∷ losses) =
    ap (cond (eq_by_cmp formula_cmp loss entry.0) (Some entry.1)) (find-lookup loss losses)

contained : (losses : LossTable) (i : ℕ) (entry : List ℕ × ℤ) → slice_get losses i ≡ Some entry → Contains losses entry
contained losses i entry is = (i, slice_get_within losses i entry is, get_or_from_slice_get losses i entry entry is)

placed : (losses : LossTable) (entry : List ℕ × ℤ) → Contains losses entry → (i : ℕ) × (slice_get losses i ≡ Some entry)
placed losses entry has = (has.0, slice_get-get_or losses has.0 entry has.1 ∙ ap Some has.2)

equal_from_test : (order : Ordering) → is_eq order ≡ true → order ≡ Equal
equal_from_test Less is = cc
equal_from_test Equal is = refl
equal_from_test Greater is = cc

-- what is found in a table is found where its entries stand in another order
found_moved : (losses moved : LossTable) → IsDistinct (eq_by_cmp formula_cmp) (keys_of moved)
    → IsPermutation losses moved → (loss : List ℕ) (score : ℤ)
    → lookup (eq_by_cmp formula_cmp loss) losses ≡ Some score → lookup (eq_by_cmp formula_cmp loss) moved ≡ Some score
found_moved losses moved distinct is loss score found =
    let (i, key, at, same) = place_from_lookup (eq_by_cmp formula_cmp loss) losses score found in
    let (j, there) =
    placed moved (key, score)
    (Contains-permutation losses moved (key, score) is (contained losses i (key, score) at)) in
    let key_is : loss ≡ key = exact_bytes loss key (equal_from_test (formula_cmp loss key) same) in
    rw key_is (lookup_from_place (eq_by_cmp_equiv nat_list_cmp_total) moved j key score distinct there)

same_found : (one other : Option ℤ) → ((score : ℤ) → one ≡ Some score → other ≡ Some score)
    → ((score : ℤ) → other ≡ Some score → one ≡ Some score) → one ≡ other
same_found None None there back = refl
same_found None (Some score) there back = back score refl
same_found (Some score) other there back = sym (there score refl)

-- the losses of a table are distinct, as the laws of look-ups say it
distinct_keys : (losses : LossTable) → AllPairs (λ first later. first.0 ≢ later.0) losses
    → AllPairs (λ first later. first ≢ later) (keys_of losses)
distinct_keys losses apart i j none before within =
    let inside : j < length losses = rw length-map at within in
    rw (
      get_or-map (λ (entry : List ℕ × ℤ). entry.0) losses i (none, pos 0) none (omega arith),
      get_or-map
          (λ (entry : List ℕ × ℤ). entry.0) losses j (none, pos 0) none inside,
    ) (apart i j (none, pos 0) before inside)

sorted_keys : (losses : LossTable) → IsSortedByKey (λ (entry : List ℕ × ℤ). entry.0) formula_cmp losses
    → IsSorted formula_cmp (keys_of losses)
sorted_keys losses in_order k none low within =
    let inside : k + 1 < length losses = rw length-map at within in
    rw (
      get_or-map (λ (entry : List ℕ × ℤ). entry.0) losses (k + 1) (none, pos 0) none inside,
      get_or-map
          (λ (entry : List ℕ × ℤ). entry.0) losses k (none, pos 0) none (omega arith),
    )
    (in_order k (none, pos 0) low inside)

-- distinct losses that were sorted rise
pub rising_after_sort : (losses moved : LossTable) → AllPairs (λ first later. first.0 ≢ later.0) losses
    → IsPermutation losses moved → IsSortedByKey (λ (entry : List ℕ × ℤ). entry.0) formula_cmp moved
    → ((formulas sorted : List (List ℕ)) → AllPairs (λ first later. first ≢ later) formulas
    → IsPermutation formulas sorted → IsSorted formula_cmp sorted
    → AllPairs (λ first later. formula_cmp first later ≡ Less) sorted)
    → LossesRise moved
rising_after_sort losses moved apart is in_order rises =
    let rising =
    rises (keys_of losses) (keys_of moved) (distinct_keys losses apart)
    (IsPermutation-map (λ (entry : List ℕ × ℤ). entry.0) losses moved is) (sorted_keys moved in_order) in
    sorted_from_all_adjacent nat_list_cmp_total (keys_of moved) []
    (λ k within. rising k (k + 1) [] (omega arith) within)

-- they are the sorted losses of the table
pub sorted_losses_after_sort : (losses moved : LossTable) → LossesRise moved → IsPermutation losses moved
    → moved ≡ sorted_losses losses
sorted_losses_after_sort losses moved rising is =
    let distinct = IsDistinct-from_sorted formula_cmp (keys_of moved) rising in
    let back = IsPermutation-sym losses moved is in
    let distinct_before =
    IsDistinct-IsPermutation (eq_by_cmp formula_cmp) (eq_by_cmp_equiv nat_list_cmp_total).symm (keys_of moved)
    (keys_of losses) (IsPermutation-map (λ (entry : List ℕ × ℤ). entry.0) moved losses back) distinct in
    same_entries formula_cmp nat_list_cmp_total exact_bytes moved (sorted_losses losses)
    (T_from_true _ (sorted_from_rising moved rising)) (sorted_losses-sorted losses) (λ loss.
    find-lookup loss moved
    ∙ same_found (lookup (eq_by_cmp formula_cmp loss) moved) (lookup (eq_by_cmp formula_cmp loss) losses)
    (found_moved moved losses distinct_before back loss) (found_moved losses moved distinct is loss)
    ∙ sym (find-lookup loss losses) ∙ sym (find-sorted_losses loss losses))

turned : (loss key : List ℕ) (order : Ordering) → formula_cmp key loss ≡ order
    → formula_cmp loss key ≡ ordering_reverse order
turned loss key order is = nat_list_cmp_total.antisymm loss key ∙ ap ordering_reverse is

-- what a binary search finds
pub hit : (losses : LossTable) (loss : List ℕ) (i : ℕ) (none : List ℕ × ℤ) → LossesRise losses → i < length losses
    → IsBinarySearchResult (λ (entry : List ℕ × ℤ). formula_cmp entry.0 loss) losses (Ok i)
    → find formula_cmp loss losses ≡ Some (get_or losses i none).1
hit losses loss i none rising inside found =
    let entry = get_or losses i none in
    let key_is : entry.0 ≡ loss = exact_bytes entry.0 loss (found none) in
    find-lookup loss losses ∙ rw (← key_is)
    (lookup_from_place (eq_by_cmp_equiv nat_list_cmp_total) losses i entry.0 entry.1
    (IsDistinct-from_sorted formula_cmp (keys_of losses) rising) (slice_get-get_or losses i none inside))

true_from_T : (b : Bool) → T b → b ≡ true
true_from_T true holds = refl
true_from_T false holds = absurd holds

-- losses that rise do not fall
not_falling : (losses : LossTable) → LossesRise losses
    → IsSortedByKey (λ (entry : List ℕ × ℤ). entry.0) formula_cmp losses
not_falling losses rising k entry low within =
    let inside : k + 1 < length (keys_of losses) = rw length-map within in
    let less = Less-from_sorted formula_cmp (keys_of losses) k (k + 1) entry.0 rising (omega arith) inside in
    let here : formula_cmp (get_or losses k entry).0 (get_or losses (k + 1) entry).0 ≡ Less =
    rw (
      get_or-map (λ (entry : List ℕ × ℤ). entry.0) losses k entry entry.0 (omega arith),
      get_or-map
          (λ (entry : List ℕ × ℤ). entry.0) losses (k + 1) entry entry.0 within,
    ) at less in
    ap is_lt (turned (get_or losses (k + 1) entry).0 (get_or losses k entry).0 Less here)

-- and what it does not
pub missed : (losses : LossTable) (loss : List ℕ) (i : ℕ) → LossesRise losses → i ≤ length losses
    → IsBinarySearchResult (λ (entry : List ℕ × ℤ). formula_cmp entry.0 loss) losses (Err i)
    → find formula_cmp loss losses ≡ None
missed losses loss i rising inside parted =
    let (below, above) =
    parted (searchable_from_sorted nat_list_cmp_total (λ (entry : List ℕ × ℤ). entry.0) losses loss
    (not_falling losses rising)) in
    find-lookup loss losses ∙ lookup_at_gap nat_list_cmp_total loss losses i rising
    (λ j entry before at. turned loss entry.0 Less
    (rw (get_or_from_slice_get losses j entry entry at) at (below j entry (omega arith) before)))
    (λ entry at. turned loss entry.0 Greater
    (rw (get_or_from_slice_get losses i entry entry at) at
    (above i entry (omega arith) (slice_get_within losses i entry at))))

-- losses that rise are distinct
distinct_from_rising : (losses : LossTable) → LossesRise losses → AllPairs (λ first later. first.0 ≢ later.0) losses
distinct_from_rising losses rising i j entry before within same =
    let inside : j < length (keys_of losses) = rw length-map within in
    let less = Less-from_sorted formula_cmp (keys_of losses) i j entry.0 rising before inside in
    let here : formula_cmp (get_or losses i entry).0 (get_or losses j entry).0 ≡ Less =
    rw (
      get_or-map (λ (entry : List ℕ × ℤ). entry.0) losses i entry entry.0 (omega arith),
      get_or-map
          (λ (entry : List ℕ × ℤ). entry.0) losses j entry entry.0 within,
    ) at less in
    let itself : formula_cmp (get_or losses j entry).0 (get_or losses j entry).0 ≡ Less = rw same at here in
    let tied = tied_itself nat_list_cmp_total (get_or losses j entry).0 in
    let both : Less ≡ Equal = sym itself ∙ tied in
    cc

-- a table of losses stays one where it is sorted
pub loss_table_after_sort : (losses moved : LossTable) → IsLossTable losses → IsPermutation losses moved
    → LossesRise moved → IsLossTable moved
loss_table_after_sort losses moved table is rising = record {
  few = rw (length_permutation losses moved is) table.few;
  formulas = All-permutation (λ (entry : List ℕ × ℤ). IsFormula entry.0) losses moved is table.formulas;
  some_atom = All-permutation (λ (entry : List ℕ × ℤ). entry.0 ≢ empty_formula) losses moved is table.some_atom;
  distinct = distinct_from_rising moved rising;
  scores = All-permutation (λ (entry : List ℕ × ℤ). IsNearZero greatest_score entry.1) losses moved is table.scores;
}

-- what holds of an entry and of a table holds of the table with the entry in its place
all_put : (P : List ℕ × ℤ → Type 0) (loss : List ℕ) (score : ℤ) (losses : LossTable) → P (loss, score) → All P losses
    → All P (put formula_cmp loss score losses)
all_put P loss score [] here all = All-cons P (loss, score) [] here all
all_put P loss score (entry ∷ losses) here all =
    by_place (all_put P loss score losses here (All-tail P entry losses all)) (formula_cmp loss entry.0) refl
  where
    by_place : All P (put formula_cmp loss score losses) → (order : Ordering) → formula_cmp loss entry.0 ≡ order
        → All P (by_order order ((loss, score) ∷ entry ∷ losses) ((entry.0, score) ∷ losses)
        (entry ∷ put formula_cmp loss score losses))
    by_place later Less is = All-cons P (loss, score) (entry ∷ losses) here all
    by_place later Equal is =
        let same : loss ≡ entry.0 = exact_bytes loss entry.0 is in
        All-cons P (entry.0, score) losses (rw same at here) (All-tail P entry losses all)
    by_place later Greater is = All-cons P entry (put formula_cmp loss score losses) (All-head P entry losses all) later

all_sorted : (P : List ℕ × ℤ → Type 0) (losses : LossTable) → All P losses → All P (sorted_losses losses)
all_sorted P [] all = all
all_sorted P (entry ∷ losses) all =
    all_put P entry.0 entry.1 (sorted_losses losses) (All-head P entry losses all)
    (all_sorted P losses (All-tail P entry losses all))

length-put : (loss : List ℕ) (score : ℤ) (losses : LossTable)
    → length (put formula_cmp loss score losses) ≤ length losses + 1
length-put loss score [] = omega arith
length-put loss score (entry ∷ losses) =
    let rest = length-put loss score losses in
    elim (formula_cmp loss entry.0) as
    (λ order. length (by_order order ((loss, score) ∷ entry ∷ losses) ((entry.0, score) ∷ losses)
    (entry ∷ put formula_cmp loss score losses)) ≤ length (entry ∷ losses) + 1) [
      | Less ↦ omega arith
      | Equal ↦ omega arith
      | Greater ↦ omega arith
    ]

length-sorted_losses : (losses : LossTable) → length (sorted_losses losses) ≤ length losses
length-sorted_losses [] = omega arith
length-sorted_losses (entry ∷ losses) =
    let put_len = length-put entry.0 entry.1 (sorted_losses losses) in
    let rest = length-sorted_losses losses in
    omega arith

less_from_test : (order : Ordering) → is_lt order ≡ true → order ≡ Less
less_from_test Less is = refl
less_from_test Equal is = cc
less_from_test Greater is = cc

rising_below : (loss : List ℕ) (losses : LossTable) → below_all formula_cmp loss losses ≡ true
    → AllByRecursion (λ later. formula_cmp loss later ≡ Less) (keys_of losses)
rising_below loss [] is = tt
rising_below loss (entry ∷ losses) is =
    let (first, rest) = and_parts (is_lt (formula_cmp loss entry.0)) (below_all formula_cmp loss losses) is in
    (less_from_test (formula_cmp loss entry.0) first, rising_below loss losses rest)

rising_from_sorted : (losses : LossTable) → is_sorted formula_cmp losses ≡ true → LossesRise losses
unfolding IsStrictlySortedBy
rising_from_sorted [] is = tt
rising_from_sorted (entry ∷ losses) is =
    let (first, rest) = and_parts (below_all formula_cmp entry.0 losses) (is_sorted formula_cmp losses) is in
    (rising_below entry.0 losses first, rising_from_sorted losses rest)

-- the sorted losses of a table are one
sorted_losses-table : (losses : LossTable) → IsLossTable losses → IsLossTable (sorted_losses losses)
sorted_losses-table losses table = record {
  few = let len = length-sorted_losses losses in let few = table.few in omega arith;
  formulas = all_sorted (λ (entry : List ℕ × ℤ). IsFormula entry.0) losses table.formulas;
  some_atom = all_sorted (λ (entry : List ℕ × ℤ). entry.0 ≢ empty_formula) losses table.some_atom;
  distinct =
      distinct_from_rising (sorted_losses losses)
      (rising_from_sorted (sorted_losses losses)
      (true_from_T (is_sorted formula_cmp (sorted_losses losses)) (sorted_losses-sorted losses)));
  scores = all_sorted (λ (entry : List ℕ × ℤ). IsNearZero greatest_score entry.1) losses table.scores;
}

pub in_formula_order-right : (scores : ScoresValue) → IsScores scores → IsScores (in_formula_order scores)
in_formula_order-right scores right = record {
  intensity = right.intensity;
  error = right.error;
  named = sorted_losses-table scores.named right.named;
  implausible = sorted_losses-table scores.implausible right.implausible;
  radical = right.radical;
  negative = right.negative;
  not_small = right.not_small;
  not_large = right.not_large;
}
