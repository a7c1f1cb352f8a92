-- The tests of a value by its kind, and the bounds of pairs.
use Rattle.std.proofs.Common.{◌≡◌, ◌∙◌, ◌≤◌, ◌<◌, ◌+◌, ℕ, suc, Bool, false, ◌&&◌, List, [], ◌∷◌, length, get_or, drop}
use Rattle.std.proofs.Common.{Some, None, ℤ, refl, ap, sym, arith, w64, FitsSigned, to_z, of_z}
use Rattle.std.specs.Ordering.{int_eq}
use Rattle.std.proofs.lemmas.Int.{to_z-of_z}
use Rattle.std.proofs.lemmas.List.{drop_all}
use Rattle.score_tables.specs.Tables.{are_ordered}
use Rattle.toml.specs.Data.{Data, string, integer, float, boolean, datetime, array, table, as_array, as_table, Items}
use Rattle.toml.specs.Data.{Members}
use Rattle.toml.specs.View.{items_view, members_view, view}
use Rattle.toml.proofs.Views.{items_view-drop}
use Rattle.toml.specs.declared.value.Value.{Value}
use Rattle.std.specs.Prelude.{String}
use Rattle.std.specs.declared.alloc.Global.{Global}
use Rattle.profile.specs.inside.Counted.{items_excess, keys_excess}
use Rattle.profile.specs.Form.{pair_bound, item_bounds, items_len, members_len, too_many}

pub items_len-view : (values : List Value) → items_len (items_view values) ≡ length values
items_len-view [] = refl
items_len-view (value ∷ values) = ap suc (items_len-view values)

pub members_len-view : (entries : List (String Global × Value)) → members_len (members_view entries) ≡ length entries
members_len-view [] = refl
members_len-view (entry ∷ entries) = ap suc (members_len-view entries)

pub table_is : (value : Data) (inner : Members) → as_table value ≡ Some inner → value ≡ table inner
table_is (table ms) inner is = let same : ms ≡ inner = cc in ap table same
table_is (string s) inner is = cc
table_is (integer z) inner is = cc
table_is (float x) inner is = cc
table_is (boolean x) inner is = cc
table_is (datetime dt) inner is = cc
table_is (array ds) inner is = cc

pub array_is : (value : Data) (inner : Items) → as_array value ≡ Some inner → value ≡ array inner
array_is (array ds) inner is = let same : ds ≡ inner = cc in ap array same
array_is (string s) inner is = cc
array_is (integer z) inner is = cc
array_is (float x) inner is = cc
array_is (boolean x) inner is = cc
array_is (datetime dt) inner is = cc
array_is (table ms) inner is = cc

-- how many items of an array are too many
pub items_excess-array : (greatest : ℕ) (value : Data) (values : List Value) → as_array value ≡ Some (items_view values)
    → items_excess greatest value ≡ too_many greatest (length values)
items_excess-array greatest value values is = rw (array_is value (items_view values) is, items_len-view values)

pub items_excess-none : (greatest : ℕ) (value : Data) → as_array value ≡ None → items_excess greatest value ≡ None
items_excess-none greatest (array ds) is = cc
items_excess-none greatest (string s) is = refl
items_excess-none greatest (integer z) is = refl
items_excess-none greatest (float x) is = refl
items_excess-none greatest (boolean b) is = refl
items_excess-none greatest (datetime dt) is = refl
items_excess-none greatest (table ms) is = refl

-- how many keys of a table are
pub keys_excess-table : (greatest : ℕ) (value : Data) (entries : List (String Global × Value))
    → as_table value ≡ Some (members_view entries) → keys_excess greatest value ≡ too_many greatest (length entries)
keys_excess-table greatest value entries is = rw (table_is value (members_view entries) is, members_len-view entries)

pub keys_excess-none : (greatest : ℕ) (value : Data) → as_table value ≡ None → keys_excess greatest value ≡ None
keys_excess-none greatest (table ms) is = cc
keys_excess-none greatest (string s) is = refl
keys_excess-none greatest (integer z) is = refl
keys_excess-none greatest (float x) is = refl
keys_excess-none greatest (boolean b) is = refl
keys_excess-none greatest (datetime dt) is = refl
keys_excess-none greatest (array ds) is = refl

-- the bounds from a place on
pub bounds_from : List Value → ℕ → List ℤ
bounds_from values place = item_bounds (items_view (drop place values))

bounds_from-drop : (values : List Value) (place : ℕ) (none : Value) → place < length values
    → bounds_from values place ≡ pair_bound (view (get_or values place none)) ∷ bounds_from values (place + 1)
unfolding bounds_from
bounds_from-drop values place none within = ap item_bounds (items_view-drop values place none within)

bounds_from-end : (values : List Value) (place : ℕ) → length values ≤ place → bounds_from values place ≡ []
unfolding bounds_from
bounds_from-end values place past = rw (drop_all place values past)

-- their order: none, the last, and one before others
pub ordered_none : (comes : ℤ → ℤ → Bool) (last : ℤ) (values : List Value) (place : ℕ) → length values ≤ place
    → are_ordered comes last (bounds_from values place) ≡ false
ordered_none comes last values place past = rw (bounds_from-end values place past)

pub ordered_last : (comes : ℤ → ℤ → Bool) (last : ℤ) (values : List Value) (place : ℕ) (none : Value)
    → place + 1 ≡ length values
    → are_ordered comes last (bounds_from values place) ≡ int_eq (pair_bound (view (get_or values place none))) last
ordered_last comes last values place none is =
    rw (bounds_from-drop values place none (omega arith), bounds_from-end values (place + 1) (omega arith))

pub ordered_more : (comes : ℤ → ℤ → Bool) (last : ℤ) (values : List Value) (place : ℕ) (none : Value)
    → place + 1 < length values
    → are_ordered comes last (bounds_from values place)
    ≡ (comes (pair_bound (view (get_or values place none))) (pair_bound (view (get_or values (place + 1) none)))
    && are_ordered comes last (bounds_from values (place + 1)))
ordered_more comes last values place none within =
    let next = bounds_from-drop values (place + 1) none within in
    ap (are_ordered comes last) (bounds_from-drop values place none (omega arith)
    ∙ ap (λ bounds. pair_bound (view (get_or values place none)) ∷ bounds) next)
    ∙ ap (λ bounds. comes (pair_bound (view (get_or values place none)))
    (pair_bound (view (get_or values (place + 1) none))) && are_ordered comes last bounds) (sym next)

pub bounds_from-start : (values : List Value) → bounds_from values 0 ≡ item_bounds (items_view values)
unfolding bounds_from
bounds_from-start values = refl

-- the same of bounds that a program compared
pub ordered_step : (comes : ℤ → ℤ → Bool) (last : ℤ) (values : List Value) (place : ℕ) (value next : Value)
    (bound next_bound : ℤ) (answer : Bool) → place + 1 < length values
    → get_or values place value ≡ value → get_or values (place + 1) value ≡ next → bound ≡ pair_bound (view value)
    → next_bound ≡ pair_bound (view next) → FitsSigned w64 bound → FitsSigned w64 next_bound
    → answer ≡ comes (to_z w64 (of_z w64 bound)) (to_z w64 (of_z w64 next_bound))
    → are_ordered comes last (bounds_from values place)
    ≡ (answer && are_ordered comes last (bounds_from values (place + 1)))
ordered_step comes last values place value next bound next_bound answer within here there bound_is next_is fits
    fits_next is =
    let at : to_z w64 (of_z w64 bound) ≡ pair_bound (view (get_or values place value)) = to_z-of_z w64 bound fits
    ∙ bound_is ∙ ap (λ v. pair_bound (view v)) (sym here) in
    let after : to_z w64 (of_z w64 next_bound) ≡ pair_bound (view (get_or values (place + 1) value)) =
    to_z-of_z w64 next_bound fits_next ∙ next_is ∙ ap (λ v. pair_bound (view v)) (sym there) in
    let compared : answer ≡ comes (pair_bound (view (get_or values place value)))
    (pair_bound (view (get_or values (place + 1) value))) = is ∙ ap (λ z. comes z (to_z w64 (of_z w64 next_bound))) at
    ∙ ap (comes (pair_bound (view (get_or values place value)))) after in
    ordered_more comes last values place value within
    ∙ ap (λ t. t && are_ordered comes last (bounds_from values (place + 1))) (sym compared)
