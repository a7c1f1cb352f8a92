-- What is known of a table of which nothing is refused.
use Rattle.std.proofs.Common.{◌≡◌, ◌∙◌, ◌≤ℤ◌, ℕ, ℤ, Bool, true, false, ◌&&◌, List, ◌++◌, append-nil, Option, Some, None}
use Rattle.std.proofs.Common.{Ordering, Less, Equal, Greater, refl, ap, option_map, if◌then◌else◌}
use Rattle.std.specs.Prelude.{◌+◌, decimal, option_and_then, unwrap_or, int_le}
use Rattle.std.specs.Cmp.Lexicographic.{slice_cmp}
use Rattle.std.specs.Ordering.{nat_cmp, match_ordering}
use Rattle.element_table.specs.Elements.{symbols}
use Rattle.toml.specs.Data.{Data, string, integer, float, boolean, datetime, array, table, as_table, as_array}
use Rattle.toml.specs.Data.{as_integer, get_member, Items, no_items, item, Members, no_members, member}
use Rattle.profile.specs.Form.{Form, Known, number, rule, rules, form_at, has_keys, has_items, item_form, taken_at}
use Rattle.profile.specs.Form.{excess_of}
use Rattle.profile.specs.Places.{place_with, places_under, places_of_keys, places_of_items, point_after}
use Rattle.profile.specs.Refusal.{refusal_of, bad_at, over_at}
use Rattle.profile.specs.inside.Fine.{AreFine, AreFineLosses, IsFine, known_with}
use Rattle.profile.specs.Table.{number_at}
use Rattle.profile.specs.declared.fault.ProfileFault.TheVariants.{OverLimit}
use Rattle.std.proofs.lemmas.Float.{T_from_true}
use Rattle.std.proofs.lemmas.Map.Lookups.{exact_bytes}
use Rattle.profile.proofs.KindLaws.{array_is, table_is}
use Rattle.profile.proofs.Faults.{parts_fine, first_fine}

-- the value at a key, where the first key is this one or another
found_by_order : {P : Type 0} (order : Ordering) (here : Data) (rest : Option Data) (value : Data)
    → (order ≡ Equal → here ≡ value → P) → (rest ≡ Some value → P)
    → match_ordering order rest (Some here) rest ≡ Some value → P
found_by_order Less here rest value same other found = other found
found_by_order Equal here rest value same other found = same refl (let is : here ≡ value = cc in is)
found_by_order Greater here rest value same other found = other found

-- nothing at a key is refused, nor anything under it
pub fine_at : (known : Known) (form : Form) (before : List ℕ) (entries : Members) (key : List ℕ) (value : Data)
    → refusal_of (places_of_keys known form before entries) ≡ None → get_member key entries ≡ Some value
    → refusal_of (place_with known (form_at known form key) (before ++ key) value) ≡ None
fine_at known form before no_members key value fine found = cc
fine_at known form before (member first here entries) key value fine found =
    let (now, later) = parts_fine (place_with known (form_at known form first) (before ++ first) here)
    (places_of_keys known form before entries) fine in
    found_by_order (slice_cmp nat_cmp key first) here (get_member key entries) value
    (λ same is. rw (exact_bytes key first same, ← is) now)
    (λ found. fine_at known form before entries key value later found)
    found

le_from_test : (a b : ℤ) → int_le a b ≡ true → a ≤ℤ b
le_from_test a b is = record { le = T_from_true (int_le a b) is }

within_from_tests : (a b : Bool) (z : ℤ) → (if a && b then None else Some z) ≡ None → (a ≡ true) × (b ≡ true)
within_from_tests true true z none = (refl, refl)
within_from_tests true false z none = cc
within_from_tests false b z none = cc

pub nothing_told : {A B : Type 0} (f : A → B) (o : Option A) → option_map f o ≡ None → o ≡ None
nothing_told f None none = refl
nothing_told f (Some x) none = cc

-- a place of an integer with nothing over
pub in_range : (name : List ℕ) (least most z : ℤ)
    → over_at (record { name = name; form = number least most; value = integer z }) ≡ None → (least ≤ℤ z) × (z ≤ℤ most)
in_range name least most z none =
    let (a, b) = within_from_tests (int_le least z) (int_le z most) z
    (nothing_told (λ (n : ℤ). OverLimit name n) (excess_of (number least most) (integer z)) none) in
    (le_from_test least z a, le_from_test z most b)

number_or : (name : List ℕ) (least most other : ℤ) (value : Data)
    → over_at (record { name = name; form = number least most; value = value }) ≡ None → least ≤ℤ other → other ≤ℤ most
    → (least ≤ℤ unwrap_or (as_integer value) other) × (unwrap_or (as_integer value) other ≤ℤ most)
number_or name least most other (integer z) none a b = in_range name least most z none
number_or name least most other (string s) none a b = (a, b)
number_or name least most other (float x) none a b = (a, b)
number_or name least most other (boolean x) none a b = (a, b)
number_or name least most other (datetime dt) none a b = (a, b)
number_or name least most other (array ds) none a b = (a, b)
number_or name least most other (table ms) none a b = (a, b)

number_found : (form : Form) (entries : Members) (key : List ℕ) (least most other : ℤ) (found : Option Data)
    → (fine : IsFine form entries) → form_at (known_with fine.named) form key ≡ number least most → least ≤ℤ other
    → other ≤ℤ most
    → get_member key entries ≡ found → (least ≤ℤ unwrap_or (option_and_then as_integer found) other)
    × (unwrap_or (option_and_then as_integer found) other ≤ℤ most)
number_found form entries key least most other None fine is a b found = (a, b)
number_found form entries key least most other (Some value) fine is a b found =
    let known = known_with fine.named in
    let at = fine_at known form fine.before entries key value fine.nothing found in
    let parts = first_fine (record { name = fine.before ++ key; form = form_at known form key; value = value })
    (places_under known (form_at known form key) (point_after (fine.before ++ key)) value) at in
    number_or (fine.before ++ key) least most other value (rw is at parts.1) a b

-- the number at a key of a table of which nothing is refused is in its range, where the other is
pub number_in_range : (form : Form) (entries : Members) (key : List ℕ) (least most other : ℤ) → IsFine form entries
    → ((known : Known) → known.symbols ≡ symbols → form_at known form key ≡ number least most) → least ≤ℤ other
    → other ≤ℤ most
    → (least ≤ℤ number_at entries key other) × (number_at entries key other ≤ℤ most)
number_in_range form entries key least most other fine is a b =
    number_found form entries key least most other (get_member key entries) fine
    (is (known_with fine.named) refl) a b refl

-- what a look-up found, and what it holds
looked_up : {A B : Type 0} (f : A → Option B) (o : Option A) (inner : B) → option_and_then f o ≡ Some inner
    → (value : A) × (o ≡ Some value) × (f value ≡ Some inner)
looked_up f None inner is = cc
looked_up f (Some value) inner is = (value, refl, is)

-- a place of which nothing is refused, where a table stands
table_at_place : (named : List (List ℕ)) (form : Form) (name : List ℕ) (inner : Members) → has_keys form ≡ true
    → refusal_of (place_with (known_with named) form name (table inner)) ≡ None
    → (bad_at (record { name = name; form = form; value = table inner }) ≡ None) × IsFine form inner
table_at_place named form name inner keys fine =
    let (bad, over, under) = first_fine (record { name = name; form = form; value = table inner })
    (places_under (known_with named) form (point_after name) (table inner)) fine in
    (bad, record { before = point_after name; named = named; nothing = rw keys at under })

-- a table under a key of a table of which nothing is refused
pub fine_table : (form inside : Form) (entries : Members) (key : List ℕ) (inner : Members)
    → (fine : IsFine form entries) → ((known : Known) → form_at known form key ≡ inside) → has_keys inside ≡ true
    → option_and_then as_table (get_member key entries) ≡ Some inner
    → (bad_at (record { name = fine.before ++ key; form = inside; value = table inner }) ≡ None) × IsFine inside inner
fine_table form inside entries key inner fine inside_is keys is =
    let (value, found, holds) = looked_up as_table (get_member key entries) inner is in
    let known = known_with fine.named in
    let at = fine_at known form fine.before entries key value fine.nothing found in
    table_at_place fine.named inside (fine.before ++ key) inner keys
    (rw (table_is value inner holds, inside_is known) at at)

-- a table of losses under a key
pub fine_losses : (form inside : Form) (entries : Members) (key : List ℕ) (inner : Members)
    → (fine : IsFine form entries) → ((known : Known) → form_at known form key ≡ inside) → has_keys inside ≡ false
    → (taken : List (List ℕ)) → taken_at (known_with fine.named) inside ≡ Some taken
    → option_and_then as_table (get_member key entries) ≡ Some inner
    → (excess_of inside (table inner) ≡ None) × AreFineLosses taken inner
fine_losses form inside entries key inner fine inside_is keys taken taken_is is =
    let (value, found, holds) = looked_up as_table (get_member key entries) inner is in
    let known = known_with fine.named in
    let name : List ℕ = fine.before ++ key in
    let at = rw (table_is value inner holds, inside_is known) at
    (fine_at known form fine.before entries key value fine.nothing found) in
    let (bad, over, under) = first_fine (record { name = name; form = inside; value = table inner })
    (places_under known inside (point_after name) (table inner)) at in (
      nothing_told (λ (n : ℤ). OverLimit name n) (excess_of inside (table inner)) over,
      record { before = point_after name; nothing = rw (keys, taken_is) at under },
    )

-- the same of an array
pub fine_array : (form inside : Form) (entries : Members) (key : List ℕ) (inner : Items) → (fine : IsFine form entries)
    → ((known : Known) → form_at known form key ≡ inside) → has_items inside ≡ true
    → option_and_then as_array (get_member key entries) ≡ Some inner
    → (bad_at (record { name = fine.before ++ key; form = inside; value = array inner }) ≡ None)
    × (excess_of inside (array inner) ≡ None) × AreFine inside inner
fine_array form inside entries key inner fine inside_is items is =
    let (value, found, holds) = looked_up as_array (get_member key entries) inner is in
    let known = known_with fine.named in
    let name : List ℕ = fine.before ++ key in
    let at = rw (array_is value inner holds, inside_is known) at
    (fine_at known form fine.before entries key value fine.nothing found) in
    let (bad, over, under) = first_fine (record { name = name; form = inside; value = array inner })
    (places_under known inside (point_after name) (array inner)) at in (
      bad,
      nothing_told (λ (n : ℤ). OverLimit name n) (excess_of inside (array inner)) over,
      record { before = point_after name; number = 0; named = fine.named; nothing = rw items at under },
    )

-- the items after the first
pub fine_others : (form : Form) (value : Data) (items : Items) → AreFine form (item value items) → AreFine form items
fine_others form value items fine =
    let known = known_with fine.named in
    let (now, later) = parts_fine (place_with known (item_form form fine.number)
    (fine.before ++ decimal fine.number) value) (places_of_items known form fine.before (fine.number + 1) items)
    fine.nothing in
    record { before = fine.before; number = fine.number + 1; named = fine.named; nothing = later }

-- the first rule
pub fine_rule : (value : Data) (items : Items) (inner : Members) → AreFine rules (item value items)
    → as_table value ≡ Some inner → IsFine rule inner
fine_rule value items inner fine holds =
    let known = known_with fine.named in
    let (now, later) = parts_fine (place_with known rule (fine.before ++ decimal fine.number) value)
    (places_of_items known rules fine.before (fine.number + 1) items) fine.nothing in
    (table_at_place fine.named rule (fine.before ++ decimal fine.number) inner refl
    (rw (table_is value inner holds) at now)).1

-- the first rule by itself
pub fine_alone : (value : Data) (items : Items) → AreFine rules (item value items) → AreFine rules (item value no_items)
fine_alone value items fine =
    let known = known_with fine.named in
    let here = place_with known rule (fine.before ++ decimal fine.number) value in
    let (now, later) = parts_fine here (places_of_items known rules fine.before (fine.number + 1) items) fine.nothing in
    record {
      before = fine.before;
      number = fine.number;
      named = fine.named;
      nothing = ap refusal_of (append-nil here)
          ∙ now;
    }
