-- The scores of a table of which nothing is refused.
use Rattle.std.proofs.Common.{◌≡◌, ◌≢◌, ◌∙◌, ◌≤◌, ◌+◌, ◌≤ℤ◌, ℕ, zero, suc, ℤ, pos, negsuc, Bool, true, false, not, ◌&&◌}
use Rattle.std.proofs.Common.{List, [], ◌∷◌, ◌++◌, length, Option, Some, None, Result, Ok, Err, refl, sym, ap, subst}
use Rattle.std.proofs.Common.{arith, codes, bytes_eq, if◌then◌else◌, inl, inr}
use Rattle.std.specs.Prelude.{All, AllPairs, decimal, is_some, option_and_then, unwrap_or}
use Rattle.std.specs.List.{list_any}
use Rattle.std.specs.Option.{option_map_or}
use Rattle.std.proofs.lemmas.Bool.{and_parts, cases_lt, lt-leb, not-true}
use Rattle.std.proofs.lemmas.Int.{ints}
use Rattle.std.proofs.lemmas.List.Elements.{All-cons, All-nil}
use Rattle.std.proofs.lemmas.List.Folds.{list_any-append}
use Rattle.std.proofs.lemmas.Slice.Eq.{bytes_eq-Decides}
use Rattle.element_table.specs.Formula.{IsFormula, empty_formula}
use Rattle.element_table.specs.FormulaReading.{formula_of}
use Rattle.element_table.specs.Rule.{IsNearZero}
use Rattle.score_tables.specs.Default.{default_tables}
use Rattle.score_tables.specs.Tables.{IsLossTable, IsScores, IsShareTable, LossTable, ShareTable, bounds_of}
use Rattle.score_tables.specs.Tables.{falls_to_nought, greatest_losses, greatest_pairs, greatest_score, greatest_share}
use Rattle.score_tables.specs.Tables.{greatest_size, least_size, rises_to_whole}
use Rattle.toml.specs.Data.{Data, string, integer, float, boolean, datetime, array, table, as_array, as_integer}
use Rattle.toml.specs.Data.{as_table, get_member, Items, no_items, item, Members, no_members, member}
use Rattle.profile.specs.inside.Fine.{AreFine, AreFineLosses, AreNearScores, AreShareItems, IsFine, IsShareItem}
use Rattle.profile.specs.inside.Fine.{known_with}
use Rattle.profile.specs.Form.{Form, scores, intensities, errors, pair, named_losses, implausible_losses, loss, number}
use Rattle.profile.specs.Form.{score, are_pairs, pair_bound, has_kind, is_pair, item_bounds, item_form, items_len}
use Rattle.profile.specs.Form.{members_len, too_many}
use Rattle.profile.specs.Losses.{is_free, key_formula, read_formula, taken_with}
use Rattle.profile.specs.Places.{place_with, places_of_items, places_of_losses, places_under, point_after}
use Rattle.profile.specs.Refusal.{over_at, refusal_of}
use Rattle.profile.specs.Table.{number_at}
use Rattle.profile.specs.Values.{as_count, loss_said, losses_said, shares_said, tables_said}
use Rattle.profile.specs.declared.fault.ProfileFault.TheVariants.{BadValue}
use Rattle.profile.proofs.Faults.{first_fine, parts_fine}
use Rattle.profile.proofs.FineLaws.{fine_array, fine_losses, fine_others, in_range, number_in_range}
use Rattle.profile.proofs.LimitLaws.{as_count-le, kind_right, pos-as_count}

-- ---- pairs

integer_is : (value : Data) → is_some (as_integer value) ≡ true → (z : ℤ) × (value ≡ integer z)
integer_is (integer z) is = (z, refl)
integer_is (string s) is = cc
integer_is (float x) is = cc
integer_is (boolean b) is = cc
integer_is (datetime dt) is = cc
integer_is (array ds) is = cc
integer_is (table ms) is = cc

pair_of : ℤ → ℤ → Data
pair_of bound points = array (item (integer bound) (item (integer points) no_items))

pair_is : (value : Data) → is_pair value ≡ true → (bound : ℤ) × (points : ℤ) × (value ≡ pair_of bound points)
unfolding pair_of
pair_is (integer z) is = cc
pair_is (string s) is = cc
pair_is (float x) is = cc
pair_is (boolean b) is = cc
pair_is (datetime dt) is = cc
pair_is (table ms) is = cc
pair_is (array no_items) is = cc
pair_is (array (item first no_items)) is =
    let (one, more) = and_parts (is_some (as_integer first)) false is in
    cc
pair_is (array (item first (item second no_items))) is =
    let (one, more) = and_parts (is_some (as_integer first)) (is_some (as_integer second) && true) is in
    let (two, none) = and_parts (is_some (as_integer second)) true more in
    let (bound, bound_is) = integer_is first one in
    let (points, points_is) = integer_is second two in (
      bound,
      points,
      ap (λ d. array (item d (item second no_items))) bound_is
          ∙ ap (λ d. array (item (integer bound) (item d no_items))) points_is,
    )
pair_is (array (item first (item second (item third rest)))) is =
    let (one, more) = and_parts (is_some (as_integer first)) (is_some (as_integer second) && false) is in
    let (two, none) = and_parts (is_some (as_integer second)) false more in
    cc

pair_in_range : (named : List (List ℕ)) (before : List ℕ) (bound points : ℤ)
    → refusal_of (places_under (known_with named) pair before (pair_of bound points)) ≡ None
    → IsShareItem (pair_of bound points)
unfolding pair_of
pair_in_range named before bound points fine =
    let (bad, over, rest) = first_fine (record {
      name = before ++ decimal 0;
      form = number (pos 0) (pos greatest_share);
      value = integer bound;
    }) (record { name = before ++ decimal 1; form = score; value = integer points } ∷ [])
    fine in
    let (bad_points, over_points, none) =
    first_fine (record { name = before ++ decimal 1; form = score; value = integer points }) [] rest in
    let (low, high) = in_range (before ++ decimal 0) (pos 0) (pos greatest_share) bound over in
    record {
      not_negative = low;
      within = high;
      near = in_range (before ++ decimal 1) (negsuc 1999) (pos greatest_score) points over_points;
    }

share_item : (named : List (List ℕ)) (before : List ℕ) (value : Data) → is_pair value ≡ true
    → refusal_of (places_under (known_with named) pair before value) ≡ None → IsShareItem value
share_item named before value is fine =
    let (bound, points, value_is) = pair_is value is in
    subst IsShareItem (sym value_is) (pair_in_range named before bound points (rw value_is at fine))

-- the pairs of an array are in their ranges
pub share_items : (form : Form) → ((place : ℕ) → item_form form place ≡ pair) → (items : Items) → AreFine form items
    → are_pairs items ≡ true → AreShareItems items
share_items form pairs no_items fine are = tt
share_items form pairs (item value items) fine are =
    let known = known_with fine.named in
    let (is, rest) = and_parts (is_pair value) (are_pairs items) are in
    let name : List ℕ = fine.before ++ decimal fine.number in
    let (now, later) = parts_fine (place_with known (item_form form fine.number) name value)
    (places_of_items known form fine.before (fine.number + 1) items) fine.nothing in
    let here = rw (pairs fine.number) at now in
    let (bad, over, under) = first_fine (record { name = name; form = pair; value = value })
    (places_under known pair (point_after name) value) here in (
      share_item fine.named (point_after name) value is under,
      share_items form pairs items (fine_others form value items fine) rest,
    )

bounds_said : (items : Items) → AreShareItems items → bounds_of (shares_said items) ≡ item_bounds items
bounds_said no_items right = refl
bounds_said (item value items) right = rw (
  pos-as_count (pair_bound value) right.0.not_negative,
  bounds_said items right.1,
)

length-shares_said : (items : Items) → length (shares_said items) ≡ items_len items
length-shares_said no_items = refl
length-shares_said (item value items) = ap suc (length-shares_said items)

all_bounds : (items : Items) → AreShareItems items → All (λ pair. pair.0 ≤ greatest_share) (shares_said items)
all_bounds no_items right = All-nil (λ (pair : ℕ × ℤ). pair.0 ≤ greatest_share)
all_bounds (item value items) right = All-cons (λ (pair : ℕ × ℤ). pair.0 ≤ greatest_share) _ _
    (as_count-le (pair_bound value) greatest_share right.0.not_negative right.0.within) (all_bounds items right.1)

all_near : (items : Items) → AreShareItems items → All (λ pair. IsNearZero greatest_score pair.1) (shares_said items)
all_near no_items right = All-nil (λ (pair : ℕ × ℤ). IsNearZero greatest_score pair.1)
all_near (item value items) right = All-cons (λ (pair : ℕ × ℤ). IsNearZero greatest_score pair.1) _ _ right.0.near
    (all_near items right.1)

few_of : (greatest count : ℕ) → too_many greatest count ≡ None → count ≤ greatest
few_of greatest count is =
    elim (cases_lt greatest count) [
      | inl many ↦ let both : Some (pos count) ≡ None = rw (lt-leb count greatest many) at is in cc
      | inr few ↦ few
    ]

shares_table : (in_order : List ℤ → Bool) (items : Items) → AreShareItems items → in_order (item_bounds items) ≡ true
    → too_many greatest_pairs (items_len items) ≡ None → IsShareTable in_order (shares_said items)
shares_table in_order items right ordered few = record {
  few = rw (length-shares_said items) (few_of greatest_pairs (items_len items) few);
  ordered = rw (bounds_said items right) ordered;
  bounds = all_bounds items right;
  scores = all_near items right;
}

-- ---- losses

free_parts : (taken : List (List ℕ)) (found : Option (List ℕ)) → is_free taken found ≡ true
    → (counts : List ℕ) × (found ≡ Some counts) × (not (bytes_eq counts empty_formula) ≡ true)
    × (not (list_any (bytes_eq counts) taken) ≡ true)
free_parts taken None free = cc
free_parts taken (Some counts) free =
    let (some, apart) = and_parts (not (bytes_eq counts empty_formula)) (not (list_any (bytes_eq counts) taken)) free in
    (counts, refl, some, apart)

read_ok : {Fault : Type 0} (found : Result (List ℕ) Fault) (counts : List ℕ) → read_formula found ≡ Some counts
    → found ≡ Ok counts
read_ok (Ok other) counts is = let same : other ≡ counts = cc in ap Ok same
read_ok (Err fault) counts is = cc

loss_kind : (free : Bool) (value : Data) → has_kind (loss free) value ≡ true
    → (z : ℤ) × (value ≡ integer z) × (free ≡ true)
loss_kind free (integer z) is = (z, refl, is)
loss_kind free (string s) is = cc
loss_kind free (float x) is = cc
loss_kind free (boolean b) is = cc
loss_kind free (datetime dt) is = cc
loss_kind free (array ds) is = cc
loss_kind free (table ms) is = cc

-- the first loss of a table, and the others
record FirstLoss (taken : List (List ℕ)) (key : List ℕ) (value : Data) (members : Members) : Type 0 where
  free : is_free taken (key_formula key) ≡ true
  near : IsNearZero greatest_score (unwrap_or (as_integer value) (pos 0))
  others : AreFineLosses (taken_with taken (key_formula key)) members

near_loss : (name : List ℕ) (free : Bool) (value : Data) (z : ℤ) → value ≡ integer z
    → over_at (record { name = name; form = loss free; value = value }) ≡ None
    → IsNearZero greatest_score (unwrap_or (as_integer value) (pos 0))
near_loss name free value z is over = rw is (in_range name (negsuc 1999) (pos greatest_score) z (rw is at over))

first_loss : (taken : List (List ℕ)) (key : List ℕ) (value : Data) (members : Members)
    → AreFineLosses taken (member key value members) → FirstLoss taken key value members
first_loss taken key value members fine =
    let name : List ℕ = fine.before ++ key in
    let free = is_free taken (key_formula key) in
    let (bad, over, rest) = first_fine (record { name = name; form = loss free; value = value })
    (places_of_losses (taken_with taken (key_formula key)) fine.before members) fine.nothing in
    let (z, is, is_free) = loss_kind free value (kind_right (has_kind (loss free) value) (BadValue name) bad) in
    record {
      free = is_free;
      near = near_loss name free value z is over;
      others = record { before = fine.before; nothing = rest };
    }

-- the scores of losses of which nothing is refused are near 0
pub near_scores : (taken : List (List ℕ)) (members : Members) → AreFineLosses taken members → AreNearScores members
near_scores taken no_members fine = tt
near_scores taken (member key value members) fine =
    let first = first_loss taken key value members fine in
    (first.near, near_scores (taken_with taken (key_formula key)) members first.others)

still_taken : (counts : List ℕ) (taken : List (List ℕ)) (found : Option (List ℕ))
    → list_any (bytes_eq counts) taken ≡ true → list_any (bytes_eq counts) (taken_with taken found) ≡ true
still_taken counts taken None is = is
still_taken counts taken (Some other) is =
    elim (list_any (bytes_eq other) taken) as
    (λ b. list_any (bytes_eq counts) (if b then taken else taken ++ other ∷ []) ≡ true) [
      | true ↦ is
      | false ↦ list_any-append (bytes_eq counts) taken (other ∷ []) ∙ rw is
    ]

taken_now : (counts : List ℕ) (taken : List (List ℕ)) → not (list_any (bytes_eq counts) taken) ≡ true
    → list_any (bytes_eq counts) (taken_with taken (Some counts)) ≡ true
taken_now counts taken apart =
    let none = not-true (list_any (bytes_eq counts) taken) apart in
    let same : bytes_eq counts counts ≡ true = (bytes_eq-Decides counts counts).1 refl in
    rw none (list_any-append (bytes_eq counts) taken (counts ∷ []) ∙ rw (none, same))

said_is : (key : List ℕ) (value : Data) (counts : List ℕ) → key_formula key ≡ Some counts
    → (loss_said key value).0 ≡ counts
said_is key value counts is = ap (λ found. unwrap_or found empty_formula) is

different : (counts other : List ℕ) (taken : List (List ℕ)) → list_any (bytes_eq counts) taken ≡ true
    → not (list_any (bytes_eq other) taken) ≡ true → counts ≢ other
different counts other taken is apart same =
    let none : list_any (bytes_eq counts) taken ≡ false = rw same (not-true (list_any (bytes_eq other) taken) apart) in
    let both : true ≡ false = sym is ∙ none in
    cc

-- a loss that is taken is none of a table's
apart_from_taken : (counts : List ℕ) (taken : List (List ℕ)) (members : Members)
    → list_any (bytes_eq counts) taken ≡ true → AreFineLosses taken members
    → All (λ entry. counts ≢ entry.0) (losses_said members)
apart_from_taken counts taken no_members is fine = All-nil (λ (entry : List ℕ × ℤ). counts ≢ entry.0)
apart_from_taken counts taken (member key value members) is fine =
    let first = first_loss taken key value members fine in
    let (other, found, some, apart) = free_parts taken (key_formula key) first.free in
    let here : counts ≢ (loss_said key value).0 =
    rw (said_is key value other found) (different counts other taken is apart) in
    All-cons (λ (entry : List ℕ × ℤ). counts ≢ entry.0) (loss_said key value) (losses_said members) here
    (apart_from_taken counts (taken_with taken (key_formula key)) members
    (still_taken counts taken (key_formula key) is) first.others)

pairs_cons : (entry : List ℕ × ℤ) (losses : List (List ℕ × ℤ)) → All (λ later. entry.0 ≢ later.0) losses
    → AllPairs (λ first later. first.0 ≢ later.0) losses → AllPairs (λ first later. first.0 ≢ later.0) (entry ∷ losses)
pairs_cons entry losses apart rest zero zero none before within = absurd (omega arith)
pairs_cons entry losses apart rest (suc i) zero none before within = absurd (omega arith)
pairs_cons entry losses apart rest zero (suc j) none before within = apart j none (omega arith)
pairs_cons entry losses apart rest (suc i) (suc j) none before within = rest i j none (omega arith) (omega arith)

distinct_losses : (taken : List (List ℕ)) (members : Members) → AreFineLosses taken members
    → AllPairs (λ first later. first.0 ≢ later.0) (losses_said members)
distinct_losses taken no_members fine = λ i j none before within. absurd (omega arith)
distinct_losses taken (member key value members) fine =
    let first = first_loss taken key value members fine in
    let (counts, found, some, apart) = free_parts taken (key_formula key) first.free in
    let now : list_any (bytes_eq counts) (taken_with taken (key_formula key)) ≡ true =
    subst (λ (other : Option (List ℕ)). list_any (bytes_eq counts) (taken_with taken other) ≡ true) (sym found)
    (taken_now counts taken apart) in
    let here : All (λ entry. (loss_said key value).0 ≢ entry.0) (losses_said members) =
    rw (said_is key value counts found)
    (apart_from_taken counts (taken_with taken (key_formula key)) members now first.others) in
    pairs_cons (loss_said key value) (losses_said members) here
    (distinct_losses (taken_with taken (key_formula key)) members first.others)

abbrev pub ReadsFormulas : Type 0
ReadsFormulas = (text counts : List ℕ) → formula_of text ≡ Ok counts → IsFormula counts

all_formulas : ReadsFormulas → (taken : List (List ℕ)) (members : Members) → AreFineLosses taken members
    → All (λ entry. IsFormula entry.0) (losses_said members)
all_formulas reads taken no_members fine = All-nil (λ (entry : List ℕ × ℤ). IsFormula entry.0)
all_formulas reads taken (member key value members) fine =
    let first = first_loss taken key value members fine in
    let (counts, found, some, apart) = free_parts taken (key_formula key) first.free in
    All-cons (λ (entry : List ℕ × ℤ). IsFormula entry.0) (loss_said key value) (losses_said members)
    (rw (said_is key value counts found) (reads key counts (read_ok (formula_of key) counts found)))
    (all_formulas reads (taken_with taken (key_formula key)) members first.others)

not_empty : (counts : List ℕ) → not (bytes_eq counts empty_formula) ≡ true → counts ≢ empty_formula
not_empty counts is same =
    let equal = (bytes_eq-Decides counts empty_formula).1 same in
    let both : true ≡ false = sym equal ∙ not-true (bytes_eq counts empty_formula) is in
    cc

all_some_atom : (taken : List (List ℕ)) (members : Members) → AreFineLosses taken members
    → All (λ entry. entry.0 ≢ empty_formula) (losses_said members)
all_some_atom taken no_members fine = All-nil (λ (entry : List ℕ × ℤ). entry.0 ≢ empty_formula)
all_some_atom taken (member key value members) fine =
    let first = first_loss taken key value members fine in
    let (counts, found, some, apart) = free_parts taken (key_formula key) first.free in
    All-cons (λ (entry : List ℕ × ℤ). entry.0 ≢ empty_formula) (loss_said key value) (losses_said members)
    (rw (said_is key value counts found) (not_empty counts some))
    (all_some_atom (taken_with taken (key_formula key)) members first.others)

all_near_losses : (members : Members) → AreNearScores members
    → All (λ entry. IsNearZero greatest_score entry.1) (losses_said members)
all_near_losses no_members near = All-nil (λ (entry : List ℕ × ℤ). IsNearZero greatest_score entry.1)
all_near_losses (member key value members) near =
    All-cons (λ (entry : List ℕ × ℤ). IsNearZero greatest_score entry.1) (loss_said key value)
    (losses_said members) near.0 (all_near_losses members near.1)

length-losses_said : (members : Members) → length (losses_said members) ≡ members_len members
length-losses_said no_members = refl
length-losses_said (member key value members) = ap suc (length-losses_said members)

losses_table : ReadsFormulas → (taken : List (List ℕ)) (members : Members)
    → too_many greatest_losses (members_len members) ≡ None → AreFineLosses taken members
    → IsLossTable (losses_said members)
losses_table reads taken members few fine = record {
  few = rw (length-losses_said members) (few_of greatest_losses (members_len members) few);
  formulas = all_formulas reads taken members fine;
  some_atom = all_some_atom taken members fine;
  distinct = distinct_losses taken members fine;
  scores = all_near_losses members (near_scores taken members fine);
}

-- ---- the tables of a table of scores

pub fine_intensities : (entries : Members) (items : Items) → IsFine scores entries
    → option_and_then as_array (get_member (codes "intensity") entries) ≡ Some items
    → AreShareItems items × IsShareTable falls_to_nought (shares_said items)
fine_intensities entries items fine is =
    let (bad, over, inside) = fine_array scores intensities entries (codes "intensity") items fine
    (λ known. refl) refl is in
    let kind = kind_right (has_kind intensities (array items)) (BadValue (fine.before ++ codes "intensity")) bad in
    let (are, ordered) = and_parts (are_pairs items) (falls_to_nought (item_bounds items)) kind in
    let right = share_items intensities (λ place. refl) items inside are in
    (right, shares_table falls_to_nought items right ordered over)

pub fine_errors : (entries : Members) (items : Items) → IsFine scores entries
    → option_and_then as_array (get_member (codes "error") entries) ≡ Some items
    → AreShareItems items × IsShareTable rises_to_whole (shares_said items)
fine_errors entries items fine is =
    let (bad, over, inside) = fine_array scores errors entries (codes "error") items fine (λ known. refl) refl is in
    let kind = kind_right (has_kind errors (array items)) (BadValue (fine.before ++ codes "error")) bad in
    let (are, ordered) = and_parts (are_pairs items) (rises_to_whole (item_bounds items)) kind in
    let right = share_items errors (λ place. refl) items inside are in
    (right, shares_table rises_to_whole items right ordered over)

pub fine_named : (entries losses : Members) → IsFine scores entries
    → option_and_then as_table (get_member (codes "named") entries) ≡ Some losses
    → (too_many greatest_losses (members_len losses) ≡ None) × AreFineLosses [] losses
fine_named entries losses fine is = fine_losses scores named_losses entries (codes "named") losses fine
    (λ known. refl) refl [] refl is

pub fine_implausible : (entries losses : Members) → (fine : IsFine scores entries)
    → option_and_then as_table (get_member (codes "implausible") entries) ≡ Some losses
    → (too_many greatest_losses (members_len losses) ≡ None) × AreFineLosses fine.named losses
fine_implausible entries losses fine is =
    fine_losses scores implausible_losses entries (codes "implausible") losses fine
    (λ known. refl) refl fine.named refl is

intensity_right : (entries : Members) (found : Option Items) → IsFine scores entries
    → option_and_then as_array (get_member (codes "intensity") entries) ≡ found
    → IsScores default_tables → IsShareTable falls_to_nought (option_map_or shares_said found default_tables.intensity)
intensity_right entries None fine is default = default.intensity
intensity_right entries (Some items) fine is default = (fine_intensities entries items fine is).1

error_right : (entries : Members) (found : Option Items) → IsFine scores entries
    → option_and_then as_array (get_member (codes "error") entries) ≡ found
    → IsScores default_tables → IsShareTable rises_to_whole (option_map_or shares_said found default_tables.error)
error_right entries None fine is default = default.error
error_right entries (Some items) fine is default = (fine_errors entries items fine is).1

named_right : ReadsFormulas → (entries : Members) (found : Option Members) → IsFine scores entries
    → option_and_then as_table (get_member (codes "named") entries) ≡ found
    → IsScores default_tables → IsLossTable (option_map_or losses_said found default_tables.named)
named_right reads entries None fine is default = default.named
named_right reads entries (Some losses) fine is default =
    let (few, inside) = fine_named entries losses fine is in
    losses_table reads [] losses few inside

implausible_right : ReadsFormulas → (entries : Members) (found : Option Members) → IsFine scores entries
    → option_and_then as_table (get_member (codes "implausible") entries) ≡ found
    → IsScores default_tables → IsLossTable (option_map_or losses_said found default_tables.implausible)
implausible_right reads entries None fine is default = default.implausible
implausible_right reads entries (Some losses) fine is default =
    let (few, inside) = fine_implausible entries losses fine is in
    losses_table reads fine.named losses few inside

-- the numbers at its keys
pub radical_near : (entries : Members) → IsFine scores entries
    → IsNearZero greatest_score (number_at entries (codes "radical") default_tables.radical)
radical_near entries fine = number_in_range scores entries (codes "radical") (negsuc 1999)
    (pos greatest_score) default_tables.radical fine (λ known is. refl) (omega (arith, ints)) (omega (arith, ints))

pub negative_near : (entries : Members) → IsFine scores entries
    → IsNearZero greatest_score (number_at entries (codes "negative") default_tables.negative)
negative_near entries fine = number_in_range scores entries (codes "negative") (negsuc 1999)
    (pos greatest_score) default_tables.negative fine (λ known is. refl) (omega (arith, ints)) (omega (arith, ints))

pub size_in_range : (entries : Members) → IsFine scores entries
    → (pos least_size ≤ℤ number_at entries (codes "size") (pos default_tables.size))
    × (number_at entries (codes "size") (pos default_tables.size) ≤ℤ pos greatest_size)
size_in_range entries fine = number_in_range scores entries (codes "size") (pos least_size) (pos greatest_size)
    (pos default_tables.size) fine (λ known is. refl) (omega (arith, ints)) (omega (arith, ints))

pub size_counts : (entries : Members) → IsFine scores entries
    → (least_size ≤ as_count (number_at entries (codes "size") (pos default_tables.size)))
    × (as_count (number_at entries (codes "size") (pos default_tables.size)) ≤ greatest_size)
size_counts entries fine =
    let z = number_at entries (codes "size") (pos default_tables.size) in
    let (low, high) = size_in_range entries fine in
    let not_negative : pos 0 ≤ℤ z = omega (arith, ints, low) in
    let is = pos-as_count z not_negative in
    (omega (arith, ints, is, low), omega (arith, ints, is, high))

pub tables_right : ReadsFormulas → IsScores default_tables → (entries : Members) → IsFine scores entries
    → IsScores (tables_said entries)
tables_right reads default entries fine = record {
  intensity = intensity_right entries (option_and_then as_array (get_member (codes "intensity") entries)) fine refl
      default;
  error = error_right entries (option_and_then as_array (get_member (codes "error") entries)) fine refl default;
  named = named_right reads entries (option_and_then as_table (get_member (codes "named") entries)) fine refl default;
  implausible = implausible_right reads entries (option_and_then as_table (get_member (codes "implausible") entries))
      fine refl default;
  radical = radical_near entries fine;
  negative = negative_near entries fine;
  not_small = (size_counts entries fine).0;
  not_large = (size_counts entries fine).1;
}

-- the same of tables that are these
pub tables_same : (entries : Members) (intensity error : ShareTable) (named implausible : LossTable)
    (radical negative : ℤ) (size : ℕ) → intensity ≡ (tables_said entries).intensity
    → error ≡ (tables_said entries).error
    → named ≡ (tables_said entries).named → implausible ≡ (tables_said entries).implausible
    → radical ≡ (tables_said entries).radical → negative ≡ (tables_said entries).negative
    → size ≡ (tables_said entries).size
    → record {
      intensity = intensity;
      error = error;
      named = named;
      implausible = implausible;
      radical = radical;
      negative = negative;
      size = size;
    } ≡ tables_said entries
tables_same entries intensity error named implausible radical negative size a b d e f g h = rw (a, b, d, e, f, g, h)
