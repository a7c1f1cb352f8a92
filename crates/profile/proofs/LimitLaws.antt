-- The limits of a table of which nothing is refused.
use Rattle.std.proofs.Common.{◌≡◌, ◌∙◌, ◌≤◌, ◌≤ℤ◌, Some, None, if◌then◌else◌, ℕ, ℤ, pos, negsuc, Bool, true, false}
use Rattle.std.proofs.Common.{List, [], ◌∷◌, length, get_or, map, refl, ap, sym, arith, nat_lt}
use Rattle.std.specs.Prelude.{int_lt}
use Rattle.std.specs.List.{list_any}
use Rattle.std.proofs.lemmas.Int.{ints}
use Rattle.std.proofs.lemmas.List.{length-map}
use Rattle.std.proofs.Math.ListN.{get_or-map}
use Rattle.element_table.specs.Formula.{IsFormula}
use Rattle.toml.specs.Data.{Members, table}
use Rattle.profile.specs.Form.{limits, has_positive}
use Rattle.profile.specs.Refusal.{bad_at}
use Rattle.profile.specs.declared.fault.ProfileFault.{ProfileFault}
use Rattle.profile.specs.declared.fault.ProfileFault.TheVariants.{BadValue}
use Rattle.profile.specs.inside.Fine.{IsFine}
use Rattle.profile.specs.Table.{element_numbers}
use Rattle.profile.specs.Values.{as_count, limits_of}
use Rattle.profile.proofs.ElementLaws.{length-element_numbers, get_or-element_numbers_past}
use Rattle.profile.proofs.ElementRange.{element_in_range}

pub length-limits_of : (entries : Members) → length (limits_of entries) ≡ 16
length-limits_of entries = length-map (element_numbers entries) as_count ∙ length-element_numbers entries

pub get_or-limits_of : (entries : Members) (place : ℕ)
    → get_or (limits_of entries) place 0 ≡ as_count (get_or (element_numbers entries) place (pos 0))
get_or-limits_of entries place = get_or-map as_count (element_numbers entries) place (pos 0)

pub limit_in_range : (entries : Members) (place : ℕ) → IsFine limits entries
    → (pos 0 ≤ℤ get_or (element_numbers entries) place (pos 0))
    × (get_or (element_numbers entries) place (pos 0) ≤ℤ pos 1999)
limit_in_range entries place fine = element_in_range limits entries (pos 0) (pos 1999) place fine (λ known key. refl)
    (omega arith) (omega arith)

-- an integer that is not negative is its count
pub pos-as_count : (z : ℤ) → pos 0 ≤ℤ z → pos (as_count z) ≡ z
pos-as_count (pos n) low = refl
pos-as_count (negsuc n) low = absurd (omega (arith, ints, low))

pub as_count-le : (z : ℤ) (n : ℕ) → pos 0 ≤ℤ z → z ≤ℤ pos n → as_count z ≤ n
as_count-le z n low high = omega (arith, ints, pos-as_count z low, high)

limit_capped : (entries : Members) (place : ℕ) → IsFine limits entries → get_or (limits_of entries) place 0 ≤ 1999
limit_capped entries place fine =
    let (low, high) = limit_in_range entries place fine in
    rw (get_or-limits_of entries place) (as_count-le (get_or (element_numbers entries) place (pos 0)) 1999 low high)

limit_past : (entries : Members) (place : ℕ) → 11 ≤ place → get_or (limits_of entries) place 0 ≡ 0
limit_past entries place past = get_or-limits_of entries place
    ∙ ap as_count (get_or-element_numbers_past entries place past)

-- the limits are counts of a formula
pub limits_are_counts : (entries : Members) → IsFine limits entries → IsFormula (limits_of entries)
limits_are_counts entries fine = record {
  places = length-limits_of entries;
  capped = λ place. limit_capped entries place fine;
  elements = λ place past. limit_past entries place past;
}

positive_count : (z : ℤ) → int_lt (pos 0) z ≡ nat_lt 0 (as_count z)
positive_count (pos n) = refl
positive_count (negsuc n) = refl

-- some limit is positive where some integer is
pub some_limit : (numbers : List ℤ) → list_any (int_lt (pos 0)) numbers ≡ list_any (nat_lt 0) (map as_count numbers)
some_limit [] = refl
some_limit (z ∷ numbers) = rw (positive_count z, some_limit numbers)

pub kind_right : (kind : Bool) (fault : ProfileFault) → (if kind then None else Some fault) ≡ None → kind ≡ true
kind_right true fault none = refl
kind_right false fault none = cc

-- where a table of limits is not refused, some limit is positive
pub some_limit_of : (name : List ℕ) (entries : Members)
    → bad_at (record { name = name; form = limits; value = table entries }) ≡ None
    → list_any (nat_lt 0) (limits_of entries) ≡ true
some_limit_of name entries none = sym (some_limit (element_numbers entries))
    ∙ kind_right (has_positive entries) (BadValue name) none
