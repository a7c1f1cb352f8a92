-- Of count_of_digits and is_count: the count of a piece, digit by digit.
use Rattle.std.proofs.Common.{◌≡◌, ◌<◌, ◌≤◌, ◌+◌, ◌-◌, ◌*◌, ℕ, zero, suc, Bool, true, false, not, cond, below_more}
use Rattle.std.proofs.Common.{List, [], ◌∷◌, Some, None, length, take, get_or, min, eqb, refl, sym, ap, ◌∙◌, arith}
use Rattle.std.specs.Bool.{MatchBool}
use Rattle.std.specs.Char.{IsAsciiDigit, IsNotAsciiDigit, is_ascii_digit, digit_value}
use Rattle.std.specs.Str.{all_ascii_digits}
use Rattle.std.specs.Str.Parse.{digits_value}
use Rattle.std.proofs.lemmas.Int.Digits.{digits_value_more}
use Rattle.std.proofs.lemmas.Bool.{and_left, and_right, ne_eqb}
use Rattle.std.proofs.lemmas.Bool.Decides.{nat_tests}
use Rattle.std.proofs.lemmas.List.{take_all}
use Rattle.element_table.specs.FormulaReading.{is_count, count_of_digits}

-- the digits so far are digits, and write this count, or more than a formula may have
pub record ReadsDigits (digits : List ℕ) (i count : ℕ) : Type 0 where
  pub each : (place : ℕ) → place < i → is_ascii_digit (get_or digits place 0) ≡ true
  pub value : count ≡ min 2000 (digits_value 10 (take i digits))

some_other : (digits : List ℕ) (place : ℕ) → place < length digits → is_ascii_digit (get_or digits place 0) ≡ false
    → all_ascii_digits digits ≡ false
some_other [] place within other = absurd (omega arith)
some_other (digit ∷ digits) zero within other = and_left (is_ascii_digit digit) (all_ascii_digits digits) other
some_other (digit ∷ digits) (suc place) within other =
    and_right (is_ascii_digit digit) (all_ascii_digits digits) (some_other digits place (omega arith) other)

all_digits : (digits : List ℕ) → ((place : ℕ) → place < length digits → is_ascii_digit (get_or digits place 0) ≡ true)
    → all_ascii_digits digits ≡ true
all_digits [] each = refl
all_digits (digit ∷ digits) each =
    let first : is_ascii_digit digit ≡ true = each 0 (omega arith) in
    let others : all_ascii_digits digits ≡ true = all_digits digits (λ place within. each (suc place) (omega arith)) in
    rw first others

digit_value_is : (digit : ℕ) → 48 ≤ digit → digit ≤ 57 → digit_value digit ≡ digit - 48
digit_value_is digit low high = grind (arith, nat_tests)

-- one more digit
pub ReadsDigits-more : (digits : List ℕ) (i count more : ℕ) (is : Bool) → i < length digits
    → is ≡ is_ascii_digit (get_or digits i 0)
    → MatchBool is (IsAsciiDigit (get_or digits i 0)) (IsNotAsciiDigit (get_or digits i 0)) → is ≡ true
    → more ≡ min (count * 10 + (get_or digits i 0 - 48)) 2000 → ReadsDigits digits i count
    → ReadsDigits digits (i + 1) more
ReadsDigits-more digits i count more is within told cases holds more_is reads =
    let digit : IsAsciiDigit (get_or digits i 0) = rw holds at cases in
    let next : digits_value 10 (take (i + 1) digits) ≡ digits_value 10 (take i digits) * 10
    + digit_value (get_or digits i 0) = digits_value_more 10 digits i within in
    let value : digit_value (get_or digits i 0) ≡ get_or digits i 0 - 48 =
    digit_value_is (get_or digits i 0) (omega arith) (omega arith) in
    let so_far = reads.value in
    record { each = below_more _ _ reads.each (sym told ∙ holds); value = omega arith }

-- digits of which the first is no zero are a count
pub is_read : (digits : List ℕ) (i count : ℕ) → eqb (length digits) 0 ≡ false → (get_or digits 0 0 ≡ 48 → ⊥)
    → length digits ≤ i → ReadsDigits digits i count
    → Some count ≡ cond (is_count digits) (Some (min 2000 (count_of_digits digits))) None
is_read [] i count some no_nought ends reads = (cc)
is_read (digit ∷ digits) i count some no_nought ends reads =
    let other : eqb digit 48 ≡ false = ne_eqb digit 48 no_nought in
    let all : all_ascii_digits (digit ∷ digits) ≡ true =
    all_digits (digit ∷ digits) (λ place within. reads.each place (omega arith)) in
    let value : count ≡ min 2000 (digits_value 10 (digit ∷ digits)) =
    reads.value ∙ ap (λ ds. min 2000 (digits_value 10 ds)) (take_all i (digit ∷ digits) ends) in
    rw (other, all) (ap Some value)

-- where another byte is among the digits, they are none
pub is_refused : (digits : List ℕ) (place n : ℕ) → place < length digits
    → is_ascii_digit (get_or digits place 0) ≡ false → None ≡ cond (is_count digits) (Some n) None
is_refused [] place n within other = absurd (omega arith)
is_refused (digit ∷ digits) place n within other =
    let none : is_count (digit ∷ digits) ≡ false =
    and_right (not (eqb digit 48)) _ (some_other (digit ∷ digits) place within other) in
    rw none refl
