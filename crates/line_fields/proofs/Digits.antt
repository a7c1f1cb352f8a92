-- The number of a token, digit by digit.
use Rattle.std.proofs.Common.{◌≡◌, ◌<◌, ◌≤◌, ◌+◌, ◌-◌, ◌*◌, ℕ, zero, suc, Bool, true, false, cond, below_more, List, []}
use Rattle.std.proofs.Common.{◌∷◌, Some, None, length, take, get_or, min, refl, sym, ap, ◌∙◌, arith}
use Rattle.std.specs.Bool.{MatchBool}
use Rattle.std.specs.Char.{IsAsciiDigit, IsNotAsciiDigit, is_ascii_digit, digit_value}
use Rattle.std.specs.Str.{all_ascii_digits}
use Rattle.std.specs.Str.Parse.{digits_value}
use Rattle.std.proofs.lemmas.Int.Digits.{digits_value_more}
use Rattle.std.proofs.lemmas.Bool.{and_left, and_right}
use Rattle.std.proofs.lemmas.Bool.Decides.{nat_tests}
use Rattle.std.proofs.lemmas.List.{take_all}
use Rattle.line_fields.specs.Field.{capped, greatest_read}

-- the bytes so far are digits, and write this number, or one that no field may have
pub record ReadsDigits (digits : List ℕ) (i number : ℕ) : Type 0 where
  pub each : (place : ℕ) → place < i → is_ascii_digit (get_or digits place 0) ≡ true
  pub value : number ≡ min (digits_value 10 (take i digits)) greatest_read

some_other : (digits : List ℕ) (place : ℕ) → place < length digits → is_ascii_digit (get_or digits place 0) ≡ false
    → all_ascii_digits digits ≡ false
some_other [] place within other = absurd (omega arith)
some_other (digit ∷ digits) zero within other = and_left (is_ascii_digit digit) (all_ascii_digits digits) other
some_other (digit ∷ digits) (suc place) within other =
    and_right (is_ascii_digit digit) (all_ascii_digits digits) (some_other digits place (omega arith) other)

all_digits : (digits : List ℕ) → ((place : ℕ) → place < length digits → is_ascii_digit (get_or digits place 0) ≡ true)
    → all_ascii_digits digits ≡ true
all_digits [] each = refl
all_digits (digit ∷ digits) each =
    let first : is_ascii_digit digit ≡ true = each 0 (omega arith) in
    let others : all_ascii_digits digits ≡ true = all_digits digits (λ place within. each (suc place) (omega arith)) in
    rw first others

digit_value_is : (digit : ℕ) → 48 ≤ digit → digit ≤ 57 → digit_value digit ≡ digit - 48
digit_value_is digit low high = grind (arith, nat_tests)

-- one more digit
pub ReadsDigits-more : (digits : List ℕ) (i number more : ℕ) (is : Bool) → i < length digits
    → is ≡ is_ascii_digit (get_or digits i 0)
    → MatchBool is (IsAsciiDigit (get_or digits i 0)) (IsNotAsciiDigit (get_or digits i 0)) → is ≡ true
    → more ≡ min (number * 10 + (get_or digits i 0 - 48)) greatest_read → ReadsDigits digits i number
    → ReadsDigits digits (i + 1) more
ReadsDigits-more digits i number more is within told cases holds more_is reads =
    let digit : IsAsciiDigit (get_or digits i 0) = rw holds at cases in
    let next : digits_value 10 (take (i + 1) digits) ≡ digits_value 10 (take i digits) * 10 + digit_value
    (get_or digits i 0) = digits_value_more 10 digits i within in
    let value : digit_value (get_or digits i 0) ≡ get_or digits i 0 - 48 =
    digit_value_is (get_or digits i 0) (omega arith) (omega arith) in
    let so_far = reads.value in
    record { each = below_more _ _ reads.each (sym told ∙ holds); value = omega arith }

-- at the end they are read
pub all_read : (digits : List ℕ) (i number : ℕ) → length digits ≤ i → ReadsDigits digits i number
    → Some number ≡ cond (all_ascii_digits digits) (Some (capped (digits_value 10 digits))) None
all_read digits i number ends reads =
    let all : all_ascii_digits digits ≡ true = all_digits digits (λ place within. reads.each place (omega arith)) in
    let value : number ≡ capped (digits_value 10 digits) =
    reads.value ∙ ap (λ ds. capped (digits_value 10 ds)) (take_all i digits ends) in
    rw all (ap Some value)

-- where another byte is among them, they are no digits
pub other_read : (digits : List ℕ) (place n : ℕ) → place < length digits
    → is_ascii_digit (get_or digits place 0) ≡ false → None ≡ cond (all_ascii_digits digits) (Some n) None
other_read digits place n within other = rw (some_other digits place within other) refl
