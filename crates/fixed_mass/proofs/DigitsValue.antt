-- For `digits_value_after`: decimal digits and the number that they write, one more at a time.
use Rattle.std.proofs.Common.{◌≡◌, ℕ, ◌+◌, ◌-◌, ◌*◌, ◌<◌, ◌≤◌, zero, suc, true, List, [], ◌∷◌, ◌++◌, length, take}
use Rattle.std.proofs.Common.{get_or, refl, ap, sym, ◌∙◌, min, arith}
use Rattle.std.specs.Prelude.{fold, ◌&&◌}
use Rattle.std.specs.Char.{is_ascii_digit, digit_value}
use Rattle.std.specs.Int.{IsInRange}
use Rattle.std.specs.List.{list_all}
use Rattle.std.specs.Str.{all_ascii_digits}
use Rattle.std.specs.Str.Parse.{digits_value, digits_value_after}
use Rattle.std.proofs.lemmas.Bool.Decides.{nat_tests}
use Rattle.std.proofs.lemmas.List.Sums.{fold_more}
use Rattle.std.proofs.lemmas.Str.Parse.{IsNumeralModel, numerals_by_value, tells_all_ascii_digits, digit_at}

pub own : IsNumeralModel (λ ds. all_ascii_digits ds ≡ true) (digits_value 10)
own = numerals_by_value (λ ds. all_ascii_digits ds ≡ true) tells_all_ascii_digits

pub digit_in : (digits : List ℕ) (i : ℕ) → all_ascii_digits digits ≡ true → i < length digits
    → IsInRange 48 57 (get_or digits i 0)
digit_in digits i h l = digit_at digits i (own.to digits h) l

pub digit_value-is : (c : ℕ) → IsInRange 48 57 c → digit_value c ≡ c - 48
digit_value-is c h = grind (arith, nat_tests)

after_is : (n : ℕ) (digits : List ℕ)
    → digits_value_after 10 n digits ≡ fold (λ value digit. value * 10 + digit_value digit) n digits
after_is n [] = refl
after_is n (c ∷ digits) = after_is (n * 10 + digit_value c) digits

-- one digit more
pub after_more : (n : ℕ) (digits : List ℕ) (i : ℕ) → all_ascii_digits digits ≡ true → i < length digits
    → digits_value_after 10 n (take (i + 1) digits) ≡ digits_value_after 10 n (take i digits) * 10
    + (get_or digits i 0 - 48)
after_more n digits i h l =
    let step = fold_more (λ value digit. value * 10 + digit_value digit) n digits i 0 l in
    let digit = digit_value-is (get_or digits i 0) (digit_in digits i h l) in
    after_is n (take (i + 1) digits) ∙ step ∙ ap (λ value. value * 10 + digit_value (get_or digits i 0))
    (sym (after_is n (take i digits))) ∙ ap (λ d. digits_value_after 10 n (take i digits) * 10 + d) digit

-- digits make no number smaller
pub after_ge : (n : ℕ) (digits : List ℕ) → n ≤ digits_value_after 10 n digits
after_ge n [] = omega arith
after_ge n (c ∷ digits) = let h = after_ge (n * 10 + digit_value c) digits in omega arith

pub after_append : (n : ℕ) (front back : List ℕ)
    → digits_value_after 10 n (front ++ back) ≡ digits_value_after 10 (digits_value_after 10 n front) back
after_append n [] back = refl
after_append n (c ∷ front) back = after_append (n * 10 + digit_value c) front back

pub all_is : (bytes : List ℕ) → list_all is_ascii_digit bytes ≡ all_ascii_digits bytes
all_is [] = refl
all_is (c ∷ bytes) = ap (λ rest. is_ascii_digit c && rest) (all_is bytes)

pub cap_more : (a d : ℕ) → min 99 (10 * min a 99 + d) ≡ min (a * 10 + d) 99
cap_more a d = omega arith

-- the first digits make no greater number than all of them
pub after_take-le : (n : ℕ) (digits : List ℕ) (i : ℕ)
    → digits_value_after 10 n (take i digits) ≤ digits_value_after 10 n digits
after_take-le n digits zero = after_ge n digits
after_take-le n [] (suc i) = omega arith
after_take-le n (c ∷ digits) (suc i) = after_take-le (n * 10 + digit_value c) digits i
