-- A number of at most three digits before another space is read at once.
use Rattle.std.proofs.Common.{◌≡◌, ◌∙◌, ◌≤◌, ◌+◌, ◌-◌, ◌*◌, ℕ, suc, ℤ, pos, true, List, [], ◌∷◌, ◌++◌, length, take}
use Rattle.std.proofs.Common.{drop, get_or, Some, refl, sym, ap, arith}
use Rattle.std.specs.Char.{is_ascii_digit, digit_value}
use Rattle.std.specs.Option.{option_and_then, option_map}
use Rattle.std.specs.Str.{all_ascii_digits}
use Rattle.std.specs.Str.Parse.{digits_value}
use Rattle.std.proofs.lemmas.Bool.{and_from, and_parts, leb-true, ne_eqb, not_from_false}
use Rattle.std.proofs.lemmas.Bool.Decides.{nat_tests}
use Rattle.std.proofs.lemmas.Int.Digits.{digits_value_push}
use Rattle.std.proofs.lemmas.List.{take_all}
use Rattle.tree_document.specs.Line.{is_number}
use Rattle.line_fields.specs.Field.{capped, greatest_read, signed_in, signed_kind, value_at}
use Rattle.line_fields.proofs.FieldKinds.{signed_complete, signed_no_space}
use Rattle.line_fields.proofs.Tokens.{IsRest, token_at-front}

-- the number of a token that stands at the front
front : (token rest : List ℕ) (n : ℕ) → IsRest rest → is_number token ≡ true → digits_value 10 token ≡ n
    → n ≤ greatest_read
    → Some (pos n, rest) ≡ value_at (signed_kind 0) (32 ∷ (token ++ rest))
front token rest n is number value small =
    let taken = token_at-front token rest (signed_no_space (pos n) token (number, value)) is in
    let read : signed_in token ≡ Some (pos (capped n)) = signed_complete (pos n) token (number, value) in
    let same : capped n ≡ n = omega arith in
    sym (
    ap (option_and_then (λ (both : List ℕ × List ℕ). option_map {U = ℤ × List ℕ} (λ v. (v, both.1)) (signed_in both.0)))
    taken
    ∙ ap (option_map {U = ℤ × List ℕ} (λ v. (v, rest))) (read ∙ ap (λ m. Some (pos m)) same)
    )

-- a digit, and one behind others
record IsDigit (byte : ℕ) : Type 0 where
  value : digit_value byte ≡ byte - 48
  few : byte ≤ 57

digit_is : (byte : ℕ) → is_ascii_digit byte ≡ true → IsDigit byte
digit_is byte is = record { value = grind (arith, nat_tests); few = leb-true byte 57 (and_parts _ _ is).1 }

value_of : (digits : List ℕ) (last n : ℕ) → digits_value 10 digits ≡ n → IsDigit last
    → digits_value 10 (digits ++ last ∷ []) ≡ n * 10 + (last - 48)
value_of digits last n is it = digits_value_push 10 digits last ∙ (λ i. is i * 10 + it.value i)

-- digits of which the first is not 0
are_number : (a b : ℕ) (digits : List ℕ) → (a - 48 ≡ 0 → ⊥) → is_ascii_digit a ≡ true
    → all_ascii_digits (b ∷ digits) ≡ true → is_number (a ∷ b ∷ digits) ≡ true
are_number a b digits some first others =
    and_from _ _ (not_from_false _ (ne_eqb a 48 (λ same. some (omega arith)))) (and_from _ _ first others)

pub one_digit : (text : List ℕ) (z : ℤ) → 5 ≤ length text → get_or text 0 0 ≡ 32
    → is_ascii_digit (get_or text 1 0) ≡ true → get_or text 2 0 ≡ 32
    → z ≡ pos (get_or text 1 0 - 48) → Some (z, take (length text - 2) (drop 2 text)) ≡ value_at (signed_kind 0) text
one_digit [] z long space first behind is = absurd (omega arith)
one_digit (s ∷ []) z long space first behind is = absurd (omega arith)
one_digit (s ∷ a ∷ []) z long space first behind is = absurd (omega arith)
one_digit (s ∷ a ∷ b ∷ rest) z long space first behind is =
    let it = digit_is a first in
    let few = it.few in
    rw (space, is, take_all (suc (suc (suc (length rest))) - 2) (b ∷ rest) (omega arith))
    (front (a ∷ []) (b ∷ rest) (a - 48) behind first (value_of [] a 0 refl it ∙ omega arith) (omega arith))

pub two_digits : (text : List ℕ) (z : ℤ) → 5 ≤ length text → get_or text 0 0 ≡ 32
    → is_ascii_digit (get_or text 1 0) ≡ true → (get_or text 1 0 - 48 ≡ 0 → ⊥)
    → is_ascii_digit (get_or text 2 0) ≡ true → get_or text 3 0 ≡ 32
    → z ≡ pos ((get_or text 1 0 - 48) * 10 + (get_or text 2 0 - 48))
    → Some (z, take (length text - 3) (drop 3 text)) ≡ value_at (signed_kind 0) text
two_digits [] z long space first some second behind is = absurd (omega arith)
two_digits (s ∷ []) z long space first some second behind is = absurd (omega arith)
two_digits (s ∷ a ∷ []) z long space first some second behind is = absurd (omega arith)
two_digits (s ∷ a ∷ b ∷ []) z long space first some second behind is = absurd (omega arith)
two_digits (s ∷ a ∷ b ∷ c ∷ rest) z long space first some second behind is =
    let it = digit_is a first in
    let next = digit_is b second in
    let few = it.few in
    let next_few = next.few in
    let value = value_of (a ∷ []) b (0 * 10 + (a - 48)) (value_of [] a 0 refl it) next in
    rw (space, is, take_all (suc (suc (suc (suc (length rest)))) - 3) (c ∷ rest) (omega arith)) (
    front (a ∷ b ∷ []) (c ∷ rest) ((a - 48) * 10 + (b - 48)) behind
    (are_number a b [] some first (and_from _ _ second refl)) (value ∙ omega arith) (omega arith)
    )

pub three_digits : (text : List ℕ) (z : ℤ) → 5 ≤ length text → get_or text 0 0 ≡ 32
    → is_ascii_digit (get_or text 1 0) ≡ true → (get_or text 1 0 - 48 ≡ 0 → ⊥)
    → is_ascii_digit (get_or text 2 0) ≡ true → is_ascii_digit (get_or text 3 0) ≡ true → get_or text 4 0 ≡ 32
    → z ≡ pos (((get_or text 1 0 - 48) * 10 + (get_or text 2 0 - 48)) * 10 + (get_or text 3 0 - 48))
    → Some (z, take (length text - 4) (drop 4 text)) ≡ value_at (signed_kind 0) text
three_digits [] z long space first some second third behind is = absurd (omega arith)
three_digits (s ∷ []) z long space first some second third behind is = absurd (omega arith)
three_digits (s ∷ a ∷ []) z long space first some second third behind is = absurd (omega arith)
three_digits (s ∷ a ∷ b ∷ []) z long space first some second third behind is = absurd (omega arith)
three_digits (s ∷ a ∷ b ∷ c ∷ []) z long space first some second third behind is = absurd (omega arith)
three_digits (s ∷ a ∷ b ∷ c ∷ d ∷ rest) z long space first some second third behind is =
    let it = digit_is a first in
    let next = digit_is b second in
    let last = digit_is c third in
    let few = it.few in
    let next_few = next.few in
    let last_few = last.few in
    let value = value_of (a ∷ b ∷ []) c ((0 * 10 + (a - 48)) * 10 + (b - 48))
    (value_of (a ∷ []) b (0 * 10 + (a - 48)) (value_of [] a 0 refl it) next) last in
    rw (space, is, take_all (suc (suc (suc (suc (suc (length rest))))) - 4) (d ∷ rest) (omega arith)) (
    front (a ∷ b ∷ c ∷ []) (d ∷ rest) (((a - 48) * 10 + (b - 48)) * 10 + (c - 48)) behind
    (are_number a b (c ∷ []) some first (and_from _ _ second (and_from _ _ third refl))) (value ∙ omega arith)
    (omega arith)
    )
