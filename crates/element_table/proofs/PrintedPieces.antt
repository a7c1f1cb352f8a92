-- Of pieces_of and element_text: the pieces of a printed formula.
use Rattle.std.proofs.Common.{◌≡◌, ◌<◌, ◌≤◌, ◌+◌, ◌^◌, ℕ, suc, Bool, true, false, cond, ◌&&◌, List, [], ◌∷◌, ◌++◌}
use Rattle.std.proofs.Common.{length, get_or, eqb, refl, sym, ap, arith}
use Rattle.std.specs.Fmt.{decimal}
use Rattle.std.specs.Char.{is_ascii_digit, is_ascii_lowercase, is_ascii_uppercase}
use Rattle.std.specs.List.{AllByRecursion, before_first}
use Rattle.std.specs.Str.{all_ascii_digits}
use Rattle.std.specs.Str.Parse.{digits_value}
use Rattle.std.proofs.lemmas.Bool.{and_left, and_parts, and_right, eqb-true, leb-true, lt-leb, ne_eqb}
use Rattle.std.proofs.lemmas.Fmt.{decimal_nonempty, digits_decimal, digits_value-decimal, first_decimal}
use Rattle.std.proofs.lemmas.Str.Parse.{IsNumeralModel, numerals_by_value, tells_all_ascii_digits}
use Rattle.element_table.specs.FormulaReading.{count_of_digits, digits_of, is_count, pieces_of, symbol_of}
use Rattle.element_table.proofs.Pieces.{Begins, inner_len}

-- the digits of a count, of which one is left out
abbrev pub count_text : ℕ → List ℕ
count_text count = cond (eqb count 1) [] (decimal count)

-- a capital letter with at most one small letter after it
abbrev pub is_symbol : List ℕ → Bool
is_symbol [] = false
is_symbol (capital ∷ []) = is_ascii_uppercase capital
is_symbol (capital ∷ small ∷ []) = is_ascii_uppercase capital && is_ascii_lowercase small
is_symbol (capital ∷ small ∷ other ∷ bytes) = false

-- no capital letter
abbrev IsInner : List ℕ → Type 0
IsInner bytes = AllByRecursion (λ byte. is_ascii_uppercase byte ≡ false) bytes

own : IsNumeralModel (λ digits. all_ascii_digits digits ≡ true) (digits_value 10)
own = numerals_by_value (λ digits. all_ascii_digits digits ≡ true) tells_all_ascii_digits

pub digit-bounds : (digit : ℕ) → is_ascii_digit digit ≡ true → (48 ≤ digit) × (digit ≤ 57)
digit-bounds digit is = let parts = and_parts _ _ is in (leb-true _ _ parts.0, leb-true _ _ parts.1)

digit-not_capital : (digit : ℕ) → is_ascii_digit digit ≡ true → is_ascii_uppercase digit ≡ false
digit-not_capital digit is = let bounds = digit-bounds digit is in and_left _ _ (lt-leb 65 digit (omega arith))

digit-not_small : (digit : ℕ) → is_ascii_digit digit ≡ true → is_ascii_lowercase digit ≡ false
digit-not_small digit is = let bounds = digit-bounds digit is in and_left _ _ (lt-leb 97 digit (omega arith))

small-not_capital : (small : ℕ) → is_ascii_lowercase small ≡ true → is_ascii_uppercase small ≡ false
small-not_capital small is =
    let low = leb-true 97 small (and_parts _ _ is).0 in and_right _ _ (lt-leb small 90 (omega arith))

IsInner-digits : (digits : List ℕ) → all_ascii_digits digits ≡ true → IsInner digits
IsInner-digits [] all = tt
IsInner-digits (digit ∷ digits) all =
    let parts = and_parts _ _ all in (digit-not_capital digit parts.0, IsInner-digits digits parts.1)

-- bytes that are no capital letters stand before what begins with one
inner : (bytes rest : List ℕ) → IsInner bytes → Begins rest
    → (before_first is_ascii_uppercase (bytes ++ rest) ≡ bytes) × (pieces_of (bytes ++ rest) ≡ pieces_of rest)
inner [] [] all begins = (refl, refl)
inner [] (byte ∷ rest) all begins = (rw begins refl, refl)
inner (byte ∷ bytes) rest all begins =
    let later = inner bytes rest all.1 begins in
    let more : 1 + inner_len (bytes ++ rest) ≡ suc (inner_len (bytes ++ rest)) = omega arith in
    (rw (all.0, more) (ap (λ l. byte ∷ l) later.0), rw all.0 later.1)

-- a symbol and its digits are the first piece of a text
pub pieces_of-part : (symbol digits rest : List ℕ) → is_symbol symbol ≡ true → all_ascii_digits digits ≡ true
    → Begins rest
    → (pieces_of ((symbol ++ digits) ++ rest) ≡ (symbol ++ digits) ∷ pieces_of rest)
    × Begins ((symbol ++ digits) ++ rest)
pieces_of-part [] digits rest is all begins = (cc)
pieces_of-part (capital ∷ []) digits rest is all begins =
    let later = inner digits rest (IsInner-digits digits all) begins in
    (rw (is, later.0, later.1) refl, is)
pieces_of-part (capital ∷ small ∷ []) digits rest is all begins =
    let parts = and_parts _ _ is in
    let later = inner (small ∷ digits) rest (small-not_capital small parts.1, IsInner-digits digits all) begins in
    (rw (parts.0, later.0, later.1) refl, parts.0)
pieces_of-part (capital ∷ small ∷ other ∷ bytes) digits rest is all begins = (cc)

-- and are told apart again
pub symbol_of-part : (symbol digits : List ℕ) → is_symbol symbol ≡ true → all_ascii_digits digits ≡ true
    → (symbol_of (symbol ++ digits) ≡ symbol) × (digits_of (symbol ++ digits) ≡ digits)
symbol_of-part [] digits is all = (cc)
symbol_of-part (capital ∷ []) [] is all = (refl, refl)
symbol_of-part (capital ∷ []) (digit ∷ digits) is all =
    let other : is_ascii_lowercase digit ≡ false = digit-not_small digit (and_parts _ _ all).0 in
    (rw other refl, rw other refl)
symbol_of-part (capital ∷ small ∷ []) digits is all =
    let low : is_ascii_lowercase small ≡ true =
    (and_parts (is_ascii_uppercase capital) (is_ascii_lowercase small) is).1 in
    (rw low refl, rw low refl)
symbol_of-part (capital ∷ small ∷ other ∷ bytes) digits is all = (cc)

-- the digits of a count are a count, and write it
pub count_of_digits-count_text : (count : ℕ) → 0 < count → count < 2 ^ 64
    → (all_ascii_digits (count_text count) ≡ true) × (is_count (count_text count) ≡ true)
    × (count_of_digits (count_text count) ≡ count)
count_of_digits-count_text count some fits = step (eqb count 1) refl
  where
    written : (digits : List ℕ) → all_ascii_digits digits ≡ true → 0 < length digits → 48 < get_or digits 0 0
        → digits_value 10 digits ≡ count
        → (all_ascii_digits digits ≡ true) × (is_count digits ≡ true) × (count_of_digits digits ≡ count)
    written [] all long first value = absurd (omega arith)
    written (digit ∷ digits) all long first value =
        let other : eqb digit 48 ≡ false = ne_eqb digit 48 (λ same. omega arith) in
        (all, rw (other, all) refl, value)

    step : (b : Bool) → eqb count 1 ≡ b
        → (all_ascii_digits (cond b [] (decimal count)) ≡ true) × (is_count (cond b [] (decimal count)) ≡ true)
        × (count_of_digits (cond b [] (decimal count)) ≡ count)
    step true is = (refl, refl, sym (eqb-true count 1 is))
    step false is =
        written (decimal count) (digits_decimal own count fits) (decimal_nonempty count fits)
        (first_decimal count some fits) (digits_value-decimal own count fits)
