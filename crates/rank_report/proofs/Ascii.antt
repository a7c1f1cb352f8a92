-- Of the spellings of titles and formulas: their bytes are ASCII.
use Rattle.std.proofs.Common.{◌≡◌, ◌<◌, ◌≤◌, ◌+◌, ◌/◌, ◌%◌, ℕ, zero, suc, Bool, true, false, not, ◌&&◌, cond, List}
use Rattle.std.proofs.Common.{[], ◌∷◌, get_or, eqb, leb, ltb, refl, arith}
use Rattle.std.specs.List.{All, AllByRecursion}
use Rattle.std.specs.Str.{IsAscii, IsUtf8}
use Rattle.std.proofs.lemmas.Bool.{and_parts, leb-true}
use Rattle.std.proofs.lemmas.List.Elements.{recursion_from_All}
use Rattle.std.proofs.lemmas.Str.{IsAscii-append, IsUtf8-from_ascii}
use Rattle.element_table.specs.FormulaText.{formula_text}
use Rattle.tree_document.specs.Title.{escaped, escaped_byte, hexadecimal}

visible_ascii : (text : List ℕ) → AllByRecursion (λ byte. (32 < byte) × (byte < 127)) text → IsAscii text
visible_ascii [] all i = omega arith
visible_ascii (byte ∷ text) all zero = let low : byte < 127 = all.0.1 in omega arith
visible_ascii (byte ∷ text) all (suc i) = visible_ascii text all.1 i

-- the bytes of a formula's spelling are visible ones
pub formula_utf8 : (counts : List ℕ) → All (λ byte. (32 < byte) × (byte < 127)) (formula_text counts)
    → IsUtf8 (formula_text counts)
formula_utf8 counts visible =
    IsUtf8-from_ascii (formula_text counts)
    (visible_ascii (formula_text counts) (recursion_from_All _ (formula_text counts) visible))

hexadecimal_small : (digit : ℕ) → digit < 16 → hexadecimal digit < 128
hexadecimal_small digit small = step (ltb digit 10)
  where
    step : (b : Bool) → cond b (48 + digit) (87 + digit) < 128
    step true = omega arith
    step false = omega arith

four_ascii : (a b c d : ℕ) → a < 128 → b < 128 → c < 128 → d < 128 → IsAscii (a ∷ b ∷ c ∷ d ∷ [])
four_ascii a b c d one two three four zero = one
four_ascii a b c d one two three four (suc zero) = two
four_ascii a b c d one two three four (suc (suc zero)) = three
four_ascii a b c d one two three four (suc (suc (suc zero))) = four
four_ascii a b c d one two three four (suc (suc (suc (suc i)))) = omega arith

one_ascii : (a : ℕ) → a < 128 → IsAscii (a ∷ [])
one_ascii a one zero = one
one_ascii a one (suc i) = omega arith

byte_ascii : (byte : ℕ) → byte < 256 → IsAscii (escaped_byte byte)
byte_ascii byte small = step (leb 32 byte && (leb byte 126 && not (eqb byte 92))) refl
  where
    step : (b : Bool) → (leb 32 byte && (leb byte 126 && not (eqb byte 92))) ≡ b
        → IsAscii (cond b (byte ∷ []) (92 ∷ 120 ∷ hexadecimal (byte / 16) ∷ hexadecimal (byte % 16) ∷ []))
    step true is =
        let low : byte ≤ 126 = leb-true byte 126 (and_parts (leb byte 126) (not (eqb byte 92))
        (and_parts (leb 32 byte) (leb byte 126 && not (eqb byte 92)) is).1).0 in
        one_ascii byte (omega arith)
    step false is =
        four_ascii 92 120 (hexadecimal (byte / 16)) (hexadecimal (byte % 16)) (omega arith) (omega arith)
        (hexadecimal_small (byte / 16) (omega arith)) (hexadecimal_small (byte % 16) (omega arith))

escaped_ascii : (title : List ℕ) → ((place : ℕ) → get_or title place 0 < 256) → IsAscii (escaped title)
escaped_ascii [] fits = λ i. omega arith
escaped_ascii (byte ∷ title) fits =
    IsAscii-append (escaped_byte byte) (escaped title) (byte_ascii byte (fits 0))
    (escaped_ascii title (λ place. fits (suc place)))

-- a title's items are bytes
pub escaped_utf8 : (title : List ℕ) → ((place : ℕ) → get_or title place 0 < 256) → IsUtf8 (escaped title)
escaped_utf8 title fits = IsUtf8-from_ascii (escaped title) (escaped_ascii title fits)
