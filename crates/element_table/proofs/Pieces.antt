-- Of pieces_of: the pieces of a text, the first of them and the rest.
use Rattle.std.proofs.Common.{◌≡◌, ◌+◌, ◌∙◌, ℕ, suc, Bool, true, false, cond, not, List, [], ◌∷◌, length, drop, refl}
use Rattle.std.proofs.Common.{ap, arith}
use Rattle.std.proofs.lemmas.List.{length-take-le}
use Rattle.std.proofs.lemmas.List.Sums.{prefix_len-le-length}
use Rattle.std.specs.Char.{is_ascii_uppercase}
use Rattle.std.specs.List.{before_first, position_or_len}
use Rattle.element_table.specs.FormulaReading.{pieces_of}

-- how many bytes stand before the first capital letter
abbrev pub inner_len : List ℕ → ℕ
inner_len bytes = position_or_len is_ascii_uppercase bytes

-- nothing, or a capital letter first
abbrev pub Begins : List ℕ → Type 0
Begins [] = Unit {0}
Begins (byte ∷ bytes) = is_ascii_uppercase byte ≡ true

-- bytes before the first capital letter are no piece
pub pieces_of-inner : (bytes : List ℕ)
    → (pieces_of bytes ≡ pieces_of (drop (inner_len bytes) bytes)) × Begins (drop (inner_len bytes) bytes)
pieces_of-inner [] = (refl, tt)
pieces_of-inner (byte ∷ bytes) = step (pieces_of-inner bytes) (is_ascii_uppercase byte) refl
  where
    step : (pieces_of bytes ≡ pieces_of (drop (inner_len bytes) bytes)) × Begins (drop (inner_len bytes) bytes)
        → (b : Bool) → is_ascii_uppercase byte ≡ b
        → (cond (is_ascii_uppercase byte) ((byte ∷ before_first is_ascii_uppercase bytes) ∷ pieces_of bytes)
        (pieces_of bytes) ≡ pieces_of
        (drop (cond (not (is_ascii_uppercase byte)) (1 + inner_len bytes) 0) (byte ∷ bytes)))
        × Begins (drop (cond (not (is_ascii_uppercase byte)) (1 + inner_len bytes) 0) (byte ∷ bytes))
    step later true is = rw is (rw is refl, is)
    step later false is = let more : 1 + inner_len bytes ≡ suc (inner_len bytes) = omega arith in rw (is, more) later

-- a text that begins with a capital letter is its first piece and the pieces of the rest
pub pieces_of-first : (byte : ℕ) (bytes piece : List ℕ) → is_ascii_uppercase byte ≡ true
    → piece ≡ byte ∷ before_first is_ascii_uppercase bytes
    → (pieces_of (byte ∷ bytes) ≡ piece ∷ pieces_of (drop (length piece) (byte ∷ bytes)))
    × Begins (drop (length piece) (byte ∷ bytes))
pieces_of-first byte bytes piece is piece_is =
    let taken : length (before_first is_ascii_uppercase bytes) ≡ inner_len bytes =
    length-take-le (inner_len bytes) bytes (prefix_len-le-length _ bytes) in
    let long : length piece ≡ suc (inner_len bytes) = ap length piece_is ∙ ap (λ n. suc n) taken in
    let later = pieces_of-inner bytes in
    rw (long, piece_is) (
      rw is (ap (λ pieces. (byte ∷ before_first is_ascii_uppercase bytes) ∷ pieces) later.0),
      later.1,
    )
