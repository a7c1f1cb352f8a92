-- The whole lines of a text, a byte more.
use Rattle.std.proofs.Common.{sym, ◌≡◌, ◌≤◌, ◌∙◌, ℕ, Bool, true, false, List, [], ◌∷◌, length, eqb, ltb, refl, ap}
use Rattle.std.proofs.Common.{arith}
use Rattle.std.proofs.lemmas.Bool.{cond-false, cond-true, eqb-false, lt-ltb}
use Rattle.mgf_reader.specs.Text.{ended_lines, unfinished_line}

ended-feed : (byte : ℕ) (bytes : List ℕ) → eqb byte 10 ≡ true → ended_lines (byte ∷ bytes) ≡ [] ∷ ended_lines bytes
ended-feed byte bytes is = rw is refl

pub ended-some : (byte : ℕ) (bytes line : List ℕ) (lines : List (List ℕ)) → eqb byte 10 ≡ false
    → ended_lines bytes ≡ line ∷ lines → ended_lines (byte ∷ bytes) ≡ (byte ∷ line) ∷ lines
ended-some byte bytes line lines is some = rw (is, some) refl

ended-none : (byte : ℕ) (bytes : List ℕ) → eqb byte 10 ≡ false → ended_lines bytes ≡ []
    → ended_lines (byte ∷ bytes) ≡ []
ended-none byte bytes is none = rw (is, none) refl

pub unfinished-more : (byte : ℕ) (bytes line : List ℕ) (lines : List (List ℕ))
    → ended_lines (byte ∷ bytes) ≡ line ∷ lines → unfinished_line (byte ∷ bytes) ≡ unfinished_line bytes
unfinished-more byte bytes line lines is =
    let some : ltb 0 (length (ended_lines (byte ∷ bytes))) ≡ true =
    ap (λ ls. ltb 0 (length ls)) is ∙ lt-ltb 0 (length (line ∷ lines)) (omega arith) in
    cond-true (ltb 0 (length (ended_lines (byte ∷ bytes)))) (unfinished_line bytes) (byte ∷ bytes) some

pub few_lines : (bytes : List ℕ) → length (ended_lines bytes) ≤ length bytes
few_lines [] = omega arith
few_lines (byte ∷ bytes) = step (eqb byte 10) refl (ended_lines bytes) refl (few_lines bytes)
  where
    step : (b : Bool) → eqb byte 10 ≡ b → (lines : List (List ℕ)) → ended_lines bytes ≡ lines
        → length (ended_lines bytes) ≤ length bytes → length (ended_lines (byte ∷ bytes)) ≤ length (byte ∷ bytes)
    step true feed lines is few = let all : length (ended_lines (byte ∷ bytes)) ≡ length ([] ∷ ended_lines bytes) =
        ap length (ended-feed byte bytes feed) in omega arith
    step false other [] is few = let all : length (ended_lines (byte ∷ bytes)) ≡ 0 =
        ap length (ended-none byte bytes other is) in omega arith
    step false other (line ∷ lines) is few =
        let all : length (ended_lines (byte ∷ bytes)) ≡ length ((byte ∷ line) ∷ lines) =
        ap length (ended-some byte bytes line lines other is) in
        let same : length (ended_lines bytes) ≡ length (line ∷ lines) = ap length is in
        omega arith

-- bytes without a whole line are all unfinished
pub all_unfinished : (bytes : List ℕ) → ended_lines bytes ≡ [] → eqb (length bytes) 0 ≡ false
    → unfinished_line bytes ≡ [] → ⊥
all_unfinished [] none some empty = eqb-false 0 0 some refl
all_unfinished (byte ∷ bytes) none some empty =
    let short : ltb 0 (length (ended_lines (byte ∷ bytes))) ≡ false = ap (λ ls. ltb 0 (length ls)) none in
    let all : unfinished_line (byte ∷ bytes) ≡ byte ∷ bytes =
    cond-false (ltb 0 (length (ended_lines (byte ∷ bytes)))) (unfinished_line bytes) (byte ∷ bytes) short in
    let bad : length (byte ∷ bytes) ≡ 0 = ap length (sym all ∙ empty) in
    omega arith
