-- Of formula_text: the spelling of a formula is not empty, and its bytes are visible.
use Rattle.std.proofs.Common.{◌≡◌, ◌<◌, ◌∙◌, ℕ, Bool, true, false, cond, ◌&&◌, ltb, eqb, List, [], ◌∷◌, ◌++◌, length}
use Rattle.std.proofs.Common.{get_or, refl, arith}
use Rattle.std.specs.Prelude.{codes}
use Rattle.std.specs.List.{All, AllByRecursion, list_all}
use Rattle.std.specs.Str.{all_ascii_digits}
use Rattle.std.proofs.lemmas.Bool.{and_from, and_parts, eqb-false, lt-ltb, ltb-true}
use Rattle.std.proofs.lemmas.List.Folds.{list_all-append}
use Rattle.std.proofs.lemmas.List.Sums.{AllPass-from_list_all}
use Rattle.element_table.specs.Formula.{IsFormula}
use Rattle.element_table.specs.FormulaText.{element_text, formula_text, printed_places}
use Rattle.element_table.proofs.Printed.{IsPrinted, are_printed, some_atom, symbol_at, text_at}
use Rattle.element_table.proofs.PrintedPieces.{count_of_digits-count_text, count_text, digit-bounds}

-- neither a space nor a control
abbrev visible : ℕ → Bool
visible byte = ltb 32 byte && ltb byte 127

digits_visible : (digits : List ℕ) → all_ascii_digits digits ≡ true → list_all visible digits ≡ true
digits_visible [] all = refl
digits_visible (digit ∷ digits) all =
    let parts = and_parts _ _ all in
    let bounds = digit-bounds digit parts.0 in
    and_from _ _ (and_from _ _ (lt-ltb 32 digit (omega arith)) (lt-ltb digit 127 (omega arith)))
    (digits_visible digits parts.1)

-- the part of a place
part_visible : (counts : ℕ → ℕ) (place : ℕ) → IsPrinted counts place → list_all visible (symbol_at place) ≡ true
    → list_all visible (element_text place (counts place)) ≡ true
part_visible counts place printed symbol = step (eqb (counts place) 0) refl
  where
    step : (b : Bool) → eqb (counts place) 0 ≡ b
        → list_all visible (cond b [] (symbol_at place ++ count_text (counts place))) ≡ true
    step true is = refl
    step false is =
        let some : 0 < counts place = omega (arith, eqb-false (counts place) 0 is) in
        let digits = (count_of_digits-count_text (counts place) some printed.fits).0 in
        list_all-append visible (symbol_at place) (count_text (counts place))
        ∙ and_from (list_all visible (symbol_at place)) (list_all visible (count_text (counts place))) symbol
        (digits_visible (count_text (counts place)) digits)

parts_visible : (counts : ℕ → ℕ) (places : List ℕ) → AllByRecursion (IsPrinted counts) places
    → AllByRecursion (λ place. list_all visible (symbol_at place) ≡ true) places
    → list_all visible (text_at counts places) ≡ true
parts_visible counts [] printed symbols = refl
parts_visible counts (place ∷ places) printed symbols =
    list_all-append visible (element_text place (counts place)) (text_at counts places)
    ∙ and_from _ _ (part_visible counts place printed.0 symbols.0) (parts_visible counts places printed.1 symbols.1)

text_visible : (counts : List ℕ) → IsFormula counts → list_all visible (formula_text counts) ≡ true
text_visible counts formula = step (list_all (λ count. eqb count 0) counts)
  where
    symbols : AllByRecursion (λ place. list_all visible (symbol_at place) ≡ true) printed_places
    symbols = (refl, (refl, (refl, (refl, (refl, (refl, (refl, (refl, (refl, (refl, (refl, tt)))))))))))

    step : (b : Bool)
        → list_all visible (cond b (codes "-") (text_at (λ place. get_or counts place 0) printed_places)) ≡ true
    step true = refl
    step false = parts_visible (λ place. get_or counts place 0) printed_places (are_printed counts formula) symbols

pub formula_text-visible : (counts : List ℕ) → IsFormula counts
    → All (λ byte. (32 < byte) × (byte < 127)) (formula_text counts)
formula_text-visible counts formula place none within =
    let both =
    and_parts _ _ (AllPass-from_list_all visible (formula_text counts) (text_visible counts formula) place none
    within) in
    (ltb-true _ _ both.0, ltb-true _ _ both.1)

pub formula_text-some : (counts : List ℕ) → IsFormula counts → 0 < length (formula_text counts)
formula_text-some counts formula = step (list_all (λ count. eqb count 0) counts) refl
  where
    step : (b : Bool) → list_all (λ count. eqb count 0) counts ≡ b
        → 0 < length (cond b (codes "-") (text_at (λ place. get_or counts place 0) printed_places))
    step true none = omega arith
    step false some =
        ltb-true _ _ (and_parts _ _
        (some_atom counts formula some (text_at (λ place. get_or counts place 0) printed_places) refl)).0
