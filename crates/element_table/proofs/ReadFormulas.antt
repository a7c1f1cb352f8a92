-- Of formula_of: what it gives is a formula.
use Rattle.std.proofs.Common.{◌≡◌, ◌-◌, ◌∙◌, ℕ, zero, suc, Bool, true, false, not, cond, inl, inr, List, map, get_or}
use Rattle.std.proofs.Common.{Ok, Err, refl, subst, arith}
use Rattle.std.specs.Prelude.{codes, replicate}
use Rattle.std.specs.List.{list_all}
use Rattle.std.specs.Str.{bytes_eq}
use Rattle.std.proofs.lemmas.Bool.{cases_lt, leb-true}
use Rattle.std.proofs.lemmas.List.{get_or-append_right, get_or_past}
use Rattle.std.proofs.lemmas.List.Sums.{AllPass-from_list_all}
use Rattle.element_table.specs.Elements.{symbols}
use Rattle.element_table.specs.Formula.{IsFormula, empty_formula}
use Rattle.element_table.specs.FormulaReading.{formula_of, formula_of_pieces, is_formula_text, is_known, pieces_of}
use Rattle.element_table.specs.FormulaReading.{symbol_of, total_of, totals_of}
use Rattle.element_table.specs.declared.reading.FormulaFault.TheVariants.{CountTooLarge, NoFormula, UnknownElement}
use Rattle.element_table.proofs.ReadAll.{fits}
use Rattle.element_table.proofs.ReadSoFar.{nought}

abbrev zeros : ℕ → List ℕ
zeros n = replicate n 0

noughts : (n place : ℕ) → get_or (zeros n) place 0 ≡ 0
noughts zero place = refl
noughts (suc n) zero = refl
noughts (suc n) (suc place) = noughts n place

IsFormula-empty : IsFormula empty_formula
IsFormula-empty = record {
  places = refl;
  capped = λ place. let none = nought place in omega arith;
  elements = λ place past. nought place;
}

IsFormula-totals : (pieces : List (List ℕ)) → list_all fits (totals_of pieces) ≡ true → IsFormula (totals_of pieces)
IsFormula-totals pieces small = record {
  places = refl;
  capped = λ place. elim (cases_lt place 16) [
    | inl within ↦ leb-true _ _ (AllPass-from_list_all fits (totals_of pieces) small place 0 within)
    | inr past ↦ let none = get_or_past (totals_of pieces) place 0 past in omega arith
  ];
  elements =
      λ place past. get_or-append_right (map (λ element. total_of pieces element) symbols) (replicate 5 0) 11 place 0
      refl past ∙ noughts 5 (place - 11);
}

pub IsFormula-formula_of : (text counts : List ℕ) → formula_of text ≡ Ok counts → IsFormula counts
unfolding formula_of
IsFormula-formula_of text counts is = dash (bytes_eq text (codes "-")) is
  where
    fit : (b : Bool) → list_all fits (totals_of (pieces_of text)) ≡ b
        → cond (not b) (Err CountTooLarge) (Ok (totals_of (pieces_of text))) ≡ Ok counts → IsFormula counts
    fit true small given =
        let same : totals_of (pieces_of text) ≡ counts =
        cc in subst IsFormula same (IsFormula-totals (pieces_of text) small)
    fit false large given = absurd (cc)

    known : (b : Bool)
        → cond (not b) (Err UnknownElement)
        (cond (not (list_all fits (totals_of (pieces_of text)))) (Err CountTooLarge) (Ok (totals_of (pieces_of text))))
        ≡ Ok counts → IsFormula counts
    known true given = fit (list_all fits (totals_of (pieces_of text))) refl given
    known false given = absurd (cc)

    form : (b : Bool) → cond (not b) (Err NoFormula) (formula_of_pieces (pieces_of text)) ≡ Ok counts → IsFormula counts
    form true given = known (list_all (λ piece. is_known (symbol_of piece)) (pieces_of text)) given
    form false given = absurd (cc)

    dash : (b : Bool)
        → cond b (Ok empty_formula)
        (cond (not (is_formula_text text)) (Err NoFormula) (formula_of_pieces (pieces_of text))) ≡ Ok counts
        → IsFormula counts
    dash true given = let same : empty_formula ≡ counts = cc in subst IsFormula same IsFormula-empty
    dash false given = form (is_formula_text text) given
