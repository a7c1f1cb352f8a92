-- Of formula_of: a formula that is read to the end of its text.
use Rattle.std.proofs.Common.{◌≡◌, ◌<◌, ◌≤◌, ◌∙◌, ℕ, Bool, true, false, ◌&&◌, inl, inr, List, [], ◌∷◌, length, map}
use Rattle.std.proofs.Common.{get_or, min, Ok, Err, eqb, ltb, leb, refl, sym, ap, arith}
use Rattle.std.specs.Prelude.{codes, replicate}
use Rattle.std.proofs.lemmas.Bool.{and_parts, cases_lt, eqb-true, le-leb, leb-false, leb-true, lt-leb}
use Rattle.std.proofs.lemmas.List.{ext_get_or, get_or-append_right, get_or-map, get_or-replicate, get_or_append_left}
use Rattle.std.proofs.lemmas.List.Folds.{list_all-map}
use Rattle.std.proofs.lemmas.List.Sums.{AllPass-from_list_all}
use Rattle.std.specs.Char.{is_ascii_uppercase}
use Rattle.std.specs.List.{list_all}
use Rattle.std.specs.Str.{bytes_eq}
use Rattle.element_table.specs.Elements.{symbols}
use Rattle.element_table.specs.Formula.{IsFormula}
use Rattle.element_table.specs.FormulaReading.{formula_of, pieces_of, total_of, totals_of}
use Rattle.element_table.specs.declared.reading.FormulaFault.TheVariants.{UnknownElement, CountTooLarge}
use Rattle.element_table.proofs.ReadSoFar.{ReadSoFar, formula_of-pieces, has_element}

-- a total, or what is too many
abbrev pub cap : ℕ → ℕ
cap total = min 2000 total

abbrev pub fits : ℕ → Bool
fits total = leb total 1999

fits-cap : (total : ℕ) → fits (cap total) ≡ fits total
fits-cap total = step (fits total) refl
  where
    step : (b : Bool) → leb total 1999 ≡ b → leb (cap total) 1999 ≡ b
    step true is = let small = leb-true total 1999 is in le-leb (cap total) 1999 (omega arith)
    step false is = let large = leb-false total 1999 is in lt-leb (cap total) 1999 (omega arith)

total_at : (pieces : List (List ℕ)) (place : ℕ) → place < 11
    → get_or (map cap (totals_of pieces)) place 0 ≡ cap (total_of pieces (get_or symbols place []))
total_at pieces place within =
    get_or-map cap (totals_of pieces) place 0 0 (omega arith)
    ∙ ap cap (get_or_append_left (map (λ element. total_of pieces element) symbols) (replicate 5 0) 0 place within
    ∙ get_or-map (λ element. total_of pieces element) symbols place [] 0 within)

total_past : (pieces : List (List ℕ)) (place : ℕ) → 11 ≤ place → place < 16
    → get_or (map cap (totals_of pieces)) place 0 ≡ 0
total_past pieces place past within =
    get_or-map cap (totals_of pieces) place 0 0 within
    ∙ ap cap (get_or-append_right (map (λ element. total_of pieces element) symbols) (replicate 5 0) 11 place 0 refl
    past ∙ ap (λ k. get_or (replicate 5 0) k 0) refl ∙ get_or-replicate 5 _ 0 0 (omega arith))

-- the totals of a text that is read are those of its pieces
totals_are : (text totals : List ℕ) (known : Bool) → ReadSoFar text [] totals known
    → totals ≡ map cap (totals_of (pieces_of text))
totals_are text totals known reads = ext_get_or 0 totals (map cap (totals_of (pieces_of text))) reads.places
    (λ place within. elim (cases_lt place 11) [
      | inl below ↦ let total =
          reads.total place below in let capped =
          reads.capped place in let at = total_at (pieces_of text) place below in omega arith
      | inr past ↦ reads.others place past ∙ sym (total_past (pieces_of text) place past (omega (arith, reads.places)))
    ])

fits_are : (text totals : List ℕ) (known : Bool) → ReadSoFar text [] totals known
    → list_all fits totals ≡ list_all fits (totals_of (pieces_of text))
fits_are text totals known reads =
    ap (list_all fits) (totals_are text totals known reads) ∙ list_all-map fits cap (totals_of (pieces_of text))
    ∙ (λ i. list_all (λ total. fits-cap total i) (totals_of (pieces_of text)))

map-cap : (totals : List ℕ) → list_all fits totals ≡ true → map cap totals ≡ totals
map-cap [] all = refl
map-cap (total ∷ totals) all =
    let parts = and_parts (fits total) (list_all fits totals) all in
    let small = leb-true total 1999 parts.0 in
    let same : cap total ≡ total = omega arith in
    let others : map cap totals ≡ totals = map-cap totals parts.1 in
    rw (same, others) refl

-- nothing is left to read
pub at_end : (text rest totals : List ℕ) (known : Bool) → ReadSoFar text rest totals known → true ≡ eqb (length rest) 0
    → ReadSoFar text [] totals known
at_end text [] totals known reads none = reads
at_end text (byte ∷ bytes) totals known reads none =
    absurd (omega (arith, eqb-true (length (byte ∷ bytes)) 0 (sym none)))

-- where a symbol is not known
pub formula_of-unknown : (text totals : List ℕ) (known : Bool) → bytes_eq text (codes "-") ≡ false
    → (ltb 0 (length text) && is_ascii_uppercase (get_or text 0 0)) ≡ true → ReadSoFar text [] totals known → known
    ≡ false → Err UnknownElement ≡ formula_of text
formula_of-unknown text totals known no_dash begins reads unknown =
    let elements : list_all has_element (pieces_of text) ≡ false = reads.elements ∙ ap (λ b. b && true) unknown in
    rw (formula_of-pieces text no_dash begins, reads.counts, elements) refl

-- where a total is too many
pub formula_of-too_large : (text totals : List ℕ) (known : Bool) → bytes_eq text (codes "-") ≡ false
    → (ltb 0 (length text) && is_ascii_uppercase (get_or text 0 0)) ≡ true → ReadSoFar text [] totals known → known
    ≡ true
    → list_all fits totals ≡ false → Err CountTooLarge ≡ formula_of text
formula_of-too_large text totals known no_dash begins reads all_known large =
    let elements : list_all has_element (pieces_of text) ≡ true = reads.elements ∙ ap (λ b. b && true) all_known in
    let too_large : list_all fits (totals_of (pieces_of text)) ≡ false =
    sym (fits_are text totals known reads) ∙ large in
    rw (formula_of-pieces text no_dash begins, reads.counts, elements, too_large) refl

-- and else
pub formula_of-read : (text totals : List ℕ) (known : Bool) → bytes_eq text (codes "-") ≡ false
    → (ltb 0 (length text) && is_ascii_uppercase (get_or text 0 0)) ≡ true → ReadSoFar text [] totals known → known
    ≡ true
    → list_all fits totals ≡ true → Ok totals ≡ formula_of text
formula_of-read text totals known no_dash begins reads all_known small =
    let elements : list_all has_element (pieces_of text) ≡ true = reads.elements ∙ ap (λ b. b && true) all_known in
    let fit : list_all fits (totals_of (pieces_of text)) ≡ true = sym (fits_are text totals known reads) ∙ small in
    let same : totals ≡ totals_of (pieces_of text) =
    totals_are text totals known reads ∙ map-cap (totals_of (pieces_of text)) fit in
    rw (formula_of-pieces text no_dash begins, reads.counts, elements, fit) (ap Ok same)

-- the totals are a formula then
pub IsFormula-read : (text totals : List ℕ) (known : Bool) → ReadSoFar text [] totals known
    → list_all fits totals ≡ true → IsFormula totals
IsFormula-read text totals known reads small = record {
  places = reads.places;
  capped = λ place. elim (cases_lt place 16) [
    | inl within ↦ leb-true _ _ (AllPass-from_list_all fits totals small place 0 (omega (arith, reads.places)))
    | inr past ↦ let none = reads.others place (omega arith) in omega arith
  ];
  elements = reads.others;
}
