-- Of formula_of and formula_text: reading a printed formula.
use Rattle.std.proofs.Common.{◌≡◌, ◌<◌, ◌≤◌, ◌+◌, ◌^◌, ◌∙◌, ℕ, zero, suc, Bool, true, false, cond, not, ◌&&◌, List, []}
use Rattle.std.proofs.Common.{◌∷◌, ◌++◌, length, get_or, map, eqb, leb, ltb, inl, inr, refl, sym, subst, ap, arith, Ok}
use Rattle.std.proofs.Common.{Err}
use Rattle.std.specs.Prelude.{codes, replicate}
use Rattle.std.specs.Char.{is_ascii_uppercase}
use Rattle.std.specs.List.{AllByRecursion, flat_map, list_all, sum_by}
use Rattle.std.specs.Str.{bytes_eq}
use Rattle.std.proofs.lemmas.Bool.{and_from, and_left, and_parts, cases_lt, eqb-false, eqb-true, eq-eqb, leb-true}
use Rattle.std.proofs.lemmas.Bool.{le-leb, lt-ltb, ne_eqb}
use Rattle.std.proofs.lemmas.List.{ext_get_or, get_or-append_right, get_or-map, get_or-replicate, get_or_append_left}
use Rattle.std.proofs.lemmas.List.{get_or_default}
use Rattle.std.proofs.lemmas.List.Sums.{AllPass-from_list_all, list_all-from_AllPass, sum_by-cons}
use Rattle.element_table.specs.Elements.{symbols}
use Rattle.element_table.specs.Formula.{IsFormula, empty_formula}
use Rattle.element_table.specs.FormulaText.{element_text, formula_text, printed_places}
use Rattle.element_table.specs.FormulaReading.{count_of_digits, digits_of, formula_of, formula_of_pieces, is_count}
use Rattle.element_table.specs.FormulaReading.{is_known, pieces_of, share_of, symbol_of, total_of, totals_of}
use Rattle.element_table.specs.declared.reading.FormulaFault.TheVariants.{CountTooLarge, NoFormula, UnknownElement}
use Rattle.element_table.proofs.Pieces.{Begins}
use Rattle.element_table.proofs.PrintedPieces.{count_of_digits-count_text, count_text, is_symbol, pieces_of-part}
use Rattle.element_table.proofs.PrintedPieces.{symbol_of-part}
use Rattle.element_table.proofs.ReadAll.{fits}
use Rattle.element_table.proofs.ReadSoFar.{formula_of-dash, formula_of-pieces, has_count, has_element, nought}

-- the symbol of a place
abbrev pub symbol_at : ℕ → List ℕ
symbol_at place = get_or symbols place []

-- the piece of a place, where it has atoms
abbrev piece_at : ℕ → ℕ → List (List ℕ)
piece_at place count = cond (eqb count 0) [] ((symbol_at place ++ count_text count) ∷ [])

abbrev pub text_at : (ℕ → ℕ) → List ℕ → List ℕ
text_at counts places = flat_map (λ place. element_text place (counts place)) places

abbrev printed_pieces : (ℕ → ℕ) → List ℕ → List (List ℕ)
printed_pieces counts places = flat_map (λ place. piece_at place (counts place)) places

-- what is asked of a place that is printed
pub record IsPrinted (counts : ℕ → ℕ) (place : ℕ) : Type 0 where
  pub symbol : is_symbol (symbol_at place) ≡ true
  pub known : is_known (symbol_at place) ≡ true
  pub fits : counts place < 2 ^ 64

-- the pieces of a printed text are those of its places
pieces_of-printed : (counts : ℕ → ℕ) (places : List ℕ) → AllByRecursion (IsPrinted counts) places
    → (pieces_of (text_at counts places) ≡ printed_pieces counts places) × Begins (text_at counts places)
pieces_of-printed counts [] all = (refl, tt)
pieces_of-printed counts (place ∷ places) all = step (eqb (counts place) 0) refl (pieces_of-printed counts places all.1)
  where
    step : (b : Bool) → eqb (counts place) 0 ≡ b
        → (pieces_of (text_at counts places) ≡ printed_pieces counts places) × Begins (text_at counts places)
        → (pieces_of (cond b [] (symbol_at place ++ count_text (counts place)) ++ text_at counts places)
        ≡ cond b [] ((symbol_at place ++ count_text (counts place)) ∷ []) ++ printed_pieces counts places)
        × Begins (cond b [] (symbol_at place ++ count_text (counts place)) ++ text_at counts places)
    step true is later = later
    step false is later =
        let some : 0 < counts place = omega (arith, eqb-false (counts place) 0 is) in
        let digits = (count_of_digits-count_text (counts place) some all.0.fits).0 in
        let first =
        pieces_of-part (symbol_at place) (count_text (counts place)) (text_at counts places) all.0.symbol digits
        later.1 in
        (first.0 ∙ ap (λ pieces. (symbol_at place ++ count_text (counts place)) ∷ pieces) later.0, first.1)

-- each of them has a count and an element
good-printed : (counts : ℕ → ℕ) (places : List ℕ) → AllByRecursion (IsPrinted counts) places
    → (list_all has_count (printed_pieces counts places) ≡ true)
    × (list_all has_element (printed_pieces counts places) ≡ true)
good-printed counts [] all = (refl, refl)
good-printed counts (place ∷ places) all = step (eqb (counts place) 0) refl (good-printed counts places all.1)
  where
    step : (b : Bool) → eqb (counts place) 0 ≡ b
        → (list_all has_count (printed_pieces counts places) ≡ true)
        × (list_all has_element (printed_pieces counts places) ≡ true)
        → (list_all has_count (cond b [] ((symbol_at place ++ count_text (counts place)) ∷ [])
        ++ printed_pieces counts places) ≡ true)
        × (list_all has_element (cond b [] ((symbol_at place ++ count_text (counts place)) ∷ [])
        ++ printed_pieces counts places) ≡ true)
    step true is later = later
    step false is later =
        let some : 0 < counts place = omega (arith, eqb-false (counts place) 0 is) in
        let count = count_of_digits-count_text (counts place) some all.0.fits in
        let parts = symbol_of-part (symbol_at place) (count_text (counts place)) all.0.symbol count.0 in
        let has : has_count (symbol_at place ++ count_text (counts place)) ≡ true = ap is_count parts.1 ∙ count.1 in
        let element : has_element (symbol_at place ++ count_text (counts place)) ≡ true =
        ap is_known parts.0 ∙ all.0.known in
        (and_from _ _ has later.0, and_from _ _ element later.1)

no_share : (b : Bool) (count : ℕ) → count ≡ 0 → cond b count 0 ≡ 0
no_share true count none = none
no_share false count none = refl

-- and together they have the counts of their places
total_of-printed : (counts : ℕ → ℕ) (places element : List ℕ) → AllByRecursion (IsPrinted counts) places
    → total_of (printed_pieces counts places) element
    ≡ sum_by (λ place. share_of element (symbol_at place) (counts place)) places
total_of-printed counts [] element all = refl
total_of-printed counts (place ∷ places) element all =
    step (eqb (counts place) 0) refl (total_of-printed counts places element all.1) ∙ sym (sum_by-cons _ place places)
  where
    step : (b : Bool) → eqb (counts place) 0 ≡ b
        → total_of (printed_pieces counts places) element
        ≡ sum_by (λ other. share_of element (symbol_at other) (counts other)) places
        → total_of (cond b [] ((symbol_at place ++ count_text (counts place)) ∷ []) ++ printed_pieces counts places)
        element
        ≡ share_of element (symbol_at place) (counts place)
        + sum_by (λ other. share_of element (symbol_at other) (counts other)) places
    step true is later =
        let none : share_of element (symbol_at place) (counts place) ≡ 0 =
        no_share (bytes_eq element (symbol_at place)) (counts place) (eqb-true (counts place) 0 is) in
        omega arith
    step false is later =
        let some : 0 < counts place = omega (arith, eqb-false (counts place) 0 is) in
        let count = count_of_digits-count_text (counts place) some all.0.fits in
        let parts = symbol_of-part (symbol_at place) (count_text (counts place)) all.0.symbol count.0 in
        let piece : List ℕ = symbol_at place ++ count_text (counts place) in
        let share : share_of element (symbol_of piece) (count_of_digits (digits_of piece))
        ≡ share_of element (symbol_at place) (counts place) =
        ap (λ symbol. share_of element symbol (count_of_digits (digits_of piece))) parts.0
        ∙ ap (share_of element (symbol_at place)) (ap count_of_digits parts.1 ∙ count.2) in
        sum_by-cons _ piece (printed_pieces counts places) ∙ (λ i. share i + later i)

-- of all printed places, one has the symbol of a place
at_place : (counts : ℕ → ℕ) (place : ℕ) → place < 11
    → sum_by (λ other. share_of (symbol_at place) (symbol_at other) (counts other)) printed_places ≡ counts place
at_place counts zero within = omega arith
at_place counts (suc zero) within = omega arith
at_place counts (suc (suc zero)) within = omega arith
at_place counts (suc (suc (suc zero))) within = omega arith
at_place counts (suc (suc (suc (suc zero)))) within = omega arith
at_place counts (suc (suc (suc (suc (suc zero))))) within = omega arith
at_place counts (suc (suc (suc (suc (suc (suc zero)))))) within = omega arith
at_place counts (suc (suc (suc (suc (suc (suc (suc zero))))))) within = omega arith
at_place counts (suc (suc (suc (suc (suc (suc (suc (suc zero)))))))) within = omega arith
at_place counts (suc (suc (suc (suc (suc (suc (suc (suc (suc zero))))))))) within = omega arith
at_place counts (suc (suc (suc (suc (suc (suc (suc (suc (suc (suc zero)))))))))) within = omega arith
at_place counts (suc (suc (suc (suc (suc (suc (suc (suc (suc (suc (suc place))))))))))) within = absurd (omega arith)

is_printed : (counts : List ℕ) → IsFormula counts → (place : ℕ) → is_symbol (symbol_at place) ≡ true
    → is_known (symbol_at place) ≡ true → IsPrinted (λ place. get_or counts place 0) place
is_printed counts formula place symbol known =
    record { symbol = symbol; known = known; fits = let capped = formula.capped place in omega arith }

-- every printed place is one that has an element
pub are_printed : (counts : List ℕ) → IsFormula counts
    → AllByRecursion (IsPrinted (λ place. get_or counts place 0)) printed_places
are_printed counts formula =
    let is =
    λ (place : ℕ) (symbol : is_symbol (symbol_at place) ≡ true) (known : is_known (symbol_at place) ≡ true).
    is_printed counts formula place symbol known in (
      is 1 refl refl,
      (
        is 0 refl refl,
        (
          is 2 refl refl,
          (
            is 3 refl refl,
            (
              is 4 refl refl,
              (
                is 5 refl refl,
                (is 6 refl refl, (is 7 refl refl, (is 8 refl refl, (is 9 refl refl, (is 10 refl refl, tt))))),
              ),
            ),
          ),
        ),
      ),
    )

total_at : (counts : List ℕ) → IsFormula counts → (place : ℕ) → place < 11
    → total_of (printed_pieces (λ place. get_or counts place 0) printed_places) (symbol_at place)
    ≡ get_or counts place 0
total_at counts formula place within =
    total_of-printed (λ place. get_or counts place 0) printed_places (symbol_at place) (are_printed counts formula)
    ∙ at_place (λ place. get_or counts place 0) place within

-- the counts of a printed formula are those that its pieces have
totals_are : (counts : List ℕ) → IsFormula counts
    → totals_of (printed_pieces (λ place. get_or counts place 0) printed_places) ≡ counts
totals_are counts formula =
    sym (ext_get_or 0 counts (totals_of pieces) (formula.places) (λ place within. elim (cases_lt place 11) [
      | inl below ↦
          sym (total_at counts formula place below)
          ∙ sym (get_or_append_left (map (λ element. total_of pieces element) symbols) (replicate 5 0) 0 place below
          ∙ get_or-map (λ element. total_of pieces element) symbols place [] 0 below)
      | inr past ↦
          formula.elements place past ∙ sym
          (get_or-append_right (map (λ element. total_of pieces element) symbols) (replicate 5 0) 11 place 0 refl past
          ∙ get_or-replicate 5 _ 0 0 (omega (arith, formula.places)))
    ]))
  where
    pieces : List (List ℕ)
    pieces = printed_pieces (λ place. get_or counts place 0) printed_places

fits-formula : (counts : List ℕ) → IsFormula counts → list_all fits counts ≡ true
fits-formula counts formula =
    list_all-from_AllPass fits counts
    (λ place d within. le-leb _ 1999
    (subst (λ n. n ≤ 1999) (get_or_default counts place 0 d within) (formula.capped place)))

-- where no count is above none
pub no_atom : (counts : List ℕ) → IsFormula counts → list_all (λ count. eqb count 0) counts ≡ true
    → counts ≡ empty_formula
no_atom counts formula none = ext_get_or 0 counts empty_formula formula.places
    (λ place within. eqb-true (get_or counts place 0) 0
    (AllPass-from_list_all (λ count. eqb count 0) counts none place 0 within) ∙ sym (nought place))

-- where one is, the text begins with a capital letter
pub some_atom : (counts : List ℕ) → IsFormula counts → list_all (λ count. eqb count 0) counts ≡ false → (text : List ℕ)
    → text ≡ text_at (λ place. get_or counts place 0) printed_places
    → (ltb 0 (length text) && is_ascii_uppercase (get_or text 0 0)) ≡ true
some_atom counts formula some [] is =
    let at : ℕ → ℕ = λ place. get_or counts place 0 in
    let empty : [] ≡ printed_pieces at printed_places =
    ap pieces_of is ∙ (pieces_of-printed at printed_places (are_printed counts formula)).0 in
    let nothing =
    λ (place : ℕ) (within : place < 11). sym (total_at counts formula place within)
    ∙ ap (λ pieces. total_of pieces (symbol_at place)) (sym empty) in
    let none : list_all (λ count. eqb count 0) counts ≡ true = list_all-from_AllPass (λ count. eqb count 0) counts
    (λ place d within. eq-eqb _ 0
    (get_or_default counts place d 0 within ∙ elim (cases_lt place 11)
    [ inl below ↦ nothing place below | inr past ↦ formula.elements place past ])) in
    (cc)
some_atom counts formula some (byte ∷ bytes) is =
    let capital : is_ascii_uppercase byte ≡ true =
    subst Begins (sym is) (pieces_of-printed (λ place. get_or counts place 0) printed_places
    (are_printed counts formula)).1 in
    and_from _ _ (lt-ltb 0 (suc (length bytes)) (omega arith)) capital

not_dash : (text : List ℕ) → (ltb 0 (length text) && is_ascii_uppercase (get_or text 0 0)) ≡ true
    → bytes_eq text (codes "-") ≡ false
not_dash [] begins = (cc)
not_dash (byte ∷ bytes) begins =
    let capital : 65 ≤ byte =
    leb-true 65 byte (and_parts (leb 65 byte) (leb byte 90)
    (and_parts (ltb 0 (length (byte ∷ bytes))) (is_ascii_uppercase byte) begins).1).0 in
    and_left _ _ (ne_eqb byte 45 (λ same. omega arith))

of_good_pieces : (text counts : List ℕ) (pieces : List (List ℕ))
    → (ltb 0 (length text) && is_ascii_uppercase (get_or text 0 0)) ≡ true → pieces_of text ≡ pieces
    → list_all has_count pieces ≡ true → list_all has_element pieces ≡ true → totals_of pieces ≡ counts
    → list_all fits counts ≡ true → formula_of text ≡ Ok counts
of_good_pieces text counts pieces begins is good known totals small =
    formula_of-pieces text (not_dash text begins) begins
    ∙ ap (λ ps. cond (not (list_all has_count ps)) (Err NoFormula) (formula_of_pieces ps)) is
    ∙ ap (λ b. cond (not b) (Err NoFormula) (formula_of_pieces pieces)) good
    ∙ ap (λ b. cond (not b) (Err UnknownElement)
    (cond (not (list_all fits (totals_of pieces))) (Err CountTooLarge) (Ok (totals_of pieces)))) known
    ∙ ap (λ ts. cond (not (list_all fits ts)) (Err CountTooLarge) (Ok ts)) totals
    ∙ ap (λ b. cond (not b) (Err CountTooLarge) (Ok counts)) small

-- what is printed reads back
pub formula_of-formula_text : (counts : List ℕ) → IsFormula counts → formula_of (formula_text counts) ≡ Ok counts
formula_of-formula_text counts formula = step (list_all (λ count. eqb count 0) counts) refl
  where
    step : (b : Bool) → list_all (λ count. eqb count 0) counts ≡ b
        → formula_of (cond b (codes "-") (text_at (λ place. get_or counts place 0) printed_places)) ≡ Ok counts
    step true none = sym (formula_of-dash (codes "-") refl) ∙ ap Ok (sym (no_atom counts formula none))
    step false some =
        let at : ℕ → ℕ = λ place. get_or counts place 0 in
        let good = good-printed at printed_places (are_printed counts formula) in
        of_good_pieces (text_at at printed_places) counts (printed_pieces at printed_places)
        (some_atom counts formula some (text_at at printed_places) refl)
        (pieces_of-printed at printed_places (are_printed counts formula)).0 good.0 good.1 (totals_are counts formula)
        (fits-formula counts formula)
