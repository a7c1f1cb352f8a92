-- Whatever is needed can be met by good lines.
use Rattle.std.proofs.Common.{◌≡◌, ◌∙◌, ℕ, pos, List, [], ◌∷◌, ◌++◌, get_or, Some, inl, inr, refl, ap, subst, arith}
use Rattle.std.proofs.Common.{true}
use Rattle.std.specs.Prelude.{codes}
use Rattle.std.specs.List.{list_all}
use Rattle.std.proofs.Math.ListN.{get_or-eq_default}
use Rattle.std.proofs.lemmas.Bool.{and_from, cases_lt}
use Rattle.std.proofs.lemmas.List.{get_or-replicate}
use Rattle.element_table.specs.Formula.{IsFormula, empty_formula}
use Rattle.tree_document.specs.declared.document.Skip.TheVariants.{NoPrecursor}
use Rattle.tree_document.specs.declared.document.Body.TheVariants.{Skipped}
use Rattle.tree_document.specs.declared.document.Ending.TheVariants.{Clean}
use Rattle.tree_document.specs.declared.entry.Outcome.TheVariants.{TooLarge}
use Rattle.tree_certificate.specs.BoundValue.{priced}
use Rattle.tree_certificate.specs.Value.{a_table}
use Rattle.tree_document.specs.Line.{Line, header_line, clean_line, skip_line, list_line, formula_line, entries_line}
use Rattle.tree_document.specs.Line.{too_large_line, row_line, table_line, table_row_line, prices_line, potentials_line}
use Rattle.tree_document.specs.Line.{done_line, Spells, in_range, is_shallow}
use Rattle.tree_document.specs.Document.{AreGoodLines, IsGoodLine}
use Rattle.line_fields.specs.Need.{Need, need_document, need_sections, need_body, need_list, need_formula}
use Rattle.line_fields.specs.Need.{need_entries, need_entry, need_row, need_cert, need_table_row, need_bound}
use Rattle.line_fields.specs.Need.{need_potentials, need_done, follow}
use Rattle.document_reader.proofs.Known.{Known}
use Rattle.document_reader.proofs.Needs.{All, Value, all_lines, value_lines}
use Rattle.document_reader.proofs.Running.{taken}

-- a line that a text spells is good where its numbers are in their ranges and it is shallow
pub good_line : Known → (need : Need) (line : Line) (text : List ℕ) (more : List Need) → follow need line ≡ Some more
    → is_shallow line ≡ true → Spells line text → in_range line ≡ true → IsGoodLine line
good_line known need line text more may shallow spelled near =
    let read = known.complete need text line more may spelled in
    let close : in_range read.line ≡ true = read.range ∙ near in
    subst IsGoodLine (read.same close) (taken known need text read.line read.read close
    (ap is_shallow (read.same close) ∙ shallow)).good

nought : (place : ℕ) → get_or empty_formula place 0 ≡ 0
nought place = elim (cases_lt place 16) [
  | inl within ↦ get_or-replicate 16 place 0 0 within
  | inr past ↦
      get_or-eq_default empty_formula 0 past
]

empty_is : IsFormula empty_formula
empty_is = record {
  places = refl;
  capped = λ place. let none = nought place in omega arith;
  elements =
      λ place past. nought place;
}

good_clean : Known → IsGoodLine clean_line
good_clean known = good_line known need_sections clean_line (codes "end clean") [] refl refl
    (codes " clean", refl, (codes " clean", [], refl, refl, refl)) refl

one : (line : Line) → IsGoodLine line → AreGoodLines (line ∷ [])
one line good = (good, tt)

good_potentials : Known → IsGoodLine (potentials_line (pos 0 ∷ []))
good_potentials known =
    good_line known need_potentials (potentials_line (pos 0 ∷ [])) (codes "potentials 0") [] refl refl
    (codes " 0", refl, (codes " 0", [], refl, (omega arith, (48 ∷ [], [], refl, (refl, refl), refl)), refl)) refl

abbrev Met : Need → Type 0
Met need = (value : Value need) × AreGoodLines (value_lines need value)

met : Known → (need : Need) → Met need
met known need_document = (
  record { sections = []; ending = Clean },
  (
    good_line known need_document header_line (codes "fragdoc 1") _ refl refl
        (codes " 1", refl, (codes " 1", [], refl, refl, refl)) refl,
    one clean_line (good_clean known),
  ),
)
met known need_sections = (([], Clean), one clean_line (good_clean known))
met known need_body = (
  Skipped NoPrecursor,
  one (skip_line NoPrecursor)
      (good_line known need_body (skip_line NoPrecursor) (codes "skip no-precursor") _ refl refl
      (codes " no-precursor", refl, (codes " no-precursor", [], refl, refl, refl)) refl),
)
met known need_list = (
  record { mz = 0; intensity = 0; formulas = [] },
  one (list_line 0 0 0) (good_line known need_list (list_line 0 0 0) (codes "list 0 0 0") _ refl refl (
    codes " 0 0 0",
    refl,
    (
      codes " 0",
      codes " 0 0",
      refl,
      (48 ∷ [], refl, (refl, refl)),
      (
        codes " 0",
        codes " 0",
        refl,
        (48 ∷ [], refl, (refl, refl)),
        (codes " 0", [], refl, (48 ∷ [], refl, (refl, refl)), refl),
      ),
    ),
  ) refl),
)
met known need_formula = (
  empty_formula,
  one (formula_line empty_formula)
      (good_line known need_formula (formula_line empty_formula) (codes "f -") _ refl refl
      (codes " -", refl, (codes " -", [], refl, (empty_is, refl), refl)) refl),
)
met known need_entries = (
  [],
  one (entries_line 0) (good_line known need_entries (entries_line 0) (codes "entries 0") _
      refl refl (codes " 0", refl, (codes " 0", [], refl, (48 ∷ [], refl, (refl, refl)), refl)) refl),
)
met known need_entry = (
  record { candidate = empty_formula; error = 0; outcome = TooLarge 0 },
  one (too_large_line empty_formula 0 0) (good_line known need_entry (too_large_line empty_formula 0 0)
      (codes "entry - 0 too-large 0") _ refl refl (
        codes " - 0 too-large 0",
        refl,
        (
          codes " -",
          codes " 0 too-large 0",
          refl,
          (empty_is, refl),
          (
            codes " 0",
            codes " too-large 0",
            refl,
            (48 ∷ [], refl, (refl, refl)),
            (codes " too-large", codes " 0", refl, refl, (codes " 0", [], refl, (48 ∷ [], refl, (refl, refl)), refl)),
          ),
        ),
      )
      refl),
)
met known need_row = (
  record { edge = 0; parent = 0; peak = 0; formula = empty_formula; loss = empty_formula; weight = pos 0 },
  one _ (good_line known need_row (row_line (record {
    edge = 0;
    parent = 0;
    peak = 0;
    formula = empty_formula;
    loss =
        empty_formula;
    weight = pos 0;
  })) (codes "r 0 0 0 - - 0") _ refl refl (
    codes " 0 0 0 - - 0",
    refl,
    (
      codes " 0",
      codes " 0 0 - - 0",
      refl,
      (48 ∷ [], refl, (refl, refl)),
      (
        codes " 0",
        codes " 0 - - 0",
        refl,
        (48 ∷ [], refl, (refl, refl)),
        (
          codes " 0",
          codes " - - 0",
          refl,
          (48 ∷ [], refl, (refl, refl)),
          (
            codes " -",
            codes " - 0",
            refl,
            (empty_is, refl),
            (
              codes " -",
              codes " 0",
              refl,
              (empty_is, refl),
              (codes " 0", [], refl, (48 ∷ [], refl, (refl, refl)), refl),
            ),
          ),
        ),
      ),
    ),
  ) refl),
)
met known need_cert = (
  a_table [],
  one (table_line 0) (good_line known need_cert (table_line 0) (codes "table 0") _ refl
      refl (codes " 0", refl, (codes " 0", [], refl, (48 ∷ [], refl, (refl, refl)), refl)) refl),
)
met known need_table_row = (
  pos 0 ∷ [],
  one (table_row_line (pos 0 ∷ [])) (good_line known need_table_row (table_row_line (pos 0 ∷ [])) (codes "t 0") _ refl
      refl
      (codes " 0", refl, (codes " 0", [], refl, (omega arith, (48 ∷ [], [], refl, (refl, refl), refl)), refl)) refl),
)
met known (need_bound under) = (
  priced (record { prices = []; potentials = pos 0 ∷ [] }),
  (
    good_line known (need_bound under) (prices_line []) (codes "prices") _ refl refl
        ([], refl, ([], [], refl, (omega arith, refl), refl)) refl,
    (good_potentials known, tt),
  ),
)
met known need_potentials = (pos 0 ∷ [], one (potentials_line (pos 0 ∷ [])) (good_potentials known))
met known need_done = (
  tt,
  one done_line (good_line known need_done done_line (codes "done") _ refl refl
      ([], refl, refl) refl),
)

pub good_append : (first later : List Line) → AreGoodLines first → AreGoodLines later → AreGoodLines (first ++ later)
good_append [] later are also = also
good_append (line ∷ first) later are also = (are.0, good_append first later are.1 also)

-- the numbers of good lines are in their ranges
pub all_near : (lines : List Line) → AreGoodLines lines → list_all in_range lines ≡ true
all_near [] are = refl
all_near (line ∷ lines) are = and_from _ _ are.0.in_range (all_near lines are.1)

pub finish : Known → (needs : List Need) → (values : All needs) × AreGoodLines (all_lines needs values)
finish known [] = (tt, tt)
finish known (need ∷ needs) =
    let first = met known need in
    let later = finish known needs in
    ((first.0, later.0), good_append (value_lines need first.0) (all_lines needs later.0) first.1 later.1)
