-- `section_lines`: the lines of lists, of what stands of a spectrum, and of a section.
use Rattle.std.proofs.Common.{◌≡◌, ◌≤◌, ◌<◌, ◌∷◌, ◌^◌, [], ℕ, List, length, map, true}
use Rattle.std.proofs.Common.{refl, arith}
use Rattle.std.proofs.lemmas.List.{length-map}
use Rattle.std.proofs.lemmas.List.Sorted.{length_permutation}
use Rattle.std.specs.List.{All, flat_map}
use Rattle.std.specs.List.Sorted.{IsPermutation}
use Rattle.adducts.specs.declared.choice.Choice.{Choice}
use Rattle.element_table.specs.Formula.{IsFormula}
use Rattle.element_table.specs.FormulaList.{FormulaListValue, greatest_list}
use Rattle.loss_graph.specs.Lists.{IsList}
use Rattle.tree_document.specs.Document.{AreGoodLines, IsGood, IsGoodLine, body_lines, ending_line, entry_lines}
use Rattle.tree_document.specs.Document.{list_lines, section_lines}
use Rattle.tree_document.specs.Line.{done_line, entries_line, formula_line, header_line, list_line, lists_line}
use Rattle.tree_document.specs.Line.{spectrum_line}
use Rattle.tree_document.specs.Title.{are_bytes}
use Rattle.tree_document.specs.declared.document.Body.TheVariants.{Solved}
use Rattle.tree_document.specs.declared.document.Document.{Document}
use Rattle.tree_document.specs.declared.document.Section.{Section}
use Rattle.tree_document.specs.declared.document.Solved.{Solved as SolvedRead}
use Rattle.tree_document.specs.declared.entry.Entry.{Entry}
use Rattle.right_document.specs.Candidates.{candidates_of}
use Rattle.right_document.specs.SolveSettings.{SolveSettingsValue}
use Rattle.right_document.proofs.CandidatesOf.{candidates_few}
use Rattle.right_document.proofs.GoodLines.{line_is_good, within}
use Rattle.solve_command.proofs.AreGoodLines.{good-append, good-flat_map, good-map}

list_is_good : (choice : Choice) (list : FormulaListValue) → IsList choice list → All IsFormula list.formulas
    → AreGoodLines (list_lines list)
list_is_good choice list is formulas = (
  line_is_good (list_line list.mz list.intensity (length list.formulas)) refl (
    within (10 ^ 18) list.mz is.mz (omega arith),
    (
      within (10 ^ 18) list.intensity is.intensity (omega arith),
      (within greatest_list (length list.formulas) is.few (omega arith), tt),
    ),
  ),
  good-map formula_line list.formulas (λ k d before. line_is_good (formula_line _) refl (formulas k d before, tt)),
)

-- what a spectrum's lists and entries are told by
pub solved_is_good : (choice : Choice) (solved : SolvedRead) → 0 < length solved.lists → length solved.lists ≤ 41
    → All (IsList choice) solved.lists → All (λ list. All IsFormula list.formulas) solved.lists
    → length solved.entries ≤ greatest_list → All (λ entry. AreGoodLines (entry_lines entry)) solved.entries
    → AreGoodLines (body_lines (Solved solved))
solved_is_good choice solved some few lists formulas few_entries entries = (
  line_is_good (lists_line (length solved.lists)) refl ((some, few, omega arith), tt),
  good-append (flat_map list_lines solved.lists)
      (entries_line (length solved.entries) ∷ flat_map entry_lines solved.entries)
      (good-flat_map list_lines solved.lists
      (λ k d before. list_is_good choice _ (lists k d before) (formulas k d before))) (
        line_is_good (entries_line (length solved.entries)) refl
            (within greatest_list (length solved.entries) few_entries (omega arith), tt),
        good-flat_map entry_lines solved.entries entries,
      ),
)

-- ranked entries are as many as the candidates, of which there are no more than formulas of the precursor
pub entries-few : (settings : SolveSettingsValue) (formulas : List (List ℕ)) (entries : List Entry)
    → IsPermutation (candidates_of settings formulas) (map (λ entry. entry.candidate) entries)
    → length formulas ≤ greatest_list
    → length entries ≤ greatest_list
entries-few settings formulas entries same few =
    omega (
      arith,
      few,
      candidates_few settings formulas,
      length-map entries (λ (entry : Entry). entry.candidate),
      length_permutation _ _ same,
    )

-- a section around what stands of its spectrum
pub section_is_good : (section : Section) → section.line ≤ 4294967295 → are_bytes section.title ≡ true
    → AreGoodLines (body_lines section.body) → AreGoodLines (section_lines section)
section_is_good section few title body = (
  line_is_good (spectrum_line section.line section.title) refl
      (within 4294967295 section.line few (omega arith), (title, tt)),
  good-append (body_lines section.body) (done_line ∷ []) body (line_is_good done_line refl tt, tt),
)

-- a document of sections
pub document_is_good : (document : Document) → All (λ section. AreGoodLines (section_lines section)) document.sections
    → IsGoodLine (ending_line document.ending) → IsGood document
document_is_good document sections ending = (
  line_is_good header_line refl (tt, tt),
  good-append (flat_map section_lines document.sections) (ending_line document.ending ∷ [])
      (good-flat_map section_lines document.sections sections) (ending, tt),
)
