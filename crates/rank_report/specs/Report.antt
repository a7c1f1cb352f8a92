-- The report of a document, as a text for people.
use Rattle.std.specs.Prelude.{◌++◌, ℕ, ℤ, List, length, codes, decimal}
use Rattle.std.specs.Fmt.{signed_decimal}
use Rattle.std.specs.List.{flat_map, enumerate_from}
use Rattle.fixed_mass.specs.FixedText.{fixed_text, mass_places}
use Rattle.element_table.specs.FormulaList.{FormulaListValue}
use Rattle.element_table.specs.FormulaText.{formula_text}
use Rattle.mgf_reader.specs.Fault.{kind_of_number}
use Rattle.tree_document.specs.Line.{word_of}
use Rattle.tree_document.specs.Title.{escaped}
use Rattle.tree_document.specs.declared.document.Body.{Body}
use Rattle.tree_document.specs.declared.document.Body.TheVariants.{Skipped, Solved}
use Rattle.tree_document.specs.declared.document.Document.{Document}
use Rattle.tree_document.specs.declared.document.Ending.{Ending}
use Rattle.tree_document.specs.declared.document.Ending.TheVariants.{Clean, Refused}
use Rattle.tree_document.specs.declared.document.Section.{Section}
use Rattle.tree_document.specs.declared.document.Skip.{Skip}
use Rattle.tree_document.specs.declared.document.Skip.TheVariants.{NoPrecursor, Charge, Range, TooMany}
use Rattle.tree_document.specs.declared.entry.Entry.{Entry}
use Rattle.tree_document.specs.declared.entry.Mark.{Mark}
use Rattle.tree_document.specs.declared.entry.Mark.TheVariants.{Optimal, Gap}
use Rattle.tree_document.specs.declared.entry.Outcome.{Outcome}
use Rattle.tree_document.specs.declared.entry.Outcome.TheVariants.{Tree, TooLarge}
use Rattle.tree_document.specs.declared.entry.TreeRow.{TreeRow}

-- why a spectrum was skipped
abbrev pub skip_words : Skip → List ℕ
skip_words NoPrecursor = codes "no precursor"
skip_words Charge = codes "charge"
skip_words (Range mz) = codes "range " ++ fixed_text mass_places mz
skip_words (TooMany mz) = codes "too many at " ++ fixed_text mass_places mz

-- a list, with its number from 0
abbrev pub peak_line : ℕ × FormulaListValue → List ℕ
peak_line numbered =
    codes "  peak " ++ decimal numbered.0 ++ codes "  " ++ fixed_text mass_places numbered.1.mz ++ codes "  formulas "
    ++ decimal (length numbered.1.formulas) ++ codes "\n"

-- what is said of a tree's score, by its mark
abbrev pub mark_words : Mark → ℤ → List ℕ
mark_words Optimal upper = codes "  optimal"
mark_words Gap upper = codes "  upper " ++ signed_decimal upper ++ codes "  gap"

-- a row of a tree, with its number from 1
abbrev pub row_line : ℕ × TreeRow → List ℕ
row_line numbered =
    codes "    row " ++ decimal numbered.0 ++ codes "  parent " ++ decimal numbered.1.parent ++ codes "  peak "
    ++ decimal numbered.1.peak ++ codes "  " ++ formula_text numbered.1.formula ++ codes "  loss "
    ++ formula_text numbered.1.loss ++ codes "  weight " ++ signed_decimal numbered.1.weight ++ codes "\n"

-- what was found for a candidate: the end of its line, and a line for each row
abbrev pub outcome_text : Outcome → List ℕ
outcome_text (TooLarge vertices) = codes "  too large " ++ decimal vertices ++ codes "\n"
outcome_text (Tree tree) =
    codes "  score " ++ signed_decimal tree.score ++ mark_words tree.mark tree.upper ++ codes "\n"
    ++ flat_map row_line (enumerate_from 1 tree.rows)

-- an entry, with its rank from 1
abbrev pub entry_text : ℕ × Entry → List ℕ
entry_text numbered =
    codes "  rank " ++ decimal numbered.0 ++ codes "  " ++ formula_text numbered.1.candidate ++ codes "  error "
    ++ decimal numbered.1.error ++ outcome_text numbered.1.outcome

abbrev pub body_text : Body → List ℕ
body_text (Skipped reason) = codes "  skipped: " ++ skip_words reason ++ codes "\n"
body_text (Solved it) =
    flat_map peak_line (enumerate_from 0 it.lists) ++ flat_map entry_text (enumerate_from 1 it.entries)

abbrev pub section_text_of : Section → List ℕ
section_text_of section =
    codes "spectrum at line " ++ decimal section.line ++ codes ": " ++ escaped section.title ++ codes "\n"
    ++ body_text section.body

abbrev pub ending_text_of : Ending → List ℕ
ending_text_of Clean = codes "end: clean\n"
ending_text_of (Refused fault) =
    codes "end: refused at line " ++ decimal fault.line ++ codes " " ++ word_of (kind_of_number fault.kind)
    ++ codes "\n"

-- The report of a document.
abbrev pub report_text_of : Document → List ℕ
report_text_of document = flat_map section_text_of document.sections ++ ending_text_of document.ending
