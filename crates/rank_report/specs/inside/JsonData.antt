-- The JSON values whose texts the JSON report consists of.
use Rattle.std.specs.Prelude.{ℕ, List, length, map, codes}
use Rattle.element_table.specs.FormulaList.{FormulaListValue}
use Rattle.element_table.specs.FormulaText.{formula_text}
use Rattle.mgf_reader.specs.Fault.{kind_of_number}
use Rattle.serde_json.specs.Data.{Data, number, string, array, object, unsigned, member, no_members}
use Rattle.serde_json.specs.Find.{of_integer}
use Rattle.serde_json.specs.View.{items_of}
use Rattle.tree_document.specs.Line.{mark_text, word_of}
use Rattle.tree_document.specs.Title.{escaped}
use Rattle.tree_document.specs.Value.{TreeValue}
use Rattle.tree_document.specs.declared.document.Body.{Body}
use Rattle.tree_document.specs.declared.document.Body.TheVariants.{Skipped, Solved}
use Rattle.tree_document.specs.declared.document.MgfEnd.{MgfEnd}
use Rattle.tree_document.specs.declared.document.Skip.{Skip}
use Rattle.tree_document.specs.declared.entry.Entry.{Entry}
use Rattle.tree_document.specs.declared.entry.Outcome.{Outcome}
use Rattle.tree_document.specs.declared.entry.Outcome.TheVariants.{Tree, TooLarge}
use Rattle.tree_document.specs.declared.entry.TreeRow.{TreeRow}
use Rattle.rank_report.specs.JsonReport.{skip_word}

abbrev pub peak_data : FormulaListValue → Data
peak_data list = object (member (codes "formulas") (number (unsigned (length list.formulas)))
    (member (codes "mz") (number (unsigned list.mz)) no_members))

abbrev pub row_data : TreeRow → Data
row_data row = object (member (codes "formula") (string (formula_text row.formula))
    (member (codes "loss") (string (formula_text row.loss))
    (member (codes "parent") (number (unsigned row.parent))
    (member (codes "peak") (number (unsigned row.peak))
    (member (codes "weight") (number (of_integer row.weight)) no_members)))))

abbrev pub tree_data : List ℕ → ℕ → TreeValue → Data
tree_data candidate error tree = object (member (codes "candidate") (string (formula_text candidate))
    (member (codes "error") (number (unsigned error))
    (member (codes "mark") (string (mark_text tree.mark))
    (member (codes "rows") (array (items_of (map row_data tree.rows)))
    (member (codes "score") (number (of_integer tree.score))
    (member (codes "upper") (number (of_integer tree.upper)) no_members))))))

abbrev pub too_large_data : List ℕ → ℕ → ℕ → Data
too_large_data candidate error vertices = object (member (codes "candidate") (string (formula_text candidate))
    (member (codes "error") (number (unsigned error))
    (member (codes "vertices") (number (unsigned vertices)) no_members)))

abbrev pub outcome_data : List ℕ → ℕ → Outcome → Data
outcome_data candidate error (TooLarge vertices) = too_large_data candidate error vertices
outcome_data candidate error (Tree tree) = tree_data candidate error tree

abbrev pub entry_data : Entry → Data
entry_data entry = outcome_data entry.candidate entry.error entry.outcome

abbrev pub skipped_data : ℕ → List ℕ → Skip → Data
skipped_data line title reason = object (member (codes "line") (number (unsigned line))
    (member (codes "skip") (string (skip_word reason))
    (member (codes "title") (string (escaped title)) no_members)))

abbrev pub solved_data : ℕ → List ℕ → List FormulaListValue → List Entry → Data
solved_data line title lists entries = object (member (codes "entries") (array (items_of (map entry_data entries)))
    (member (codes "line") (number (unsigned line))
    (member (codes "peaks") (array (items_of (map peak_data lists)))
    (member (codes "title") (string (escaped title)) no_members))))

abbrev pub body_data : ℕ → List ℕ → Body → Data
body_data line title (Skipped reason) = skipped_data line title reason
body_data line title (Solved it) = solved_data line title it.lists it.entries

abbrev pub refused_data : MgfEnd → Data
refused_data fault = object (member (codes "end") (string (codes "refused"))
    (member (codes "kind") (string (word_of (kind_of_number fault.kind)))
    (member (codes "line") (number (unsigned fault.line)) no_members)))
