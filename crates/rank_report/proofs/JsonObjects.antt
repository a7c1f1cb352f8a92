-- Of the objects of a JSON report: the text of each, and that it holds no float.
use Rattle.std.proofs.Common.{◌≡◌, ◌++◌, ◌∷◌, ℕ, List, false, codes, decimal, refl}
use Rattle.element_table.specs.FormulaList.{FormulaListValue}
use Rattle.std.specs.List.{concat}
use Rattle.serde_json.proofs.OnLiterals.{serde_json_on_literals}
use Rattle.serde_json.specs.Written.{compact_text, has_float}
use Rattle.tree_document.specs.declared.document.Body.{Body}
use Rattle.tree_document.specs.declared.document.Body.TheVariants.{Skipped, Solved}
use Rattle.tree_document.specs.declared.document.MgfEnd.{MgfEnd}
use Rattle.tree_document.specs.declared.document.Ending.TheVariants.{Refused}
use Rattle.tree_document.specs.declared.entry.Entry.{Entry}
use Rattle.tree_document.specs.declared.entry.Outcome.{Outcome}
use Rattle.tree_document.specs.declared.entry.Outcome.TheVariants.{Tree, TooLarge}
use Rattle.tree_document.specs.declared.entry.TreeRow.{TreeRow}
use Rattle.element_table.specs.FormulaText.{formula_text}
use Rattle.rank_report.specs.JsonReport.{body_json, ending_json_of, entry_json, outcome_parts, peak_json, row_json}
use Rattle.rank_report.specs.inside.JsonData.{body_data, entry_data, outcome_data, peak_data, refused_data, row_data}
use Rattle.json.specs.Print.{quoted}
use Rattle.rank_report.proofs.JsonTexts.{array_has_no_float, array_text, integer_is_no_float, integer_text}

pub peak_text : (list : FormulaListValue) → compact_text (peak_data list) ≡ peak_json list
unfolding serde_json_on_literals
peak_text list = refl

pub peak_has_no_float : (list : FormulaListValue) → has_float (peak_data list) ≡ false
peak_has_no_float list = refl

pub row_text : (row : TreeRow) → compact_text (row_data row) ≡ row_json row
unfolding serde_json_on_literals
row_text row = rw (integer_text row.weight) refl

pub row_has_no_float : (row : TreeRow) → has_float (row_data row) ≡ false
row_has_no_float row = rw (integer_is_no_float row.weight) refl

outcome_text : (candidate : List ℕ) (error : ℕ) (outcome : Outcome)
    → compact_text (outcome_data candidate error outcome) ≡ concat (codes "{\"candidate\":"
    ∷ quoted (formula_text candidate) ∷ codes ",\"error\":" ∷ decimal error ∷ outcome_parts outcome)
unfolding serde_json_on_literals
outcome_text candidate error (TooLarge vertices) = refl
outcome_text candidate error (Tree tree) =
    rw (array_text row_data row_json row_text tree.rows, integer_text tree.score, integer_text tree.upper) refl

outcome_has_no_float : (candidate : List ℕ) (error : ℕ) (outcome : Outcome)
    → has_float (outcome_data candidate error outcome) ≡ false
outcome_has_no_float candidate error (TooLarge vertices) = refl
outcome_has_no_float candidate error (Tree tree) =
    rw (
      array_has_no_float row_data row_has_no_float tree.rows,
      integer_is_no_float tree.score,
      integer_is_no_float tree.upper,
    ) refl

pub entry_text : (entry : Entry) → compact_text (entry_data entry) ≡ entry_json entry
entry_text entry = outcome_text entry.candidate entry.error entry.outcome

pub entry_has_no_float : (entry : Entry) → has_float (entry_data entry) ≡ false
entry_has_no_float entry = outcome_has_no_float entry.candidate entry.error entry.outcome

pub body_text : (line : ℕ) (title : List ℕ) (body : Body)
    → compact_text (body_data line title body) ≡ body_json line title body
unfolding serde_json_on_literals
body_text line title (Skipped reason) = refl
body_text line title (Solved it) =
    rw (array_text entry_data entry_json entry_text it.entries, array_text peak_data peak_json peak_text it.lists) refl

pub body_has_no_float : (line : ℕ) (title : List ℕ) (body : Body) → has_float (body_data line title body) ≡ false
body_has_no_float line title (Skipped reason) = refl
body_has_no_float line title (Solved it) =
    rw (
      array_has_no_float entry_data entry_has_no_float it.entries,
      array_has_no_float peak_data peak_has_no_float it.lists,
    ) refl

pub refused_text : (fault : MgfEnd) → compact_text (refused_data fault) ++ codes "\n" ≡ ending_json_of (Refused fault)
unfolding serde_json_on_literals
refused_text fault = refl
