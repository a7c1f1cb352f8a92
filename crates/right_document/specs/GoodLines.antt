-- Which parts of a document have good lines.
use Rattle.std.specs.Prelude.{◌≤◌, ℕ, List, ⊤}
use Rattle.element_table.specs.Formula.{IsFormula}
use Rattle.element_table.specs.Window.{greatest_half_width}
use Rattle.tree_document.specs.Document.{AreGoodLines, IsGoodLine, outcome_lines}
use Rattle.tree_document.specs.Line.{skip_line}
use Rattle.tree_document.specs.declared.entry.Outcome.{Outcome}
use Rattle.tree_document.specs.Outline.{OutlineValue, listed, skipped}

-- where a spectrum is skipped, the line that says why is good
abbrev pub HasGoodReason : OutlineValue → Type 0
HasGoodReason (skipped reason) = IsGoodLine (skip_line reason)
HasGoodReason (listed lists) = ⊤

-- an outcome whose lines are good, for each candidate and each error of one
abbrev pub HasGoodLines : Outcome → Type 0
HasGoodLines outcome = (candidate : List ℕ) (error : ℕ) → IsFormula candidate → error ≤ greatest_half_width
    → AreGoodLines (outcome_lines candidate error outcome)
