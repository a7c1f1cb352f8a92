-- What is known of the reading of a line, and of the spelling of a formula.
use Rattle.std.proofs.Common.{◌≡◌, ◌<◌, ℕ, List, Some}
use Rattle.std.specs.List.{All}
use Rattle.element_table.specs.Formula.{IsFormula}
use Rattle.element_table.specs.FormulaText.{formula_text}
use Rattle.tree_document.specs.Line.{Line, Spells}
use Rattle.line_fields.specs.LineRead.{IsRead, ReadAs}
use Rattle.line_fields.specs.Need.{Need, follow, line_at}

pub record Known : Type 0 where
  pub sound : (need : Need) (text : List ℕ) (line : Line) → line_at need text ≡ Some line → ReadAs need text line
  pub complete : (need : Need) (text : List ℕ) (whole : Line) (more : List Need) → follow need whole ≡ Some more
      → Spells whole text → IsRead need text whole
  pub visible : (counts : List ℕ) → IsFormula counts → All (λ byte. (32 < byte) × (byte < 127)) (formula_text counts)
