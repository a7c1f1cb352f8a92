-- What the vertices of a candidate's graph are to one another and to their lists.
use Rattle.std.specs.Prelude.{◌≡◌, ◌<◌, ◌⊎◌, ℕ, List, length}
use Rattle.adducts.specs.declared.choice.Choice.{Choice}
use Rattle.element_table.specs.Formula.{IsFormula, IsProperPart}
use Rattle.element_table.specs.FormulaList.{FormulaListValue}
use Rattle.element_table.specs.Window.{InWindow}
use Rattle.loss_graph.specs.Lists.{list_at, window_at}
use Rattle.loss_graph.specs.declared.vertex.Vertex.{Vertex}

-- a vertex beside the root: a proper part of the root in the window of its list
pub record IsPart (choice : Choice) (root : List ℕ) (lists : List FormulaListValue) (vertex : Vertex) : Type 0 where
  pub peak : 0 < vertex.peak
  pub list : vertex.peak < length lists
  pub colour : 0 < vertex.colour
  pub formula : IsFormula vertex.formula
  pub part : IsProperPart vertex.formula root
  pub in_window : InWindow (window_at choice (list_at lists vertex.peak)) vertex.formula

-- one vertex before another: of the same list and colour, or of an earlier list and a smaller colour
abbrev pub ComesBefore : Vertex → Vertex → Type 0
ComesBefore one later =
    ((one.peak ≡ later.peak) × (one.colour ≡ later.colour)) ⊎ ((one.peak < later.peak) × (one.colour < later.colour))
