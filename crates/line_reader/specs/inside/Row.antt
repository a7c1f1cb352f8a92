-- When the numbers of a row's line fit the row of a tree.
use Rattle.std.specs.Prelude.{◌<◌, ◌≤◌, ◌^◌, unsigned_abs}
use Rattle.line_forms.specs.declared.lines.RowFields.{RowFields}
use Rattle.tree_document.specs.Line.{greatest_weight}

pub record IsSmallRow (it : RowFields) : Type 0 where
  pub edge : it.edge < 2 ^ 32
  pub parent : it.parent < 2 ^ 16
  pub peak : it.peak < 2 ^ 16
  pub weight : unsigned_abs it.weight ≤ greatest_weight
