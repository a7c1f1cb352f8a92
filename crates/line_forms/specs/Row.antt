-- The line of a row, its numbers of any size.
use Rattle.line_forms.specs.declared.lines.RowFields.{RowFields}
use Rattle.tree_document.specs.Line.{Line, row_line}

abbrev pub row_fields_line : RowFields → Line
row_fields_line it =
    row_line (record {
      edge = it.edge;
      parent = it.parent;
      peak = it.peak;
      formula = it.formula;
      loss = it.loss;
      weight = it.weight;
    })
