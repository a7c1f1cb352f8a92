use Rattle.std.proofs.Common.{◌≡◌, ◌+◌, length, map}
use Rattle.std.specs.Prelude.{IsTrue, replicate}
use Rattle.std.specs.List.{list_all}
use Rattle.tree_certificate.specs.Number.{greatest_number, is_near}
use Rattle.tree_document.specs.Line as spec
use Rattle.line_fields.specs.Need.{need_table_row}
use Rattle.line_reader.specs.Verdict.{Took}
use Rattle.document_reader.proofs.reader.read_table_rows.Given as goal

abbrev pub invariant-loop-left : goal.invariant-loop-left
invariant-loop-left l = record {
  took : Took (replicate l.fn.count need_table_row) (replicate l.left need_table_row)
      (map (λ row. spec.table_row_line row.items) l.items.items) l.fn.bytes l.rest;
  near : IsTrue (list_all (λ row. list_all (is_near greatest_number) row.items) l.items.items);
  all : length l.items.items + l.left ≡ l.fn.count;
}

abbrev pub decreases-loop-left : goal.decreases-loop-left
decreases-loop-left l = l.left
