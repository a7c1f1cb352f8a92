use Rattle.std.proofs.Common.{◌∙◌, ◌++◌, ap, arith}
use Rattle.std.specs.Prelude.{codes}
use Rattle.tree_document.specs.Line as spec
use Rattle.document_writer.proofs.TextOf.{one_more}
use Rattle.document_writer.proofs.writer.push_table_rows.Goals as goal

pub loop-row-preserved : goal.loop-row-preserved
loop-row-preserved c =
    one_more (λ row. spec.line_text (spec.table_row_line row.items) ++ codes "\n") _ _ _ c.args.rows.now
    c.loop-row.row-index
    c.row-item.result (omega arith) c.row-item.is c.loop-row.invariant
    (c.in_ok-push_table_row.ensures
    ∙ ap (λ numbers. c.loop-row.text.items ++ (spec.line_text (spec.table_row_line numbers) ++ codes "\n"))
    c.as_slice.ensures.value)
