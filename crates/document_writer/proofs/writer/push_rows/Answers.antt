use Rattle.std.proofs.Common.{◌++◌, arith}
use Rattle.std.specs.Prelude.{codes}
use Rattle.tree_document.specs.Line as spec
use Rattle.document_writer.proofs.TextOf.{one_more}
use Rattle.document_writer.proofs.writer.push_rows.Goals as goal

pub loop-row-preserved : goal.loop-row-preserved
loop-row-preserved c =
    one_more (λ row. spec.line_text (spec.row_line row) ++ codes "\n") _ _ _ c.args.rows.now c.loop-row.row-index
    c.row-item.result (omega arith) c.row-item.is c.loop-row.invariant c.in_ok-push_row.ensures
