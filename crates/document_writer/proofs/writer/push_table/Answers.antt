use Rattle.std.proofs.Common.{length}
use Rattle.tree_document.specs.Line as spec
use Rattle.document_writer.proofs.TextOf.{head_and_items}
use Rattle.document_writer.proofs.writer.push_table.Goals as goal

pub returns : goal.returns
returns c = head_and_items c.args.text.now.items c.push_counted.new.text.items c.push_table_rows.new.text.items
    (spec.table_line (length c.args.rows.now)) (λ row. spec.table_row_line row.items) c.args.rows.now
    c.in_ok-push_counted.ensures c.in_ok-push_table_rows.ensures
