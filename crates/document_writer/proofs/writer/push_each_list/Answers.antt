use Rattle.std.proofs.Common.{arith}
use Rattle.tree_document.specs.Document.{list_lines, text_of}
use Rattle.document_writer.proofs.TextOf.{one_more}
use Rattle.document_writer.proofs.writer.push_each_list.Goals as goal

pub loop-list-preserved : goal.loop-list-preserved
loop-list-preserved c =
    one_more (λ list. text_of (list_lines list)) _ _ _ c.args.lists.now c.loop-list.list-index
    c.list-item.result (omega arith) c.list-item.is c.loop-list.invariant c.in_ok-push_list.ensures
