use Rattle.std.proofs.Common.{arith}
use Rattle.tree_document.specs.Document.{entry_lines, text_of}
use Rattle.document_writer.proofs.TextOf.{one_more}
use Rattle.document_writer.proofs.writer.push_each_entry.Goals as goal

pub loop-entry-preserved : goal.loop-entry-preserved
loop-entry-preserved c =
    one_more (λ entry. text_of (entry_lines entry)) _ _ _ c.args.entries.now c.loop-entry.entry-index
    c.entry-item.result (omega arith) c.entry-item.is c.loop-entry.invariant c.in_ok-push_entry.ensures
