use Rattle.std.proofs.Common.{length}
use Rattle.tree_document.specs.Document.{list_lines}
use Rattle.tree_document.specs.Line as spec
use Rattle.document_writer.proofs.TextOf.{head_and_groups}
use Rattle.document_writer.proofs.writer.push_counted_lists.Goals as goal

pub returns : goal.returns
returns c = head_and_groups c.args.text.now.items c.push_counted.new.text.items c.push_each_list.new.text.items
    (spec.lists_line (length c.args.lists.now)) list_lines c.args.lists.now
    c.in_ok-push_counted.ensures c.in_ok-push_each_list.ensures
