use Rattle.std.proofs.Common.{◌≡◌, ◌++◌, take}
use Rattle.std.specs.List.{flat_map}
use Rattle.tree_document.specs.Document.{list_lines, text_of}
use Rattle.document_writer.proofs.writer.push_each_list.Given as goal

abbrev pub invariant-loop-list : goal.invariant-loop-list
invariant-loop-list l =
    l.text.items ≡ l.initial.text.items ++ flat_map (λ list. text_of (list_lines list)) (take l.list-index l.lists)
