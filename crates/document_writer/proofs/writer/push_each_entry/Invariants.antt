use Rattle.std.proofs.Common.{◌≡◌, ◌++◌, take}
use Rattle.std.specs.List.{flat_map}
use Rattle.tree_document.specs.Document.{entry_lines, text_of}
use Rattle.document_writer.proofs.writer.push_each_entry.Given as goal

abbrev pub invariant-loop-entry : goal.invariant-loop-entry
invariant-loop-entry l =
    l.text.items ≡ l.initial.text.items ++ flat_map (λ entry. text_of (entry_lines entry))
    (take l.entry-index l.entries)
