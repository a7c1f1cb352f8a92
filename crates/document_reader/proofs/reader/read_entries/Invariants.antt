use Rattle.std.proofs.Common.{◌≡◌, ◌+◌, length}
use Rattle.std.specs.Prelude.{replicate}
use Rattle.std.specs.List.{flat_map}
use Rattle.tree_document.specs.Document as spec
use Rattle.line_fields.specs.Need.{need_entry}
use Rattle.line_reader.specs.Verdict.{Took}
use Rattle.document_reader.proofs.reader.read_entries.Given as goal

abbrev pub invariant-loop-left : goal.invariant-loop-left
invariant-loop-left l = record {
  took : Took (replicate l.fn.count need_entry) (replicate l.left need_entry)
      (flat_map (λ entry. spec.entry_lines entry) l.items.items) l.fn.bytes l.rest;
  all : length l.items.items + l.left ≡ l.fn.count;
}

abbrev pub decreases-loop-left : goal.decreases-loop-left
decreases-loop-left l = l.left
