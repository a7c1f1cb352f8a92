use Rattle.std.proofs.Common.{[], ◌∷◌, length}
use Rattle.std.specs.List.{flat_map}
use Rattle.tree_document.specs.Document.{section_lines}
use Rattle.line_fields.specs.Need.{need_sections}
use Rattle.line_reader.specs.Verdict.{Took}
use Rattle.document_reader.proofs.reader.read_sections.Given as goal

abbrev pub invariant-sections : goal.invariant-sections
invariant-sections l =
    Took (need_sections ∷ []) (need_sections ∷ []) (flat_map section_lines l.sections.items) l.fn.bytes l.rest

abbrev pub decreases-sections : goal.decreases-sections
decreases-sections l = length l.rest
