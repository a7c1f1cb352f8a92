use Rattle.std.proofs.Common.{◌≡◌, ◌∙◌, List, [], ◌∷◌, ap, length, subst, sym}
use Rattle.std.specs.Prelude.{replicate}
use Rattle.std.specs.List.{flat_map}
use Rattle.tree_document.specs.Line.{Line, entries_line}
use Rattle.tree_document.specs.Document.{entry_lines}
use Rattle.line_fields.specs.Need.{need_entries, need_entry}
use Rattle.line_reader.specs.Verdict.{Took}
use Rattle.document_reader.proofs.Sequence.{last_took}
use Rattle.document_reader.proofs.reader.read_solved.Goals as goal

pub returns-clause-taken : goal.returns-clause-taken
returns-clause-taken c =
    let same = sym c.of-entries.ensures in
    let count : c.in-Ok.both.0 ≡ length c.of-entries.result = sym c.in-Ok-read_entries.ensures.count ∙ ap length same in
    subst (λ (l : List Line). Took (need_entries ∷ []) [] l c.args.bytes.now c.in-Ok-read_entries.both.1.now)
    (λ i. entries_line (count i) ∷ flat_map entry_lines (same i))
    (last_took (need_entries ∷ []) (replicate c.in-Ok.both.0 need_entry) (entries_line c.in-Ok.both.0 ∷ [])
    (flat_map entry_lines c.in-Ok-read_entries.both.0.items) c.args.bytes.now c.in-Ok.both.1.now
    c.in-Ok-read_entries.both.1.now
    c.in-Ok.ensures c.in-Ok-read_entries.ensures.taken)
