use Rattle.std.proofs.Common.{◌≡◌, ◌∙◌, ◌++◌, List, [], ◌∷◌, ap, length, subst, sym}
use Rattle.std.specs.Prelude.{replicate}
use Rattle.std.specs.List.{flat_map}
use Rattle.tree_document.specs.Line.{Line, entries_line, lists_line}
use Rattle.tree_document.specs.Document.{entry_lines, list_lines}
use Rattle.line_reader.specs.Head.{body_head_line}
use Rattle.line_fields.specs.Need.{follow, need_body, need_entries, need_list}
use Rattle.line_reader.specs.Verdict.{Took, next_needs}
use Rattle.document_reader.proofs.Sequence.{last_stops, last_took, then_took}
use Rattle.document_reader.proofs.reader.read_body.Goals as goal

pub returns-in-Err-read_solved : goal.returns-in-Err-read_solved
returns-in-Err-read_solved c =
    last_stops (need_body ∷ []) (need_entries ∷ []) (lists_line c.in-Lists.count ∷ flat_map list_lines
    c.in-Ok-read_lists.both.0.items) c.args.bytes.now c.in-Ok-read_lists.both.1.now c.in-Err-read_solved.stop
    (then_took (need_body ∷ []) (replicate c.in-Lists.count need_list) (need_entries ∷ []) []
    (lists_line c.in-Lists.count ∷ []) (flat_map list_lines c.in-Ok-read_lists.both.0.items) c.args.bytes.now
    c.in-Ok.both.1.now c.in-Ok-read_lists.both.1.now
    (subst (λ head. Took (need_body ∷ []) (next_needs (follow need_body (body_head_line head)))
    (body_head_line head ∷ []) c.args.bytes.now c.in-Ok.both.1.now) c.in-Lists.is c.in-Ok.ensures)
    c.in-Ok-read_lists.ensures.taken) c.in-Err-read_solved.ensures.taken

pub returns-in-Ok-read_solved : goal.returns-in-Ok-read_solved
returns-in-Ok-read_solved c =
    let same = sym c.in-Ok-read_solved.ensures.lists in
    let count : c.in-Lists.count ≡ length c.in-Ok-read_solved.both.0.lists =
    sym c.in-Ok-read_lists.ensures.count ∙ ap length same in
    let rest : List Line =
    entries_line (length c.in-Ok-read_solved.both.0.entries) ∷ flat_map entry_lines
    c.in-Ok-read_solved.both.0.entries in
    subst (λ (l : List Line). Took (need_body ∷ []) [] l c.args.bytes.now c.in-Ok-read_solved.both.1.now)
    (λ i. lists_line (count i) ∷ (flat_map list_lines (same i) ++ rest))
    (last_took (need_body ∷ []) (need_entries ∷ []) (lists_line c.in-Lists.count ∷ flat_map list_lines
    c.in-Ok-read_lists.both.0.items) rest c.args.bytes.now c.in-Ok-read_lists.both.1.now
    c.in-Ok-read_solved.both.1.now
    (then_took (need_body ∷ []) (replicate c.in-Lists.count need_list) (need_entries ∷ []) []
    (lists_line c.in-Lists.count ∷ []) (flat_map list_lines c.in-Ok-read_lists.both.0.items) c.args.bytes.now
    c.in-Ok.both.1.now c.in-Ok-read_lists.both.1.now
    (subst (λ head. Took (need_body ∷ []) (next_needs (follow need_body (body_head_line head)))
    (body_head_line head ∷ []) c.args.bytes.now c.in-Ok.both.1.now) c.in-Lists.is c.in-Ok.ensures)
    c.in-Ok-read_lists.ensures.taken) c.in-Ok-read_solved.ensures.taken)
