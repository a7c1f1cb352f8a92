use Rattle.std.proofs.Common.{◌≡◌, ◌<◌, ◌≤◌, ◌^◌, ◌++◌, ℤ, pos, negsuc, List, [], ◌∷◌, length, map, subst, sym, of_z}
use Rattle.std.proofs.Common.{to_z, w64, arith}
use Rattle.std.specs.Prelude.{replicate, unsigned_abs}
use lib.Signed.{mag}
use Rattle.tree_document.specs.Line.{Line, row_line, tree_line}
use Rattle.tree_document.specs.Document.{cert_lines}
use Rattle.tree_certificate.specs.Value.{cert_of}
use Rattle.tree_document.specs.Value.{TreeValue}
use Rattle.line_reader.specs.Head.{IsSmallHead, entry_head_line}
use Rattle.line_fields.specs.Need.{follow, need_cert, need_entry, need_row}
use Rattle.line_reader.specs.Verdict.{Took, next_needs}
use Rattle.std.proofs.lemmas.Int.{to_z-of_z}
use Rattle.document_reader.proofs.Sequence.{last_stops, last_took, then_stops, then_took}
use Rattle.document_reader.proofs.reader.read_entry.Goals as goal

mag_small : (z : ℤ) → unsigned_abs z ≤ 1000000000000000 → mag z < 2 ^ 63
mag_small (pos n) small = omega arith
mag_small (negsuc n) small = omega arith

pub returns-in-Err-read_rows : goal.returns-in-Err-read_rows
returns-in-Err-read_rows c =
    then_stops (need_entry ∷ []) (replicate c.in-Tree.count need_row) (need_cert ∷ [])
    (tree_line c.in-Tree.candidate c.in-Tree.error c.in-Tree.score c.in-Tree.upper c.in-Tree.mark c.in-Tree.count ∷ [])
    c.args.bytes.now c.in-Ok.both.1.now c.in-Err-read_rows.stop
    (subst (λ head. Took (need_entry ∷ []) (next_needs (follow need_entry (entry_head_line head)))
    (entry_head_line head ∷ []) c.args.bytes.now c.in-Ok.both.1.now) c.in-Tree.is c.in-Ok.ensures.taken)
    c.in-Err-read_rows.ensures.taken

pub returns-in-Err-read_cert : goal.returns-in-Err-read_cert
returns-in-Err-read_cert c =
    last_stops (need_entry ∷ []) (need_cert ∷ []) (tree_line c.in-Tree.candidate c.in-Tree.error c.in-Tree.score
    c.in-Tree.upper c.in-Tree.mark c.in-Tree.count ∷ map (λ it. row_line it) c.in-Ok-read_rows.both.0.items)
    c.args.bytes.now c.in-Ok-read_rows.both.1.now c.in-Err-read_cert.stop
    (then_took (need_entry ∷ []) (replicate c.in-Tree.count need_row) (need_cert ∷ []) []
    (tree_line c.in-Tree.candidate c.in-Tree.error c.in-Tree.score c.in-Tree.upper c.in-Tree.mark
    c.in-Tree.count ∷ []) (map (λ it. row_line it) c.in-Ok-read_rows.both.0.items) c.args.bytes.now
    c.in-Ok.both.1.now c.in-Ok-read_rows.both.1.now
    (subst (λ head. Took (need_entry ∷ []) (next_needs (follow need_entry (entry_head_line head)))
    (entry_head_line head ∷ []) c.args.bytes.now c.in-Ok.both.1.now) c.in-Tree.is c.in-Ok.ensures.taken)
    c.in-Ok-read_rows.ensures.taken) c.in-Err-read_cert.ensures

pub returns-in-Ok-read_cert : goal.returns-in-Ok-read_cert
returns-in-Ok-read_cert c =
    let count : c.in-Tree.count ≡ length c.in-Ok-read_rows.both.0.items = sym c.in-Ok-read_rows.ensures.count in
    let whole = last_took (need_entry ∷ []) (need_cert ∷ [])
    (tree_line c.in-Tree.candidate c.in-Tree.error c.in-Tree.score c.in-Tree.upper c.in-Tree.mark
    c.in-Tree.count ∷ map (λ it. row_line it) c.in-Ok-read_rows.both.0.items)
    (cert_lines (cert_of c.in-Ok-read_cert.both.0)) c.args.bytes.now c.in-Ok-read_rows.both.1.now
    c.in-Ok-read_cert.both.1.now
    (then_took (need_entry ∷ []) (replicate c.in-Tree.count need_row) (need_cert ∷ []) []
    (tree_line c.in-Tree.candidate c.in-Tree.error c.in-Tree.score c.in-Tree.upper c.in-Tree.mark
    c.in-Tree.count ∷ []) (map (λ it. row_line it) c.in-Ok-read_rows.both.0.items) c.args.bytes.now
    c.in-Ok.both.1.now c.in-Ok-read_rows.both.1.now
    (subst (λ head. Took (need_entry ∷ []) (next_needs (follow need_entry (entry_head_line head)))
    (entry_head_line head ∷ []) c.args.bytes.now c.in-Ok.both.1.now) c.in-Tree.is c.in-Ok.ensures.taken)
    c.in-Ok-read_rows.ensures.taken) c.in-Ok-read_cert.ensures in
    let small = subst IsSmallHead c.in-Tree.is c.in-Ok.ensures.small in
    let score : to_z w64 (of_z w64 c.in-Tree.score) ≡ c.in-Tree.score =
    to_z-of_z w64 c.in-Tree.score (record { sfits = mag_small c.in-Tree.score small.0 }) in
    let upper : to_z w64 (of_z w64 c.in-Tree.upper) ≡ c.in-Tree.upper =
    to_z-of_z w64 c.in-Tree.upper (record { sfits = mag_small c.in-Tree.upper small.1 }) in
    subst (λ (t : TreeValue). Took (need_entry ∷ []) [] (tree_line c.in-Tree.candidate c.in-Tree.error t.score t.upper
    t.mark (length t.rows) ∷ (map (λ it. row_line it) t.rows ++ cert_lines t.cert)) c.args.bytes.now
    c.in-Ok-read_cert.both.1.now) (sym c.tree_of.ensures)
    (subst (λ (l : List Line). Took (need_entry ∷ []) [] l c.args.bytes.now c.in-Ok-read_cert.both.1.now)
    (λ i. tree_line c.in-Tree.candidate c.in-Tree.error (sym score i) (sym upper i) c.in-Tree.mark
    (count i) ∷ (map (λ it. row_line it) c.in-Ok-read_rows.both.0.items
    ++ cert_lines (cert_of c.in-Ok-read_cert.both.0))) whole)
