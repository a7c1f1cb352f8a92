use Rattle.std.proofs.Common.{◌∙◌, ◌++◌, ◌∷◌, ap, length, map}
use Rattle.tree_document.specs.Document.{cert_lines, text_of}
use Rattle.tree_document.specs.Line as spec
use Rattle.tree_certificate.specs.Value.{cert_of}
use Rattle.document_writer.proofs.TextOf.{head_items_and_last}
use Rattle.document_writer.proofs.writer.push_tree.Goals as goal

pub returns : goal.returns
returns c =
    let it = c.args.tree.now in
    let rows = c.items.ensures ∙ ap (λ tree. tree.rows) c.tree.view_is in
    let line = spec.tree_line c.args.candidate.now c.args.error it.score it.upper it.mark (length it.rows) in
    head_items_and_last c.args.text.now.items c.push_tree_line.new.text.items c.push_rows.new.text.items
    c.push_cert.new.text.items line (λ row. spec.row_line row) c.items.result.now
    (cert_lines (cert_of c.tree.inside.cert)) c.in_ok-push_tree_line.ensures c.in_ok-push_rows.ensures
    c.in_ok-push_cert.ensures
    ∙ (λ i. c.args.text.now.items ++ text_of (line ∷ map (λ row. spec.row_line row) (rows i)
    ++ cert_lines (c.tree.view_is i).cert))
