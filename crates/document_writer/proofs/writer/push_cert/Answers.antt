use Rattle.std.proofs.Common.{rules, ◌≡◌, ◌∙◌, ◌++◌, ap, map}
use Rattle.tree_document.specs.Document.{cert_lines, text_of}
use Rattle.tree_certificate.specs.Value.{a_table, cert_of}
use Rattle.document_writer.proofs.TextOf.{table_lines}
use Rattle.document_writer.proofs.writer.push_cert.Goals as goal

pub returns-in_ok-push_table-in-Table : goal.returns-in_ok-push_table-in-Table
returns-in_ok-push_table-in-Table c =
    let table : a_table (map (λ row. row.items) c.rows.result.now) ≡ cert_of c.args.cert.now = search rules in
    c.in_ok-push_table-in-Table.ensures ∙ ap (λ lines. c.args.text.now.items ++ text_of lines)
    (table_lines (λ row. row.items) c.rows.result.now ∙ ap cert_lines table)
