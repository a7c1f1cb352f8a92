use Rattle.std.proofs.Common.{◌≡◌, ◌∙◌, List, [], ◌∷◌, Ok, ap, length, map, subst, sym}
use Rattle.std.specs.Prelude.{replicate}
use Rattle.std.specs.List.{list_all}
use Rattle.tree_document.specs.Line.{Line, table_line, table_row_line}
use Rattle.line_fields.specs.Need.{need_cert, need_table_row}
use Rattle.line_reader.specs.Taking.{TakesTable}
use Rattle.line_reader.specs.Verdict.{Took}
use Rattle.std.proofs.lemmas.List.{length-map}
use Rattle.tree_certificate.specs.Number.{greatest_number, is_near}
use Rattle.std.proofs.lemmas.List.Folds.{list_all-map}
use Rattle.document_reader.proofs.Sequence.{last_took, map_of_map}
use Rattle.document_reader.proofs.reader.read_cert.Goals as goal

pub of_rows-requires : goal.of_rows-requires
of_rows-requires c =
    list_all-map (list_all (is_near greatest_number)) (λ row. row.items) c.in-Ok-read_table_rows.both.0.items
    ∙ c.in-Ok-read_table_rows.ensures.numbers

pub returns : goal.returns
returns c =
    let head : Took (need_cert ∷ []) (replicate c.in-Some.count need_table_row) (table_line c.in-Some.count ∷ [])
    c.args.bytes.now c.in-Some.rest.now =
    subst (λ o. TakesTable c.args.bytes.now (Ok o)) c.in-Some.is c.in-Ok.ensures in
    let same = sym c.of_rows.ensures in
    let count : c.in-Some.count ≡ length c.of_rows.result =
    sym c.in-Ok-read_table_rows.ensures.count ∙ sym (length-map c.in-Ok-read_table_rows.both.0.items
    (λ row. row.items)) ∙ ap length same in
    let lines : map (λ row. table_row_line row.items) c.in-Ok-read_table_rows.both.0.items
    ≡ map (λ x. table_row_line x) c.of_rows.result =
    sym (map_of_map table_row_line (λ row. row.items) c.in-Ok-read_table_rows.both.0.items)
    ∙ ap (map table_row_line) same in
    subst (λ (l : List Line). Took (need_cert ∷ []) [] l c.args.bytes.now c.in-Ok-read_table_rows.both.1.now)
    (λ i. table_line (count i) ∷ lines i)
    (last_took (need_cert ∷ []) (replicate c.in-Some.count need_table_row) (table_line c.in-Some.count ∷ [])
    (map (λ row. table_row_line row.items) c.in-Ok-read_table_rows.both.0.items) c.args.bytes.now c.in-Some.rest.now
    c.in-Ok-read_table_rows.both.1.now
    head c.in-Ok-read_table_rows.ensures.taken)
