use Rattle.std.proofs.Common.{◌∷◌, ap}
use Rattle.std.specs.Prelude.{[]}
use Rattle.tree_document.specs.Line as spec
use Rattle.line_fields.specs.Need.{first_line, need_cert, or_else, prices_shape, split_shape}
use Rattle.line_reader.proofs.FirstLines.{head_big, head_end, head_took}
use Rattle.line_reader.proofs.TableOrBound.{no_table}
use Rattle.line_reader.proofs.heads.table_head.Goals as goal

pub returns-in_default : goal.returns-in_default
returns-in_default c = head_end need_cert c.args.bytes.now c.in_default.ensures

pub returns-in_default-table : goal.returns-in_default-table
returns-in_default-table c =
    no_table c.args.bytes.now c.in-Some.line.now c.in-Some.rest.now c.in-Some.ensures c.in_default-table.ensures

pub returns : goal.returns
returns c = head_took c.a_line_has_one_spelling.ensures need_cert c.args.bytes.now c.in-Some.line.now c.in-Some.rest.now
    (spec.table_line c.in-Some-table.count) c.in-Some.ensures
    (ap (λ o. or_else o (first_line (prices_shape ∷ split_shape 0 ∷ []) c.in-Some.line.now)) c.in-Some-table.ensures)
    c.if-not-is_table.ensures

pub returns-then-not-is_table : goal.returns-then-not-is_table
returns-then-not-is_table c =
    head_big need_cert c.args.bytes.now c.in-Some.line.now c.in-Some.rest.now (spec.table_line c.in-Some-table.count)
    c.in-Some.ensures
    (ap (λ o. or_else o (first_line (prices_shape ∷ split_shape 0 ∷ []) c.in-Some.line.now)) c.in-Some-table.ensures)
    c.if-not-is_table.ensures
