use Rattle.std.proofs.Common.{◌∙◌, None, sym, ap}
use Rattle.std.specs.Option.{option_map}
use Rattle.tree_document.specs.Line as spec
use Rattle.line_fields.specs.Need.{need_table_row, or_else}
use Rattle.line_reader.proofs.FirstLines.{head_bad, head_big, head_end, head_took}
use Rattle.line_reader.proofs.heads.table_row_line.Goals as goal

pub returns-in_default-clause-taken : goal.returns-in_default-clause-taken
returns-in_default-clause-taken c = head_end need_table_row c.args.bytes.now c.in_default.ensures

pub returns-in_default-2-clause-taken : goal.returns-in_default-2-clause-taken
returns-in_default-2-clause-taken c =
    head_bad need_table_row c.args.bytes.now c.in-Some.line.now c.in-Some.rest.now c.in-Some.ensures
    (ap (λ o. or_else o None) (ap (option_map (λ row. spec.table_row_line row.items)) (sym c.in_default-2.is)
    ∙ c.in_ok-row.ensures))

pub returns-then-not-is_table_row-clause-taken : goal.returns-then-not-is_table_row-clause-taken
returns-then-not-is_table_row-clause-taken c =
    head_big need_table_row c.args.bytes.now c.in-Some.line.now c.in-Some.rest.now
    (spec.table_row_line c.in-Some-2.row.items) c.in-Some.ensures
    (ap (λ o. or_else o None) (ap (option_map (λ row. spec.table_row_line row.items)) (sym c.in-Some-2.is)
    ∙ c.in_ok-row.ensures))
    (c.if-not-is_table_row.ensures.exactly ∙ ap (λ items. spec.in_range (spec.table_row_line items))
    c.deref.ensures.value)

pub returns-clause-taken : goal.returns-clause-taken
returns-clause-taken c =
    head_took c.a_line_has_one_spelling.ensures need_table_row c.args.bytes.now c.in-Some.line.now c.in-Some.rest.now
    (spec.table_row_line c.in-Some-2.row.items) c.in-Some.ensures
    (ap (λ o. or_else o None) (ap (option_map (λ row. spec.table_row_line row.items)) (sym c.in-Some-2.is)
    ∙ c.in_ok-row.ensures))
    (c.if-not-is_table_row.ensures.exactly ∙ ap (λ items. spec.in_range (spec.table_row_line items))
    c.deref.ensures.value)
