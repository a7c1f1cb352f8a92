use Rattle.std.proofs.Common.{◌∷◌, [], None, sym, ap, subst}
use Rattle.tree_document.specs.Line as spec
use Rattle.line_forms.specs.Row.{row_fields_line}
use Rattle.line_fields.specs.Need.{follow, need_row, or_else}
use Rattle.line_reader.specs.Verdict.{Took, next_needs}
use Rattle.line_reader.proofs.FirstLines.{head_bad, head_big, head_end, head_took}
use Rattle.line_reader.proofs.heads.row_line.Goals as goal

pub returns-in_default : goal.returns-in_default
returns-in_default c = head_end need_row c.args.bytes.now c.in_default.ensures

pub returns-in_default-row : goal.returns-in_default-row
returns-in_default-row c =
    head_bad need_row c.args.bytes.now c.in-Some.line.now c.in-Some.rest.now c.in-Some.ensures
    (ap (λ o. or_else o None) c.in_default-row.ensures)

pub returns-then-not-is_row : goal.returns-then-not-is_row
returns-then-not-is_row c =
    head_big need_row c.args.bytes.now c.in-Some.line.now c.in-Some.rest.now (row_fields_line c.in-Some-row.fields)
    c.in-Some.ensures (ap (λ o. or_else o None) c.in-Some-row.ensures) c.if-not-is_row.ensures.exactly

pub returns : goal.returns
returns c = subst (λ (l : spec.Line). Took (need_row ∷ []) (next_needs (follow need_row l)) (l ∷ []) c.args.bytes.now
    c.in-Some.rest.now) (sym c.tree_row.ensures)
    (head_took c.a_line_has_one_spelling.ensures need_row c.args.bytes.now c.in-Some.line.now c.in-Some.rest.now
    (row_fields_line c.in-Some-row.fields) c.in-Some.ensures (ap (λ o. or_else o None) c.in-Some-row.ensures)
    c.if-not-is_row.ensures.exactly)
