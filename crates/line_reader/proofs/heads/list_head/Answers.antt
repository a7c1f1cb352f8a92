use Rattle.std.proofs.Common.{None, ap}
use Rattle.tree_document.specs.Line as spec
use Rattle.line_fields.specs.Need.{need_list, or_else}
use Rattle.line_reader.proofs.FirstLines.{head_bad, head_big, head_end, head_took}
use Rattle.line_reader.proofs.heads.list_head.Goals as goal

pub returns-in_default : goal.returns-in_default
returns-in_default c = head_end need_list c.args.bytes.now c.in_default.ensures

pub returns-in_default-list : goal.returns-in_default-list
returns-in_default-list c =
    head_bad need_list c.args.bytes.now c.in-Some.line.now c.in-Some.rest.now c.in-Some.ensures
    (ap (λ o. or_else o None) c.in_default-list.ensures)

pub returns : goal.returns
returns c = head_took c.a_line_has_one_spelling.ensures need_list c.args.bytes.now c.in-Some.line.now c.in-Some.rest.now
    (spec.list_line c.in-Some-list.mz c.in-Some-list.intensity c.in-Some-list.count) c.in-Some.ensures
    (ap (λ o. or_else o None) c.in-Some-list.ensures) c.if-not-is_list.ensures

pub returns-then-not-is_list : goal.returns-then-not-is_list
returns-then-not-is_list c =
    head_big need_list c.args.bytes.now c.in-Some.line.now c.in-Some.rest.now
    (spec.list_line c.in-Some-list.mz c.in-Some-list.intensity c.in-Some-list.count) c.in-Some.ensures
    (ap (λ o. or_else o None) c.in-Some-list.ensures) c.if-not-is_list.ensures
