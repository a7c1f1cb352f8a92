use Rattle.line_reader.specs.Head.{body_head_line}
use Rattle.line_fields.specs.Need.{need_body}
use Rattle.line_reader.proofs.FirstLines.{head_bad, head_big, head_end, head_took}
use Rattle.line_reader.proofs.heads.body_head.Goals as goal

pub returns-in_default : goal.returns-in_default
returns-in_default c = head_end need_body c.args.bytes.now c.in_default.ensures

pub returns-in_default-body_line : goal.returns-in_default-body_line
returns-in_default-body_line c =
    head_bad need_body c.args.bytes.now c.in-Some.line.now c.in-Some.rest.now c.in-Some.ensures
    c.in_default-body_line.ensures

pub returns : goal.returns
returns c = head_took c.a_line_has_one_spelling.ensures need_body c.args.bytes.now c.in-Some.line.now c.in-Some.rest.now
    (body_head_line c.in-Some-body_line.head) c.in-Some.ensures c.in-Some-body_line.ensures c.if-not-is_body.ensures

pub returns-then-not-is_body : goal.returns-then-not-is_body
returns-then-not-is_body c =
    head_big need_body c.args.bytes.now c.in-Some.line.now c.in-Some.rest.now (body_head_line c.in-Some-body_line.head)
    c.in-Some.ensures c.in-Some-body_line.ensures c.if-not-is_body.ensures
