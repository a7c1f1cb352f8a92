use Rattle.line_reader.specs.Head.{entry_head_line}
use Rattle.line_fields.specs.Need.{need_entry}
use Rattle.line_reader.proofs.FirstLines.{head_bad, head_big, head_end, head_took}
use Rattle.line_reader.proofs.heads.entry_head.Goals as goal

pub returns-in_default-clause-taken : goal.returns-in_default-clause-taken
returns-in_default-clause-taken c = head_end need_entry c.args.bytes.now c.in_default.ensures

pub returns-in_default-entry_line-clause-taken : goal.returns-in_default-entry_line-clause-taken
returns-in_default-entry_line-clause-taken c =
    head_bad need_entry c.args.bytes.now c.in-Some.line.now c.in-Some.rest.now c.in-Some.ensures
    c.in_default-entry_line.ensures

pub returns-clause-taken : goal.returns-clause-taken
returns-clause-taken c =
    head_took c.a_line_has_one_spelling.ensures need_entry c.args.bytes.now c.in-Some.line.now c.in-Some.rest.now
    (entry_head_line c.in-Some-entry_line.head) c.in-Some.ensures c.in-Some-entry_line.ensures
    c.if-not-is_entry.ensures.exactly

pub returns-then-not-is_entry-clause-taken : goal.returns-then-not-is_entry-clause-taken
returns-then-not-is_entry-clause-taken c =
    head_big need_entry c.args.bytes.now c.in-Some.line.now c.in-Some.rest.now
    (entry_head_line c.in-Some-entry_line.head) c.in-Some.ensures c.in-Some-entry_line.ensures
    c.if-not-is_entry.ensures.exactly
