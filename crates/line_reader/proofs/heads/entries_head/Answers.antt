use Rattle.std.proofs.Common.{None, ap}
use Rattle.tree_document.specs.Line as spec
use Rattle.line_fields.specs.Need.{need_entries, or_else}
use Rattle.line_reader.proofs.FirstLines.{head_bad, head_big, head_end, head_took}
use Rattle.line_reader.proofs.heads.entries_head.Goals as goal

pub returns-in_default : goal.returns-in_default
returns-in_default c = head_end need_entries c.args.bytes.now c.in_default.ensures

pub returns-in_default-entries : goal.returns-in_default-entries
returns-in_default-entries c =
    head_bad need_entries c.args.bytes.now c.in-Some.line.now c.in-Some.rest.now c.in-Some.ensures
    (ap (λ o. or_else o None) c.in_default-entries.ensures)

pub returns : goal.returns
returns c = head_took c.a_line_has_one_spelling.ensures need_entries c.args.bytes.now c.in-Some.line.now
    c.in-Some.rest.now (spec.entries_line c.in-Some-entries.count) c.in-Some.ensures
    (ap (λ o. or_else o None) c.in-Some-entries.ensures) c.if-not-is_entries.ensures

pub returns-then-not-is_entries : goal.returns-then-not-is_entries
returns-then-not-is_entries c =
    head_big need_entries c.args.bytes.now c.in-Some.line.now c.in-Some.rest.now
    (spec.entries_line c.in-Some-entries.count) c.in-Some.ensures (ap (λ o. or_else o None) c.in-Some-entries.ensures)
    c.if-not-is_entries.ensures
