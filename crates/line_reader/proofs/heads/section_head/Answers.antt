use Rattle.std.proofs.Common.{◌∙◌, sym, ap}
use Rattle.std.specs.Option.{option_map}
use Rattle.line_reader.specs.Head.{section_head_line}
use Rattle.line_fields.specs.Need.{need_sections}
use Rattle.line_reader.proofs.FirstLines.{head_bad, head_big, head_end, head_took}
use Rattle.line_reader.proofs.heads.section_head.Goals as goal

pub returns-in_default-clause-taken : goal.returns-in_default-clause-taken
returns-in_default-clause-taken c = head_end need_sections c.args.bytes.now c.in_default.ensures

pub returns-in_default-2-clause-taken : goal.returns-in_default-2-clause-taken
returns-in_default-2-clause-taken c =
    head_bad need_sections c.args.bytes.now c.in-Some.line.now c.in-Some.rest.now c.in-Some.ensures
    (ap (option_map section_head_line) (sym c.in_default-2.is) ∙ c.in_ok-head.ensures)

pub returns-then-not-is_section-clause-taken : goal.returns-then-not-is_section-clause-taken
returns-then-not-is_section-clause-taken c =
    head_big need_sections c.args.bytes.now c.in-Some.line.now c.in-Some.rest.now (section_head_line c.in-Some-2.head)
    c.in-Some.ensures
    (ap (option_map section_head_line) (sym c.in-Some-2.is) ∙ c.in_ok-head.ensures) c.if-not-is_section.ensures.exactly

pub returns-clause-taken : goal.returns-clause-taken
returns-clause-taken c =
    head_took c.a_line_has_one_spelling.ensures need_sections c.args.bytes.now c.in-Some.line.now c.in-Some.rest.now
    (section_head_line c.in-Some-2.head) c.in-Some.ensures
    (ap (option_map section_head_line) (sym c.in-Some-2.is) ∙ c.in_ok-head.ensures) c.if-not-is_section.ensures.exactly
