use Rattle.std.proofs.Common.{◌∙◌, sym, ap}
use Rattle.std.specs.Option.{option_map}
use Rattle.line_reader.specs.Head.{bound_head_line}
use Rattle.line_fields.specs.Need.{need_bound}
use Rattle.line_reader.proofs.FirstLines.{head_bad, head_big, head_deep, head_end, shallow_took}
use Rattle.line_reader.proofs.bound_lines.bound_head.Goals as goal

pub returns-in_default-clause-taken : goal.returns-in_default-clause-taken
returns-in_default-clause-taken c = head_end (need_bound c.args.under) c.args.bytes.now c.in_default.ensures

pub returns-in_default-2-clause-taken : goal.returns-in_default-2-clause-taken
returns-in_default-2-clause-taken c =
    head_bad (need_bound c.args.under) c.args.bytes.now c.in-Some.line.now c.in-Some.rest.now c.in-Some.ensures
    (ap (option_map (bound_head_line c.args.under)) (sym c.in_default-2.is) ∙ c.in_ok-head.ensures c.args.under)

pub returns-then-not-is_bound-clause-taken : goal.returns-then-not-is_bound-clause-taken
returns-then-not-is_bound-clause-taken c =
    head_big (need_bound c.args.under) c.args.bytes.now c.in-Some.line.now c.in-Some.rest.now
    (bound_head_line c.args.under c.in-Some-2.head) c.in-Some.ensures
    (ap (option_map (bound_head_line c.args.under)) (sym c.in-Some-2.is) ∙ c.in_ok-head.ensures c.args.under)
    (c.if-not-is_bound.ensures.exactly c.args.under)

pub returns-then-not-is_open-clause-taken : goal.returns-then-not-is_open-clause-taken
returns-then-not-is_open-clause-taken c =
    head_deep (need_bound c.args.under) c.args.bytes.now c.in-Some.line.now c.in-Some.rest.now
    (bound_head_line c.args.under c.in-Some-2.head) c.in-Some.ensures
    (ap (option_map (bound_head_line c.args.under)) (sym c.in-Some-2.is) ∙ c.in_ok-head.ensures c.args.under)
    (c.if-not-is_bound.ensures.exactly c.args.under) c.if-not-is_open.ensures.exactly

pub returns-clause-taken : goal.returns-clause-taken
returns-clause-taken c =
    shallow_took c.a_line_has_one_spelling.ensures (need_bound c.args.under) c.args.bytes.now c.in-Some.line.now
    c.in-Some.rest.now (bound_head_line c.args.under c.in-Some-2.head) c.in-Some.ensures
    (ap (option_map (bound_head_line c.args.under)) (sym c.in-Some-2.is) ∙ c.in_ok-head.ensures c.args.under)
    (c.if-not-is_bound.ensures.exactly c.args.under) c.if-not-is_open.ensures.exactly
