use Rattle.std.proofs.Common.{None, refl, ap}
use Rattle.tree_document.specs.Line as spec
use Rattle.line_fields.specs.Need.{need_formula, or_else}
use Rattle.line_reader.proofs.FirstLines.{head_bad, head_end, head_took}
use Rattle.line_reader.proofs.heads.formula_line.Goals as goal

pub returns-in_default : goal.returns-in_default
returns-in_default c = head_end need_formula c.args.bytes.now c.in_default.ensures

pub returns-in_default-formula : goal.returns-in_default-formula
returns-in_default-formula c =
    head_bad need_formula c.args.bytes.now c.in-Some.line.now c.in-Some.rest.now c.in-Some.ensures
    (ap (λ o. or_else o None) c.in_default-formula.ensures)

pub returns : goal.returns
returns c = head_took c.a_line_has_one_spelling.ensures need_formula c.args.bytes.now c.in-Some.line.now
    c.in-Some.rest.now (spec.formula_line c.in-Some-formula.formula) c.in-Some.ensures
    (ap (λ o. or_else o None) c.in-Some-formula.ensures) refl
