use Rattle.std.proofs.Common.{◌∙◌, None, sym, ap}
use Rattle.std.specs.Option.{option_map}
use Rattle.tree_document.specs.Line as spec
use Rattle.line_fields.specs.Need.{need_potentials, or_else}
use Rattle.line_reader.proofs.FirstLines.{head_bad, head_big, head_end, head_took}
use Rattle.line_reader.proofs.bound_lines.potentials_line.Goals as goal

pub returns-in_default-clause-taken : goal.returns-in_default-clause-taken
returns-in_default-clause-taken c = head_end need_potentials c.args.bytes.now c.in_default.ensures

pub returns-in_default-2-clause-taken : goal.returns-in_default-2-clause-taken
returns-in_default-2-clause-taken c =
    head_bad need_potentials c.args.bytes.now c.in-Some.line.now c.in-Some.rest.now c.in-Some.ensures
    (ap (λ o. or_else o None) (ap (option_map (λ potentials. spec.potentials_line potentials.items))
    (sym c.in_default-2.is) ∙ c.in_ok-potentials.ensures))

pub returns-then-not-are_potentials-clause-taken : goal.returns-then-not-are_potentials-clause-taken
returns-then-not-are_potentials-clause-taken c =
    head_big need_potentials c.args.bytes.now c.in-Some.line.now c.in-Some.rest.now
    (spec.potentials_line c.in-Some-2.potentials.items) c.in-Some.ensures
    (ap (λ o. or_else o None) (ap (option_map (λ potentials. spec.potentials_line potentials.items))
    (sym c.in-Some-2.is) ∙ c.in_ok-potentials.ensures))
    (c.if-not-are_potentials.ensures.exactly ∙ ap (λ items. spec.in_range (spec.potentials_line items))
    c.deref.ensures.value)

pub returns-clause-taken : goal.returns-clause-taken
returns-clause-taken c =
    head_took c.a_line_has_one_spelling.ensures need_potentials c.args.bytes.now c.in-Some.line.now c.in-Some.rest.now
    (spec.potentials_line c.in-Some-2.potentials.items) c.in-Some.ensures
    (ap (λ o. or_else o None) (ap (option_map (λ potentials. spec.potentials_line potentials.items))
    (sym c.in-Some-2.is) ∙ c.in_ok-potentials.ensures))
    (c.if-not-are_potentials.ensures.exactly ∙ ap (λ items. spec.in_range (spec.potentials_line items))
    c.deref.ensures.value)
