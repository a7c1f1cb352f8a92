use Rattle.std.proofs.Common.{◌+ℤ◌, get_or, pos, arith, ap, ◌∙◌}
use Rattle.std.proofs.lemmas.Int.{ints}
use Rattle.element_table.specs.Rule.{bond_coefficients, rdbe2_of}
use Rattle.element_table.proofs.LinearSums.{linear_sum-take, value-more}
use Rattle.element_table.proofs.formula.Formula.rdbe2.Goals as goal

pub loop-place-preserved : goal.loop-place-preserved
loop-place-preserved c =
    let more =
    value-more (pos 2) c.loop-place.rdbe2 c.bonds_of-rdbe2.result bond_coefficients c.self.inside.counts
    c.loop-place.place (get_or c.self.inside.counts c.loop-place.place 0) (omega arith)
    (omega (arith, c.self.invariant.places)) (omega (arith, ints)) c.bonds_of-rdbe2.ensures.product
    (λ _. get_or c.self.inside.counts c.loop-place.place 0) in
    (omega (arith, ints), (omega (arith, ints), omega (arith, ints)))

pub returns-clause-bonds : goal.returns-clause-bonds
returns-clause-bonds c =
    let all =
    linear_sum-take bond_coefficients c.self.inside.counts c.loop-place.place
    (λ place past. c.self.invariant.elements place (omega arith)) in
    c.loop-place.invariant.0 ∙ ap (λ sum. pos 2 +ℤ sum) all ∙ ap rdbe2_of c.self.view_is
