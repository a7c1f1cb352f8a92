use Rattle.element_table.proofs.Sums.{mass-more, weighted_sum-take_all}
use Rattle.element_table.specs.Elements.{masses}
use Rattle.element_table.specs.Formula.{mass_of}
use Rattle.std.proofs.Common.{ap, ◌∙◌, arith}
use Rattle.element_table.proofs.formula.Formula.mass.Goals as goal

pub loop-place-preserved : goal.loop-place-preserved
loop-place-preserved c =
    mass-more _ _ _ _ _ c.self.invariant (omega arith) c.from.ensures c.mass_at.ensures.mass c.loop-place.invariant

pub returns-clause-mass : goal.returns-clause-mass
returns-clause-mass c =
    c.loop-place.invariant.0 ∙ weighted_sum-take_all _ masses _ (omega arith) ∙ ap mass_of c.self.view_is
