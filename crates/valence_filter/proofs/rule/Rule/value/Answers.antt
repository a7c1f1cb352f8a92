use Rattle.std.proofs.Common.{get_or, pos, arith, w32, FitsSigned}
use Rattle.std.proofs.lemmas.Int.{ints, to_z-of_z}
use Rattle.element_table.proofs.LinearSums.{value-more}
use Rattle.valence_filter.proofs.rule.Rule.value.Goals as goal

pub loop-place-preserved : goal.loop-place-preserved
loop-place-preserved c =
    let near = c.self.invariant.coefficients c.loop-place.place in
    let fits : FitsSigned w32 (get_or c.self.inside.coefficients c.loop-place.place (pos 0)) = omega (arith, ints) in
    let more =
    value-more c.self.inside.constant c.loop-place.value c.contribution-value.result c.self.inside.coefficients
    c.args.formula.now c.loop-place.place c.count.result (omega arith) (omega arith) (omega (arith, ints))
    (simp to_z-of_z at c.contribution-value.ensures.product) c.count.ensures.count in
    (omega (arith, ints), (omega (arith, ints), omega (arith, ints)))
