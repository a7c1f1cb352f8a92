use Rattle.std.proofs.Common.{pos, arith, w32, FitsSigned, rules}
use Rattle.std.proofs.lemmas.Int.{to_z-of_z}
use Rattle.valence_filter.proofs.Filling.{fill-more}
use Rattle.element_table.specs.Rule.{bond_coefficients}
use Rattle.valence_filter.proofs.rule.bond_numbers.Goals as goal

pub loop-place-preserved : goal.loop-place-preserved
loop-place-preserved c =
    let fits : FitsSigned w32 c.bond_number_at.result = search rules in
    fill-more bond_coefficients c.loop-place.numbers (pos 0) _ 16 c.loop-place.place (omega arith) (omega arith)
    c.loop-place.invariant (rw to_z-of_z c.bond_number_at.ensures.number)
