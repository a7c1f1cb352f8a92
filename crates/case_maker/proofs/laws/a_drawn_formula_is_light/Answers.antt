use Rattle.case_maker.proofs.Length.{mass_of-drawn, mass_of-part}
use Rattle.case_maker.proofs.laws.a_drawn_formula_is_light.Goals as goal

pub returns-clause-formula : goal.returns-clause-formula
returns-clause-formula c state = mass_of-drawn state

pub returns-clause-part : goal.returns-clause-part
returns-clause-part c first state = mass_of-part first state
