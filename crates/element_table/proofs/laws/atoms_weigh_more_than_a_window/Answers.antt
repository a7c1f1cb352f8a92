use Rattle.element_table.proofs.Masses.{mass_of-light, mass_of-proper, mass_of-some}
use Rattle.element_table.proofs.laws.atoms_weigh_more_than_a_window.Goals as goal

pub returns-clause-some : goal.returns-clause-some
returns-clause-some c = mass_of-some

pub returns-clause-proper : goal.returns-clause-proper
returns-clause-proper c = mass_of-proper

pub returns-clause-light : goal.returns-clause-light
returns-clause-light c = mass_of-light
