use Rattle.element_table.proofs.Masses.{IsFormula-loss_of, mass_of-loss_of}
use Rattle.element_table.proofs.laws.a_whole_is_its_part_and_its_loss.Goals as goal

pub returns-clause-formula : goal.returns-clause-formula
returns-clause-formula c = IsFormula-loss_of

pub returns-clause-mass : goal.returns-clause-mass
returns-clause-mass c = mass_of-loss_of
