use Rattle.element_table.proofs.Bonds.{fragment_says, neutral_says}
use Rattle.element_table.proofs.laws.the_rules_speak_of_bonds.Goals as goal

pub returns-clause-fragment : goal.returns-clause-fragment
returns-clause-fragment c = fragment_says

pub returns-clause-neutral : goal.returns-clause-neutral
returns-clause-neutral c = neutral_says
