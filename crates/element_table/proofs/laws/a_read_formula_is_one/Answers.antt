use Rattle.element_table.proofs.ReadFormulas.{IsFormula-formula_of}
use Rattle.element_table.proofs.laws.a_read_formula_is_one.Goals as goal

pub returns : goal.returns
returns c = IsFormula-formula_of
