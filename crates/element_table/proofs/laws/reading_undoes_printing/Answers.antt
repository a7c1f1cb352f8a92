use Rattle.element_table.proofs.Printed.{formula_of-formula_text}
use Rattle.element_table.proofs.laws.reading_undoes_printing.Goals as goal

pub returns : goal.returns
returns c = formula_of-formula_text
