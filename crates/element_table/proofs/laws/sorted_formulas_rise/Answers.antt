use Rattle.element_table.proofs.Sorting.{sorted_rises}
use Rattle.element_table.proofs.laws.sorted_formulas_rise.Goals as goal

pub returns : goal.returns
returns c = sorted_rises
