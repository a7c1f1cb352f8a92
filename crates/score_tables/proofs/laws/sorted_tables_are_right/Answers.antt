use Rattle.score_tables.proofs.LossTables.{in_formula_order-right}
use Rattle.score_tables.proofs.laws.sorted_tables_are_right.Goals as goal

pub returns : goal.returns
returns c = in_formula_order-right
