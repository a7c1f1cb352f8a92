use Rattle.element_table.proofs.Within.{All-more}
use Rattle.element_table.proofs.formula_list.Formulas.of.Goals as goal

pub loop-formula-preserved : goal.loop-formula-preserved
loop-formula-preserved c =
    All-more _ _ _ c.loop-formula-test.true c.formula-item.is c.loop-formula.invariant c.is_formula.ensures
