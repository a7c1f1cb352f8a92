use Rattle.std.proofs.Common.{◌<◌, ℕ, List, get_or}
use Rattle.element_table.specs.Formula.{IsFormula}
use Rattle.element_table.proofs.formula_list.Formulas.of.Given as goal

abbrev pub invariant-loop-formula : goal.invariant-loop-formula
invariant-loop-formula l =
    (place : ℕ) (none : List ℕ) → place < l.formula-index → IsFormula (get_or l.formula-items place none)
