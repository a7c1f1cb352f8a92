use Rattle.std.proofs.Common.{take}
use Rattle.std.specs.List.{All}
use Rattle.element_table.specs.Formula.{IsFormula}
use Rattle.element_table.specs.FormulaList.{FormulaListValue}
use Rattle.solve_command.proofs.section.are_formulas.Given as goal

abbrev pub invariant-loop-list : goal.invariant-loop-list
invariant-loop-list l = All (λ (list : FormulaListValue). All IsFormula list.formulas) (take l.list-index l.lists)
