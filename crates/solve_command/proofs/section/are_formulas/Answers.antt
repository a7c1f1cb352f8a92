use Rattle.std.proofs.Common.{subst, ◌∙◌}
use Rattle.std.proofs.lemmas.List.{take_all}
use Rattle.std.proofs.lemmas.List.Elements.{All-more}
use Rattle.std.specs.List.{All}
use Rattle.element_table.specs.Formula.{IsFormula}
use Rattle.element_table.specs.FormulaList.{FormulaListValue}
use Rattle.solve_command.proofs.section.are_formulas.Goals as goal

pub loop-list-preserved : goal.loop-list-preserved
loop-list-preserved c =
    All-more (λ (list : FormulaListValue). All IsFormula list.formulas) c.args.lists.now c.loop-list.list-index
    c.list-item.result
    c.loop-list-test.true c.loop-list.invariant
    (subst (λ (list : FormulaListValue). All IsFormula list.formulas) (c.list.view_is ∙ c.list-item.is)
    c.are_formulas.ensures)

pub returns : goal.returns
returns c =
    subst (All (λ (list : FormulaListValue). All IsFormula list.formulas))
    (take_all c.loop-list.list-index c.args.lists.now c.loop-list-test.false) c.loop-list.invariant
