use Rattle.std.proofs.Common.{◌≤◌, length}
use Rattle.element_table.specs.FormulaList.{greatest_list}
use Rattle.formula_lister.specs.inside.Counting.{Gains}
use Rattle.formula_lister.proofs.Completing.{CompletesBelow}
use Rattle.formula_lister.proofs.counting.Lister.+list_from.Given as goal

abbrev pub decreases-list_from : goal.decreases-list_from
decreases-list_from g l = length l.elements.now

abbrev pub invariant-loop-count : goal.invariant-loop-count
invariant-loop-count g l = record {
  gained : Gains (CompletesBelow l.self.bounds l.self.sieve.now.rules.items l.first l.others l.chosen.formula l.count)
      l.fn.list.items l.list.items;
  few : length l.list.items ≤ greatest_list;
}
