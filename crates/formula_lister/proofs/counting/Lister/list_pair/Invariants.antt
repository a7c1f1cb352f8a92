use Rattle.std.proofs.Common.{◌≤◌, ◌+◌, ◌-◌, [], ◌∷◌, length}
use Rattle.element_table.specs.FormulaList.{greatest_list}
use Rattle.formula_lister.specs.inside.Counting.{Gains}
use Rattle.formula_lister.specs.inside.Levels.{IsLevel}
use Rattle.formula_lister.proofs.Completing.{CompletesBelow}
use Rattle.formula_lister.proofs.counting.Lister.list_pair.Given as goal

abbrev pub invariant-loop-rest : goal.invariant-loop-rest
invariant-loop-rest g l = record {
  gained : Gains (CompletesBelow l.self.bounds l.self.sieve.now.rules.items l.next (l.last ∷ []) l.chosen.formula
      l.rest.count) l.fn.list.items l.list.items;
  few : length l.list.items ≤ greatest_list;
  level : IsLevel l.self.bounds.most l.chosen.mass l.next l.last l.rest;
}

abbrev pub decreases-loop-rest : goal.decreases-loop-rest
decreases-loop-rest g l = l.next.limit + 1 - l.rest.count
