use Rattle.std.proofs.Common.{◌≤◌, ◌<◌, ◌+◌, ◌-◌, ◌*◌, ℕ, length}
use Rattle.std.specs.List.{All}
use Rattle.element_table.specs.Formula.{IsFormula}
use Rattle.loss_graph.specs.Lists.{list_at}
use Rattle.loss_graph.specs.inside.Gathered.{AreGathered}
use Rattle.loss_graph.proofs.OneMoreList.{found_below}
use Rattle.loss_graph.proofs.gathering.gather.Given as goal

abbrev pub invariant-loop-number : goal.invariant-loop-number
invariant-loop-number l = record {
  gathered : AreGathered l.root l.lists (found_below l.root l.lists (l.number - 1)) l.gathered.count
      l.gathered.vertices.items l.gathered.peaks.items;
  formulas : (number : ℕ) → 0 < number → number < l.number → All IsFormula (list_at l.lists number).formulas;
  few_peaks : length l.gathered.peaks.items < l.number;
  few_vertices : l.gathered.count ≤ 1 + 20000 * (l.number - 1);
}
