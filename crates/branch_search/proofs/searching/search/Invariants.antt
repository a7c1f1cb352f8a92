use Rattle.std.proofs.Common.{◌≡◌, ◌≤◌, ◌-◌, ◌≤ℤ◌}
use Rattle.colour_graph.specs.Cap.{cap_of}
use Rattle.colour_graph.specs.EdgeSet.{all_edges}
use Rattle.branch_search.specs.inside.Choosing.{IsTree}
use Rattle.branch_search.specs.inside.Growing.{Stands, grown_of, splits_in, total_in}
use Rattle.branch_search.proofs.searching.search.Given as goal

abbrev pub invariant-loop-made : goal.invariant-loop-made
invariant-loop-made g l = record {
  made : splits_in (grown_of l.node) ≡ l.made;
  within : l.made ≤ l.budget;
  stands : Stands l.graph (all_edges l.graph) l.best.score (total_in (grown_of l.node)) (grown_of l.node);
  capped : total_in (grown_of l.node) ≤ℤ cap_of l.graph (all_edges l.graph);
  best : IsTree l.graph l.best.edges.items l.best.score;
}

abbrev pub decreases-loop-made : goal.decreases-loop-made
decreases-loop-made g l = l.budget - l.made
