use Rattle.std.proofs.Common.{◌≡◌, ◌≤◌, ◌^◌, length, map}
use Rattle.colour_graph.specs.Graph.{colour_count}
use Rattle.subset_tree.specs.inside.Filling.{AreFilledFrom}
use Rattle.subset_tree.proofs.table.fill_table.Given as goal

abbrev pub invariant-loop : goal.invariant-loop
invariant-loop l = length l.rows.items ≡ l.counter

abbrev pub invariant-loop-vertex : goal.invariant-loop-vertex
invariant-loop-vertex l = record {
  within : l.vertex ≤ length l.graph.colours;
  room : length l.gains.items ≡ 2 ^ colour_count l.graph;
  filled : AreFilledFrom l.graph (map (λ row. row.items) l.rows.items) l.vertex;
}

abbrev pub decreases-loop-vertex : goal.decreases-loop-vertex
decreases-loop-vertex l = l.vertex
