use Rattle.std.proofs.Common.{◌≡◌, drop, length, map}
use Rattle.colour_graph.specs.Graph.{colour_count}
use Rattle.subset_tree.proofs.Standing.{Standing}
use Rattle.subset_tree.proofs.rebuilding.read_tree.Given as goal

abbrev pub invariant-loop-decided : goal.invariant-loop-decided
invariant-loop-decided l = record {
  count : length l.owners.items ≡ colour_count l.graph;
  stands : Standing l.graph (map (λ row. row.items) l.rows) l.edges.items (drop l.decided l.owners.items);
}
