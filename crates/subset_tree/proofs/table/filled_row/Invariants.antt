use Rattle.std.proofs.Common.{◌≡◌, ◌^◌, length, map}
use Rattle.colour_graph.specs.Graph.{colour_count}
use Rattle.subset_tree.specs.inside.Filling.{IsFilledTo}
use Rattle.subset_tree.proofs.table.filled_row.Given as goal

abbrev pub invariant-loop-size : goal.invariant-loop-size
invariant-loop-size l = record {
  long : length l.row.items ≡ 2 ^ l.greater;
  room : length l.gains ≡ 2 ^ colour_count l.graph;
  filled : IsFilledTo l.graph (map (λ row. row.items) l.rows) l.vertex l.size l.row.items;
}
