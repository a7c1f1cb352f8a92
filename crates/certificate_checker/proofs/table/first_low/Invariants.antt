use Rattle.std.proofs.Common.{◌≡◌, ◌^◌, length, map}
use Rattle.colour_graph.specs.Graph.{colour_count}
use Rattle.certificate_checker.specs.inside.Low.{AreHighBefore}
use Rattle.certificate_checker.proofs.table.first_low.Given as goal

abbrev pub invariant-loop-vertex : goal.invariant-loop-vertex
invariant-loop-vertex l = record {
  own : length l.own.items ≡ 2 ^ colour_count l.graph;
  gains : length l.gains.items ≡ 2 ^ colour_count l.graph;
  before : AreHighBefore l.graph (map (λ row. row.items) l.rows) l.vertex;
}
