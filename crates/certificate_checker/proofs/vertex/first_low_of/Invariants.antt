use Rattle.std.proofs.Common.{◌≡◌, ◌^◌, length, map}
use Rattle.colour_graph.specs.Graph.{colour_count}
use Rattle.certificate_checker.specs.inside.Low.{IsFoundOfSizes}
use Rattle.certificate_checker.proofs.vertex.first_low_of.Given as goal

abbrev pub invariant-loop-size : goal.invariant-loop-size
invariant-loop-size l = record {
  own : length l.own ≡ 2 ^ colour_count l.graph;
  gains : length l.gains ≡ 2 ^ colour_count l.graph;
  found : IsFoundOfSizes l.graph (map (λ row. row.items) l.rows) l.vertex 0 l.size l.first;
}
