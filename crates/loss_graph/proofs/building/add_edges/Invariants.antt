use Rattle.std.proofs.Common.{◌≡◌}
use Rattle.std.specs.List.{flat_map, range_with_len}
use Rattle.loss_graph.specs.LossGraph.{edges_to}
use Rattle.loss_graph.specs.inside.Joining.{with_edges}
use Rattle.loss_graph.proofs.Joining.{HeadsBelow}
use Rattle.loss_graph.proofs.building.add_edges.Given as goal

abbrev pub invariant-loop-head : goal.invariant-loop-head
invariant-loop-head l = record {
  joined : l.builder ≡ with_edges l.fn.builder
      (flat_map (edges_to l.choice l.scores l.lists l.vertices) (range_with_len 0 l.head));
  below : HeadsBelow l.head l.builder.edges;
}
