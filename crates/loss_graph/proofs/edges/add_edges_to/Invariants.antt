use Rattle.std.proofs.Common.{◌≡◌}
use Rattle.std.specs.List.{All}
use Rattle.loss_graph.specs.inside.Joining.{edges_below, with_edges}
use Rattle.loss_graph.proofs.Joining.{StandsBelow}
use Rattle.loss_graph.proofs.edges.add_edges_to.Given as goal

abbrev pub invariant-loop-tail : goal.invariant-loop-tail
invariant-loop-tail l = record {
  joined : l.builder ≡ with_edges l.initial.builder (edges_below l.scores l.vertices l.base l.head l.tail);
  below : All (StandsBelow l.head l.tail) l.builder.edges;
}
