use Rattle.std.proofs.Common.{◌≡◌, length}
use Rattle.colour_graph.proofs.HeadsSoFar.{SeenHeads}
use Rattle.colour_graph.proofs.graph.ColourGraph.marked_heads.Given as goal

abbrev pub invariant-loop-edge : goal.invariant-loop-edge
invariant-loop-edge l = record {
  seen : SeenHeads l.self l.edges l.edge-index l.heads l.colours;
  heads_long : length l.heads ≡ 64;
  colours_long : length l.colours ≡ 64;
}
