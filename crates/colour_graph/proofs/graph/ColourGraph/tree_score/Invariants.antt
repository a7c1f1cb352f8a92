use Rattle.std.proofs.Common.{◌≡◌, take}
use Rattle.colour_graph.specs.Colourful.{score_of}
use Rattle.colour_graph.proofs.Scores.{IsNear}
use Rattle.colour_graph.proofs.graph.ColourGraph.tree_score.Given as goal

abbrev pub invariant-loop-edge : goal.invariant-loop-edge
invariant-loop-edge l = record {
  so_far : l.score ≡ score_of l.self (take l.edge-index l.edges);
  near : IsNear l.score l.edge-index;
}
