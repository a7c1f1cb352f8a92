use Rattle.std.proofs.Common.{◌≡◌, ◌≤◌}
use Rattle.colour_graph.proofs.Counting.{count_below}
use Rattle.colour_graph.proofs.allowed.Allowed.into_colour.Given as goal

abbrev pub invariant-loop-edge : goal.invariant-loop-edge
invariant-loop-edge l = record {
  counted : l.count ≡ count_below l.graph l.self l.colour l.edge;
  few : l.count ≤ l.edge;
}
