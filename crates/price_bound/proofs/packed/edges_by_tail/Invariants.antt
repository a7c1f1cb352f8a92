use Rattle.std.proofs.Common.{◌≤◌, ◌<◌, ◌^◌, length}
use Rattle.std.specs.List.{All}
use Rattle.price_bound.specs.inside.Packed.{IsScaled}
use Rattle.price_bound.proofs.packed.edges_by_tail.Given as goal

abbrev pub decreases-loop-edge : goal.decreases-loop-edge
decreases-loop-edge l = l.edge

abbrev pub invariant-loop-edge : goal.invariant-loop-edge
invariant-loop-edge l = record {
  within : l.edge ≤ length l.graph.edges;
  edges : All (IsScaled (length l.graph.colours)) l.edges.items;
  few : length l.edges.items < 2 ^ 32;
}
