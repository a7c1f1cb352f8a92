use Rattle.std.proofs.Common.{◌≤ℤ◌, pos}
use Rattle.colour_graph.specs.Graph.{IsScore}
use Rattle.price_bound.proofs.Edges.{IsInto, weight_at}
use Rattle.price_bound.proofs.Greatest.{IsGreatest}
use Rattle.price_bound.proofs.starting.greatest_into.Given as goal

abbrev pub invariant-loop-edge : goal.invariant-loop-edge
invariant-loop-edge l = record {
  greatest : IsGreatest (IsInto l.graph l.allowed l.colour) (weight_at l.graph) l.edge l.most;
  near : IsScore l.most;
  not_below : pos 0 ≤ℤ l.most;
}
