use Rattle.std.proofs.Common.{◌≤◌}
use Rattle.colour_graph.specs.Graph.{colour_count}
use Rattle.price_bound.specs.inside.Exact.{AreAmounts, AreClear, AreExactAbove, cert_with}
use Rattle.price_bound.proofs.exact.set_potentials.Given as goal

abbrev pub decreases-loop-colour : goal.decreases-loop-colour
decreases-loop-colour l = l.colour

abbrev pub invariant-loop-colour : goal.invariant-loop-colour
invariant-loop-colour l = record {
  counted : l.colour ≤ colour_count l.graph;
  exact : AreExactAbove l.graph l.allowed (cert_with l.prices l.potentials) l.colour;
  low : AreAmounts l.potentials;
  clear : AreClear l.gains;
}
