use Rattle.price_bound.specs.inside.Exact.{AreGainAmounts}
use Rattle.price_bound.proofs.Gaining.{AreGainsBefore}
use Rattle.price_bound.proofs.exact.gather_gains.Given as goal

abbrev pub invariant-loop-edge : goal.invariant-loop-edge
invariant-loop-edge l = record {
  gained : AreGainsBefore l.graph l.allowed l.colour l.price l.potentials l.edge l.gains;
  near : AreGainAmounts l.gains;
}
