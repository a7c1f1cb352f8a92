use Rattle.std.proofs.Common.{◌≡◌, length}
use Rattle.certificate_checker.specs.inside.Gained.{AreGained, AreGainedBefore}
use Rattle.certificate_checker.proofs.needed.gather_best.Given as goal

abbrev pub invariant-loop-edge : goal.invariant-loop-edge
invariant-loop-edge l = record {
  long : length l.gains ≡ length l.initial.gains;
  so_far : AreGainedBefore l.graph l.allowed l.cert l.colour l.edge l.gains;
  near : AreGained l.gains;
}
