use Rattle.std.proofs.Common.{◌≡◌, length}
use Rattle.certificate_checker.specs.inside.Gained.{AreClear, AreNeededBy, AreNeeds}
use Rattle.certificate_checker.proofs.needed.gather_needed.Given as goal

abbrev pub invariant-loop-before : goal.invariant-loop-before
invariant-loop-before l = record {
  needs_long : length l.needed ≡ length l.initial.needed;
  gains_long : length l.gains ≡ length l.initial.gains;
  needed : AreNeededBy l.graph l.allowed l.cert l.before l.needed;
  needs : AreNeeds l.before l.needed;
  clear : AreClear l.gains;
}
