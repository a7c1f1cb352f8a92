use Rattle.certificate_checker.specs.inside.Enough.{AreNoGains}
use Rattle.certificate_checker.proofs.gains.clear_gains.Given as goal

abbrev pub invariant-loop-gain : goal.invariant-loop-gain
invariant-loop-gain l = AreNoGains l.gains l.gain-index
