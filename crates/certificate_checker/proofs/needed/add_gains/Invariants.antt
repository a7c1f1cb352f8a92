use Rattle.certificate_checker.proofs.Gaining.{AreMoved}
use Rattle.certificate_checker.proofs.needed.add_gains.Given as goal

abbrev pub invariant-loop-edge : goal.invariant-loop-edge
invariant-loop-edge l = AreMoved l.graph l.colour l.edge l.needed l.gains l.initial.needed l.initial.gains
