use Rattle.certificate_checker.specs.inside.Enough.{RaisesNothingFrom}
use Rattle.certificate_checker.proofs.colours.raises_nothing_from.Given as goal

abbrev pub invariant-loop-place : goal.invariant-loop-place
invariant-loop-place l = RaisesNothingFrom l.numbers l.base l.place l.colour
