use Rattle.std.proofs.Common.{◌≡◌, ◌-◌, ◌*◌, ◌%◌, length}
use Rattle.certificate_checker.specs.inside.Enough.{RaisesNothing}
use Rattle.certificate_checker.proofs.colours.raises_nothing.Given as goal

abbrev pub invariant-loop-base : goal.invariant-loop-base
invariant-loop-base l = record {
  block : l.base % (2 * l.colour) ≡ l.colour;
  raises : RaisesNothing l.numbers l.base l.colour;
}

abbrev pub decreases-loop-base : goal.decreases-loop-base
decreases-loop-base l = length l.numbers - l.base
