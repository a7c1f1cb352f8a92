use Rattle.std.proofs.Common.{◌≡◌, ◌-◌, ◌*◌, ◌%◌, length}
use Rattle.certificate_checker.specs.inside.Enough.{AddsNothing}
use Rattle.certificate_checker.proofs.colours.adds_nothing.Given as goal

abbrev pub invariant-loop-base : goal.invariant-loop-base
invariant-loop-base l = record {
  block : l.base % (2 * l.colour) ≡ l.colour;
  adds : AddsNothing l.own l.gains l.base l.colour;
}

abbrev pub decreases-loop-base : goal.decreases-loop-base
decreases-loop-base l = length l.own - l.base
