use Rattle.certificate_checker.specs.inside.Enough.{AddsNothingFrom}
use Rattle.certificate_checker.proofs.colours.adds_nothing_from.Given as goal

abbrev pub invariant-loop-place : goal.invariant-loop-place
invariant-loop-place l = AddsNothingFrom l.own l.gains l.base l.place l.colour
