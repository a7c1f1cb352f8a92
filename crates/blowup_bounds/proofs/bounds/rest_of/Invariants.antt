use Rattle.std.proofs.Common.{◌≡◌, drop, max}
use Rattle.blowup_bounds.specs.Coarse.{greatest_rest}
use Rattle.blowup_bounds.proofs.bounds.rest_of.Given as goal

abbrev pub invariant-loop-place : goal.invariant-loop-place
invariant-loop-place l =
    max l.greatest (greatest_rest l.most (drop l.place-index l.places)) ≡ greatest_rest l.most l.places
