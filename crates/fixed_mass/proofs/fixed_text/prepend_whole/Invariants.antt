use Rattle.std.proofs.Common.{◌≡◌, ◌<◌, ◌^◌, ◌++◌}
use Rattle.std.specs.Prelude.{decimal}
use Rattle.fixed_mass.proofs.fixed_text.prepend_whole.Given as goal

abbrev pub invariant-loop-rest : goal.invariant-loop-rest
invariant-loop-rest l = (decimal l.rest ++ l.text ≡ decimal l.number ++ l.initial.text) × (l.rest < 10 ^ 16)

abbrev pub decreases-loop-rest : goal.decreases-loop-rest
decreases-loop-rest l = l.rest
