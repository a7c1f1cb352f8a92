use Rattle.std.proofs.Common.{◌≡◌, ◌++◌, length}
use Rattle.std.specs.Option.{option_map}
use Rattle.line_fields.specs.Field.{numbers_at}
use Rattle.line_fields.proofs.numbers.numbers_at.Given as goal

abbrev pub invariant-loop-rest : goal.invariant-loop-rest
invariant-loop-rest l = numbers_at l.fn.text ≡ option_map (λ later. l.numbers.items ++ later) (numbers_at l.rest)

abbrev pub decreases-loop-rest : goal.decreases-loop-rest
decreases-loop-rest l = length l.rest
