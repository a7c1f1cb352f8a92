use Rattle.std.proofs.Common.{◌≡◌, ◌++◌, length}
use Rattle.std.specs.Option.{option_map}
use Rattle.line_fields.specs.Field.{number_in}
use Rattle.line_fields.proofs.TokenLists.{each_at}
use Rattle.line_fields.proofs.numbers.naturals_at.Given as goal

abbrev pub invariant-loop-rest : goal.invariant-loop-rest
invariant-loop-rest l =
    each_at number_in l.fn.text ≡ option_map (λ later. l.numbers.items ++ later) (each_at number_in l.rest)

abbrev pub decreases-loop-rest : goal.decreases-loop-rest
decreases-loop-rest l = length l.rest
