use Rattle.line_fields.proofs.Digits.{ReadsDigits}
use Rattle.std.proofs.Common.{◌≤◌}
use Rattle.line_fields.specs.Field.{greatest_read}
use Rattle.line_fields.proofs.fields.digits_in.Given as goal

abbrev pub invariant-loop-digit : goal.invariant-loop-digit
invariant-loop-digit l = ReadsDigits l.digits l.digit-index l.number × (l.number ≤ greatest_read)
