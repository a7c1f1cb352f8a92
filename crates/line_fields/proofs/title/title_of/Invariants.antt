use Rattle.std.proofs.Common.{◌≡◌, ◌++◌, length}
use Rattle.line_fields.specs.Field.{title_of}
use Rattle.line_fields.proofs.title.title_of.Given as goal

abbrev pub invariant-loop-byte : goal.invariant-loop-byte
invariant-loop-byte l = l.title.items ++ title_of l.rest ≡ title_of l.fn.spelled

abbrev pub decreases-loop-byte : goal.decreases-loop-byte
decreases-loop-byte l = length l.rest
