use Rattle.element_table.proofs.Counting.{ReadsDigits}
use Rattle.element_table.proofs.reading.read_count.Given as goal

abbrev pub invariant-loop-digit : goal.invariant-loop-digit
invariant-loop-digit l = ReadsDigits l.digits l.digit-index l.count
