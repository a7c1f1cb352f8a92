use Rattle.std.proofs.Common.{length}
use Rattle.element_table.proofs.ReadSoFar.{ReadSoFar}
use Rattle.element_table.proofs.reading.read_formula.Given as goal

abbrev pub invariant-loop-rest : goal.invariant-loop-rest
invariant-loop-rest l = ReadSoFar l.fn.text l.rest l.totals l.all_known

abbrev pub decreases-loop-rest : goal.decreases-loop-rest
decreases-loop-rest l = length l.rest
