use Rattle.std.proofs.Common.{◌≡◌, length}
use Rattle.worked_cases.proofs.mgf_cases.hand_out.Given as goal

abbrev pub invariant-loop-spectrum : goal.invariant-loop-spectrum
invariant-loop-spectrum l = l.reader.ended ≡ l.fn.reader.ended

abbrev pub decreases-loop-spectrum : goal.decreases-loop-spectrum
decreases-loop-spectrum l = length l.reader.waiting
