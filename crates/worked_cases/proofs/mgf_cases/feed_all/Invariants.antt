use Rattle.std.proofs.Common.{◌≡◌, false}
use Rattle.worked_cases.proofs.mgf_cases.feed_all.Given as goal

abbrev pub invariant-loop-piece : goal.invariant-loop-piece
invariant-loop-piece l = l.reader.ended ≡ false
