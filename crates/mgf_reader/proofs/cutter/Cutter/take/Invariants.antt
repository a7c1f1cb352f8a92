use Rattle.std.proofs.Common.{◌+◌, ◌≤◌, length}
use Rattle.mgf_reader.specs.Stands.{IsFirstPart}
use Rattle.mgf_reader.proofs.TakesIn.{TakenTo}
use Rattle.mgf_reader.proofs.cutter.Cutter.take.Given as goal

abbrev pub invariant-loop-at : goal.invariant-loop-at
invariant-loop-at l = record {
  size : l.self.lines.judged + length l.self.unfinished + length l.rest ≤ l.fn.self.lines.judged
      + length l.fn.self.unfinished + length l.fn.piece;
  waits : IsFirstPart l.fn.self.lines.waiting l.self.lines.waiting;
  taken : TakenTo l.fn.self l.fn.piece l.rest l.self;
}

abbrev pub decreases-loop-at : goal.decreases-loop-at
decreases-loop-at l = length l.rest
