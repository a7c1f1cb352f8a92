use Rattle.std.proofs.Common.{◌≡◌, ◌≤◌, ◌-◌, ◌++◌, ℕ, List, length, Some, IfSome}
use Rattle.frag_io.specs.Slot.{Same}
use Rattle.frag_io.specs.Desk.{Keeps}
use Rattle.frag_io.specs.Whole.{greatest_piece}
use Rattle.frag_io.proofs.whole.read_whole.Given as goal

abbrev pub invariant-loop-buffer : goal.invariant-loop-buffer
invariant-loop-buffer g l = record {
  short : length l.text.items ≤ l.limit;
  room : length l.buffer.items ≡ greatest_piece;
  left : IfSome ((g.D.Desk.state l.fn.desk).left l.slot)
      (λ text. (rest : List ℕ) × ((g.D.Desk.state l.desk).left l.slot ≡ Some rest) × (text ≡ l.text.items ++ rest));
  begun : Same (g.D.Desk.state l.fn.desk).begun (g.D.Desk.state l.desk).begun;
  finished : Same (g.D.Desk.state l.fn.desk).finished (g.D.Desk.state l.desk).finished;
  names : Same (g.D.Desk.state l.fn.desk).names (g.D.Desk.state l.desk).names;
  keeps : Keeps l.slot (g.D.Desk.state l.fn.desk) (g.D.Desk.state l.desk);
}

abbrev pub decreases-loop-buffer : goal.decreases-loop-buffer
decreases-loop-buffer g l = l.limit - length l.text.items
