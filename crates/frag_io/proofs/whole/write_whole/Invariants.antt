use Rattle.std.proofs.Common.{◌≡◌, ◌≤◌, ◌-◌, length, take}
use Rattle.frag_io.specs.Slot.{Same}
use Rattle.frag_io.specs.Desk.{appended, Keeps}
use Rattle.frag_io.proofs.whole.write_whole.Given as goal

abbrev pub invariant-loop-done : goal.invariant-loop-done
invariant-loop-done g l = record {
  within : l.done ≤ length l.bytes;
  part : (g.D.Desk.state l.desk).written l.slot
      ≡ appended ((g.D.Desk.state l.fn.desk).written l.slot) (take l.done l.bytes);
  begun : Same (g.D.Desk.state l.fn.desk).begun (g.D.Desk.state l.desk).begun;
  finished : Same (g.D.Desk.state l.fn.desk).finished (g.D.Desk.state l.desk).finished;
  names : Same (g.D.Desk.state l.fn.desk).names (g.D.Desk.state l.desk).names;
  keeps : Keeps l.slot (g.D.Desk.state l.fn.desk) (g.D.Desk.state l.desk);
}

abbrev pub decreases-loop-done : goal.decreases-loop-done
decreases-loop-done g l = length l.bytes - l.done
