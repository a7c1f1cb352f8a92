use Rattle.std.proofs.Common.{◌≡◌, ◌<◌, ◌⊎◌, true, false, length, slice_index_or}
use Rattle.residue_table.specs.inside.Rounds.{Keeps}
use Rattle.residue_table.proofs.Reaching.{AreClosedBut, left_of}
use Rattle.residue_table.proofs.rounds.go_round.Given as goal

abbrev pub invariant-loop-lowered : goal.invariant-loop-lowered
invariant-loop-lowered l = record {
  keeps : Keeps l.mass l.fn.row l.fn.seen l.row l.seen;
  within : l.residue < length l.row;
  closed : AreClosedBut l.mass l.row l.seen l.residue l.lowered;
  begun : (slice_index_or l.seen l.start false ≡ true) ⊎ (l.residue ≡ l.start);
}

abbrev pub decreases-loop-lowered : goal.decreases-loop-lowered
decreases-loop-lowered l = left_of l.row l.seen l.lowered
