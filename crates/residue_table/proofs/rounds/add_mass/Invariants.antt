use Rattle.std.proofs.Common.{◌≡◌, ◌<◌, ℕ, true, false, length, slice_index_or}
use Rattle.residue_table.specs.inside.Rounds.{AreClosed, AreReached}
use Rattle.residue_table.proofs.rounds.add_mass.Given as goal

abbrev pub invariant-loop-flag : goal.invariant-loop-flag
invariant-loop-flag l = record {
  size : length l.seen ≡ length l.fn.seen;
  none : (k : ℕ) → k < l.flag-index → slice_index_or l.seen k false ≡ false;
}

abbrev pub invariant-loop-start : goal.invariant-loop-start
invariant-loop-start l = record {
  reached : AreReached l.mass l.fn.row l.row;
  size : length l.seen ≡ length l.fn.seen;
  closed : AreClosed l.mass l.row l.seen;
  begun : (k : ℕ) → k < l.start → slice_index_or l.seen k false ≡ true;
}
