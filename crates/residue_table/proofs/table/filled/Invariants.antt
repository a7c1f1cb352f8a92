use Rattle.std.proofs.Common.{◌≡◌, length}
use Rattle.residue_table.specs.inside.Entries.{AreEntries, IsRow}
use Rattle.residue_table.specs.inside.Rounds.{AreLow}
use Rattle.residue_table.proofs.table.filled.Given as goal

abbrev pub invariant-loop-places : goal.invariant-loop-places
invariant-loop-places l = record {
  row : IsRow l.masses l.places l.row;
  low : AreLow l.row;
  seen : length l.seen ≡ length l.row;
  entries : AreEntries l.masses l.places l.entries.items;
}
