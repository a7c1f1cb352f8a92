use Rattle.std.proofs.Common.{◌<◌, ℕ}
use Rattle.tree_entry.specs.Rows.{IsRow}
use Rattle.entry_checker.specs.inside.Firsts.{AreFirsts}
use Rattle.entry_checker.proofs.rows.first_wrong_row.Given as goal

abbrev pub invariant-loop-place : goal.invariant-loop-place
invariant-loop-place l = record {
  firsts : AreFirsts l.built.graph l.rows l.place l.firsts;
  right : (earlier : ℕ) → earlier < l.place → IsRow l.built l.rows earlier;
}
