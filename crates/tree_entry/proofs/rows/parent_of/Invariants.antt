use Rattle.std.proofs.Common.{◌≢◌, ◌≤◌, ◌<◌, ◌-◌, ℕ, length}
use Rattle.tree_entry.specs.Rows.{head_of}
use Rattle.tree_entry.proofs.rows.parent_of.Given as goal

abbrev pub invariant-loop-row : goal.invariant-loop-row
invariant-loop-row l = record {
  within : l.row ≤ length l.rows;
  others : (earlier : ℕ) → earlier < l.row → head_of l.built.graph l.rows earlier ≢ l.vertex;
}

abbrev pub decreases-loop-row : goal.decreases-loop-row
decreases-loop-row l = length l.rows - l.row
