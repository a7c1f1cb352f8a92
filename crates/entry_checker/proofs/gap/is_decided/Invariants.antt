use Rattle.std.proofs.Common.{ℕ, ◌≤◌, length}
use Rattle.colour_graph.specs.EdgeSet.{edges_into}
use Rattle.entry_checker.proofs.gap.is_decided.Given as goal

abbrev pub invariant-loop-before : goal.invariant-loop-before
invariant-loop-before l =
    (colour : ℕ) → 1 ≤ colour → colour ≤ l.before → length (edges_into l.graph l.allowed colour) ≤ 1
