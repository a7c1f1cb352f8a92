use Rattle.std.proofs.Common.{ℕ, ◌-◌, ◌<◌, ◌≤◌, length}
use Rattle.colour_graph.specs.inside.Index.{head_colour_at}
use Rattle.colour_graph.proofs.index.past_colour.Given as goal

abbrev pub invariant-loop-past : goal.invariant-loop-past
invariant-loop-past l = record {
  within : l.past ≤ length l.edges;
  before : (edge : ℕ) → edge < l.past → head_colour_at l.colours l.edges edge ≤ l.colour;
}

abbrev pub decreases-loop-past : goal.decreases-loop-past
decreases-loop-past l = length l.edges - l.past
