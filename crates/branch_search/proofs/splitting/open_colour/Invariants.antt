use Rattle.std.proofs.Common.{◌≤◌, ◌-◌, ℕ, length}
use Rattle.colour_graph.specs.EdgeSet.{edges_into}
use Rattle.colour_graph.specs.Graph.{colour_count}
use Rattle.branch_search.proofs.splitting.open_colour.Given as goal

abbrev pub invariant-loop-colour : goal.invariant-loop-colour
invariant-loop-colour l = record {
  counted : l.colour ≤ colour_count l.graph;
  single : (colour : ℕ) → 1 ≤ colour → colour ≤ l.colour → length (edges_into l.graph l.allowed colour) ≤ 1;
}

abbrev pub decreases-loop-colour : goal.decreases-loop-colour
decreases-loop-colour l = colour_count l.graph - l.colour
