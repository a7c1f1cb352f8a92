use Rattle.std.proofs.Common.{◌≡◌, ℕ, ◌<◌, ◌≤◌, length, get_or}
use Rattle.colour_graph.specs.inside.Index.{EndsAt, head_colour_at}
use Rattle.colour_graph.proofs.index.index_of.Given as goal

abbrev pub invariant-loop-colour : goal.invariant-loop-colour
invariant-loop-colour l = record {
  within : l.past ≤ length l.edges;
  before : (edge : ℕ) → edge < l.past → head_colour_at l.colours l.edges edge ≤ l.colour;
  filled : (colour : ℕ) → colour < l.colour → EndsAt l.colours l.edges colour (get_or l.ends.items colour 0);
  long : length l.ends.items ≡ length l.initial.ends.items;
}
