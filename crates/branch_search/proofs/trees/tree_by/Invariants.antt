use Rattle.std.proofs.Common.{◌≤◌, ◌-◌, length}
use Rattle.colour_graph.specs.Graph.{colour_count}
use Rattle.branch_search.specs.inside.Choosing.{AreMarks, IsTreeTo}
use Rattle.branch_search.proofs.Worth.{IsWorth}
use Rattle.branch_search.proofs.trees.tree_by.Given as goal

abbrev pub invariant-loop-colour : goal.invariant-loop-colour
invariant-loop-colour l = record {
  counted : l.colour ≤ colour_count l.graph;
  tree : IsTreeTo l.graph l.colour l.edges.items;
  marks : AreMarks l.graph l.edges.items l.marks.items;
  worth : IsWorth l.graph l.allowed l.cert l.colour l.edges.items;
  few : length l.edges.items ≤ l.colour;
}

abbrev pub decreases-loop-colour : goal.decreases-loop-colour
decreases-loop-colour l = colour_count l.graph - l.colour
