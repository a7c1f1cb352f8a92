use Rattle.std.proofs.Common.{◌≡◌, ◌≤◌, pos}
use Rattle.colour_graph.specs.Building.{ComesNext}
use Rattle.graph_cases.proofs.graph_text.add_edges.Given as goal

abbrev pub invariant-loop-word : goal.invariant-loop-word
invariant-loop-word l = record {
  same : l.builder.colours ≡ l.colours;
  below : l.least ≤ l.head;
  next : ComesNext l.builder (record { tail = l.least; head = l.head; weight = pos 0 });
}
