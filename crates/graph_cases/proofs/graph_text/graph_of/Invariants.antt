use Rattle.std.proofs.Common.{◌≡◌, ◌<◌, length, pos}
use Rattle.colour_graph.specs.Building.{ComesNext}
use Rattle.graph_cases.proofs.graph_text.graph_of.Given as goal

abbrev pub invariant-loop-vertex : goal.invariant-loop-vertex
invariant-loop-vertex l = record {
  same : l.builder.colours ≡ l.colours.items;
  some : 0 < length l.colours.items;
  next : ComesNext l.builder (record { tail = 0; head = length l.colours.items; weight = pos 0 });
}
