use Rattle.std.proofs.Common.{◌≡◌, ℕ, not, ◌&&◌, length}
use Rattle.colour_graph.specs.EdgeSet.{is_allowed}
use Rattle.colour_graph.proofs.Sets.{in_row}
use Rattle.colour_graph.proofs.allowed.Allowed.take_out_row.Given as goal

abbrev pub invariant-loop-edge : goal.invariant-loop-edge
invariant-loop-edge l = record {
  long : length l.self ≡ length l.initial.self;
  each : (edge : ℕ) → is_allowed l.self edge ≡ (is_allowed l.initial.self edge && not (in_row l.first l.edge edge));
}
