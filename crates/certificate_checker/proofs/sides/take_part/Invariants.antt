use Rattle.std.proofs.Common.{◌≡◌, ℕ, not, ◌&&◌, length, take}
use Rattle.colour_graph.specs.EdgeSet.{is_allowed, is_named}
use Rattle.certificate_checker.proofs.sides.take_part.Given as goal

abbrev pub invariant-loop-edge : goal.invariant-loop-edge
invariant-loop-edge l = record {
  long : length l.allowed ≡ length l.initial.allowed;
  each : (edge : ℕ) → is_allowed l.allowed edge
      ≡ (is_allowed l.initial.allowed edge && not (is_named (take l.edge-index l.part) edge));
}
