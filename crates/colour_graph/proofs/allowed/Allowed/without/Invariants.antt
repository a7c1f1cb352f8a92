use Rattle.std.proofs.Common.{◌≡◌, ℕ, not, ◌&&◌, length, take}
use Rattle.colour_graph.specs.EdgeSet.{is_allowed, is_named}
use Rattle.colour_graph.proofs.allowed.Allowed.without.Given as goal

abbrev pub invariant-loop-edge : goal.invariant-loop-edge
invariant-loop-edge l = record {
  long : length l.set ≡ length l.self;
  each : (edge : ℕ)
      → is_allowed l.set edge ≡ (is_allowed l.self edge && not (is_named (take l.edge-index l.part) edge));
}
