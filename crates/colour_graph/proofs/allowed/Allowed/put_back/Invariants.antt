use Rattle.std.proofs.Common.{◌≡◌, ℕ, ◌&&◌, ◌||◌, length, take}
use Rattle.colour_graph.specs.EdgeSet.{is_allowed, is_named}
use Rattle.colour_graph.proofs.allowed.Allowed.put_back.Given as goal

abbrev pub invariant-loop-edge : goal.invariant-loop-edge
invariant-loop-edge l = record {
  long : length l.self ≡ length l.initial.self;
  each : (edge : ℕ)
      → is_allowed l.self edge ≡
      (is_allowed l.initial.self edge || (is_allowed l.other edge && is_named (take l.edge-index l.part) edge));
}
