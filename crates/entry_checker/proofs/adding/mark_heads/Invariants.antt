use Rattle.std.proofs.Common.{◌≡◌, length, take}
use Rattle.entry_checker.specs.inside.Marks.{AreMarks}
use Rattle.entry_checker.proofs.adding.mark_heads.Given as goal

abbrev pub invariant-loop-edge : goal.invariant-loop-edge
invariant-loop-edge l = record {
  marks : AreMarks l.graph (take l.edge-index l.edges) l.reached l.taken;
  reached_long : length l.reached ≡ length l.initial.reached;
  taken_long : length l.taken ≡ length l.initial.taken;
}
