use Rattle.std.proofs.Common.{◌≡◌, ◌+ℤ◌, map}
use Rattle.std.specs.List.{range_with_len}
use Rattle.colour_graph.specs.Colourful.{total}
use Rattle.colour_graph.proofs.Scores.{IsNear}
use Rattle.certificate_checker.proofs.CapOf.{best_into}
use Rattle.entry_checker.proofs.cap.cap_in.Given as goal

abbrev pub invariant-loop-before : goal.invariant-loop-before
invariant-loop-before l = record {
  so_far : l.cap ≡ l.graph.root_score +ℤ total (map (best_into l.graph l.allowed) (range_with_len 1 l.before));
  near : IsNear l.cap l.before;
}
