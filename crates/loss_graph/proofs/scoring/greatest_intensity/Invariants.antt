use Rattle.std.proofs.Common.{◌≡◌, max, map, take}
use Rattle.std.specs.Prelude.{fold}
use Rattle.loss_graph.proofs.scoring.greatest_intensity.Given as goal

abbrev pub invariant-loop-list : goal.invariant-loop-list
invariant-loop-list l = l.greatest ≡ fold max 0 (map (λ list. list.intensity) (take l.list-index l.list-items))
