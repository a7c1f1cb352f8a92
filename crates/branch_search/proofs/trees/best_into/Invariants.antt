use Rattle.branch_search.specs.inside.Choosing.{IsBestBefore}
use Rattle.branch_search.proofs.trees.best_into.Given as goal

abbrev pub invariant-loop-place : goal.invariant-loop-place
invariant-loop-place l = IsBestBefore l.graph l.allowed l.cert l.marks l.colour l.place l.best
