use Rattle.branch_search.proofs.Halves.{HalfBefore}
use Rattle.branch_search.proofs.splitting.half_of.Given as goal

abbrev pub invariant-loop-place : goal.invariant-loop-place
invariant-loop-place l = HalfBefore l.graph l.allowed l.colour l.count l.place l.part.items
