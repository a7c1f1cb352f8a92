use Rattle.element_table.proofs.Totals.{Adds}
use Rattle.element_table.proofs.reading.add.Given as goal

abbrev pub invariant-loop-place : goal.invariant-loop-place
invariant-loop-place l = Adds l.symbol l.count l.initial.totals l.totals l.place l.known
