use Rattle.formula_lister.proofs.Counted.{AreCounted}
use Rattle.formula_lister.proofs.element.counted_elements.Given as goal

abbrev pub invariant-loop-place : goal.invariant-loop-place
invariant-loop-place l = AreCounted l.limits l.place l.after l.elements.items
