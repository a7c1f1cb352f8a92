use Rattle.certificate_checker.proofs.SplitSides.{IsRowTaken}
use Rattle.certificate_checker.proofs.sides.take_edges_into.Given as goal

abbrev pub invariant-loop-edge : goal.invariant-loop-edge
invariant-loop-edge l = IsRowTaken l.graph l.initial.allowed l.allowed l.colour l.first l.edge l.initial.taken.items
    l.taken.items
