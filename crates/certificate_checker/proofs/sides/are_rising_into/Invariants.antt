use Rattle.certificate_checker.proofs.SplitSides.{AreRisingBefore}
use Rattle.certificate_checker.proofs.sides.are_rising_into.Given as goal

abbrev pub invariant-loop-edge : goal.invariant-loop-edge
invariant-loop-edge l = AreRisingBefore l.graph l.allowed l.colour l.first l.part l.edge-index l.least
