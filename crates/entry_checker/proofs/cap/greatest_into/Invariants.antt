use Rattle.colour_graph.specs.Graph.{IsScore}
use Rattle.certificate_checker.proofs.CapOf.{IsGreatest}
use Rattle.entry_checker.proofs.cap.greatest_into.Given as goal

abbrev pub invariant-loop-edge : goal.invariant-loop-edge
invariant-loop-edge l = record {
  greatest : IsGreatest l.graph l.allowed l.colour l.edge l.most;
  near : IsScore l.most;
}
