use Rattle.colour_graph.specs.EdgeSet.{IsSetOf}
use Rattle.graph_cases.proofs.side_text.side_of.Given as goal

abbrev pub invariant-loop-word : goal.invariant-loop-word
invariant-loop-word l = IsSetOf l.graph l.set
