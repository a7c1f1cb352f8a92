use Rattle.std.specs.List.{AllWithin}
use Rattle.colour_graph.specs.Graph.{edge_at}
use Rattle.colour_graph.specs.inside.Heads.{IsMarkedTail}
use Rattle.colour_graph.proofs.graph.ColourGraph.tails_are_marked.Given as goal

abbrev pub invariant-loop-edge : goal.invariant-loop-edge
invariant-loop-edge l = AllWithin (λ edge. IsMarkedTail l.marked (edge_at l.self edge).tail) l.edges 0 l.edge-index
