use Rattle.std.proofs.Common.{ap, arith, length}
use Rattle.colour_graph.proofs.Order.{edges-few}
use Rattle.colour_graph.proofs.graph.ColourGraph.of.Goals as goal

pub index_of-ends-requires-clause-few : goal.index_of-ends-requires-clause-few
index_of-ends-requires-clause-few c =
    omega (arith, edges-few _ c.requires.graph, ap (λ edges. length edges) c.deref-2.ensures.value)
