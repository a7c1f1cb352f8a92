use Rattle.std.proofs.Common.{arith}
use Rattle.colour_graph.proofs.Order.{edges-few}
use Rattle.colour_graph.proofs.graph.ColourGraph.edge_count.Goals as goal

pub overflow_cast-result : goal.overflow_cast-result
overflow_cast-result c =
    omega (
      arith,
      edges-few (record {
        root_score = c.self.inside.root_score;
        colours = c.self.inside.colours.items;
        edges = c.self.inside.edges.items;
      }) c.self.invariant.0,
    )
