use Rattle.std.proofs.Common.{◌<◌, arith, length}
use Rattle.colour_graph.proofs.Order.{colour-le_vertex}
use Rattle.entry_checker.proofs.AreMarks.{adds_is}
use Rattle.entry_checker.proofs.adding.can_be_added.Goals as goal

pub adds-requires-clause-colour : goal.adds-requires-clause-colour
adds-requires-clause-colour c =
    omega (
      arith,
      colour-le_vertex c.args.graph.now c.is_graph.ensures.colours c.edge_at-edge.result.head
          c.edge_at-edge.ensures.is_edge.head,
      c.colour_of.ensures.colour,
      c.edge_at-edge.ensures.is_edge.head,
      c.requires.colours,
    )

pub returns : goal.returns
returns c edges are =
    let low = colour-le_vertex c.args.graph.now c.is_graph.ensures.colours c.edge_at-edge.result.head
    c.edge_at-edge.ensures.is_edge.head in
    let tail_in : c.edge_at-edge.result.tail < length c.args.reached.now =
    omega (arith, c.edge_at-edge.ensures.is_edge.tail, c.requires.vertices) in
    let colour_in : c.colour_of.result < length c.args.taken.now =
    omega (arith, low, c.colour_of.ensures.colour, c.edge_at-edge.ensures.is_edge.head, c.requires.colours) in
    adds_is c.args.graph.now edges c.args.reached.now c.args.taken.now c.args.edge c.colour_of.result
    c.edge_at-edge.result c.adds.result are c.requires.edge c.edge_at-edge.ensures.edge c.colour_of.ensures.colour
    tail_in colour_in c.adds.ensures
