-- A graph has fewer colours than vertices.
use Rattle.std.proofs.Common.{◌<◌, ◌-◌, length, arith}
use Rattle.colour_graph.specs.Graph.{Graph, HasColours, colour_count}
use Rattle.colour_graph.proofs.Order.{colour-le_vertex}

pub fewer_colours : (graph : Graph) → HasColours graph.colours → colour_count graph < length graph.colours
fewer_colours graph colours =
    let low = colour-le_vertex graph colours (length graph.colours - 1) (omega (arith, colours.some)) in
    omega (arith, low, colours.some)
