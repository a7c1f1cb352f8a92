-- The cap of a set of edges: what the best edge into each colour adds up to.
use Rattle.std.specs.Prelude.{ℤ, pos, ◌+ℤ◌, Bool, List, fold, map}
use Rattle.std.specs.Int.{int_max}
use Rattle.colour_graph.specs.Graph.{Graph}
use Rattle.colour_graph.specs.Colourful.{total, weights_of}
use Rattle.colour_graph.specs.EdgeSet.{colours_of, edges_into}

-- the greatest of some numbers, or 0 where that is more
abbrev pub greatest : List ℤ → ℤ
greatest ns = fold int_max (pos 0) ns

-- the root score and, for each colour, the greatest weight of the set's edges into it, where that is more than 0
abbrev pub cap_of : Graph → List Bool → ℤ
cap_of graph allowed =
    graph.root_score
    +ℤ total (map (λ colour. greatest (weights_of graph (edges_into graph allowed colour))) (colours_of graph))
