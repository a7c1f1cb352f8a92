-- How many splits are always enough.
use Rattle.std.specs.Prelude.{◌*◌, ℕ, List, [], ◌∷◌, length, map, max}
use Rattle.colour_graph.specs.EdgeSet.{all_edges, colours_of, edges_into}
use Rattle.colour_graph.specs.Graph.{Graph}

abbrev pub product : List ℕ → ℕ
product [] = 1
product (n ∷ ns) = n * product ns

-- the product, over the colours that have an edge into them, of how many edges go there; a colour with none counts as 1
abbrev pub enough_splits : Graph → ℕ
enough_splits graph =
    product (map (λ colour. max 1 (length (edges_into graph (all_edges graph) colour))) (colours_of graph))
