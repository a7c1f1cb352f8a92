-- Of IsColourful: a colourful list has fewer edges than the graph has vertices.
use Rattle.std.proofs.Common.{◌≡◌, ◌≢◌, ◌<◌, ◌≤◌, ◌∙◌, ℕ, true, eqb, List, length, get_or, map, sym, arith}
use Rattle.std.proofs.lemmas.List.{get_or-map, length-map}
use Rattle.std.proofs.lemmas.Bool.{eqb-true}
use Rattle.std.proofs.lemmas.Map.Made.{IsDistinct-from_AllPairs}
use Rattle.std.proofs.lemmas.Map.Steps.{length-le_from_distinct_below}
use Rattle.std.proofs.lemmas.Map.Views.{Contains-from_any}
use Rattle.std.specs.Cmp.{unsigned_Decides}
use Rattle.std.specs.List.{AllPairs, list_any}
use Rattle.colour_graph.specs.Colourful.{IsColourful}
use Rattle.colour_graph.specs.Graph.{Graph, IsGraph, edge_at, head_colour}
use Rattle.colour_graph.proofs.Order.{colour-le_vertex}

pub colourful-few : (graph : Graph) (edges : List ℕ) → IsGraph graph → IsColourful graph edges
    → length edges ≤ length graph.colours
colourful-few graph edges is colourful =
    rw (length-map edges (head_colour graph)) at
    (length-le_from_distinct_below (map (head_colour graph) edges) (length graph.colours)
    (IsDistinct-from_AllPairs unsigned_Decides (map (head_colour graph) edges) apart) below)
  where
    apart : AllPairs (λ x y. x ≢ y) (map (head_colour graph) edges)
    apart i j d before within =
        let last : j < length edges = omega (arith, within, length-map edges (head_colour graph)) in
        rw (get_or-map (head_colour graph) edges i 0 d (omega arith), get_or-map (head_colour graph) edges j 0 d last)
        (colourful.one_of_a_colour i j 0 before last)

    below : (colour : ℕ) → list_any (eqb colour) (map (head_colour graph) edges) ≡ true → colour < length graph.colours
    below colour any = found (Contains-from_any (λ x y same. eqb-true x y same) colour
        (map (head_colour graph) edges) any)
      where
        found : (k : ℕ) × (k < length (map (head_colour graph) edges))
            × (get_or (map (head_colour graph) edges) k colour ≡ colour)
            → colour < length graph.colours
        found (k, within, same) =
            let in_list : k < length edges = omega (arith, within, length-map edges (head_colour graph)) in
            let edge = is.edges (get_or edges k 0) _ (colourful.in_range k 0 in_list) in
            let low = colour-le_vertex graph is.colours (edge_at graph (get_or edges k 0)).head edge.head in
            let same_colour = sym same ∙ get_or-map (head_colour graph) edges k 0 colour in_list in
            omega (arith, edge.head, low, same_colour)
