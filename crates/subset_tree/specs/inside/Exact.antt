-- A table whose numbers are exactly what they are to be at least.
use Rattle.std.specs.Prelude.{◌≡◌, ◌<◌, ◌+◌, ◌↔◌, ℕ, ℤ, pos, ◌≤ℤ◌, Bool, true, List, [], ◌∷◌, length}
use Rattle.colour_graph.specs.Graph.{Graph, colour_of, colour_count}
use Rattle.tree_certificate.specs.TableHolds.{FitsGraph, IsHighEnough, number_of}

pub record IsExact (graph : Graph) (rows : List (List ℤ)) : Type 0 where
  pub fits : FitsGraph graph rows
  pub empty : (vertex : ℕ) → vertex < length graph.colours → number_of graph rows vertex [] ≡ pos 0
  pub exact : (vertex : ℕ) (set : List Bool) → vertex < length graph.colours
      → colour_of graph vertex + length set < colour_count graph
      → (candidate : ℤ) → (number_of graph rows vertex (true ∷ set) ≤ℤ candidate)
      ↔ IsHighEnough graph rows vertex set candidate
