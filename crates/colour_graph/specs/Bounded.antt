-- Bounds on the scores of all colourful lists of edges, and best ones.
use Rattle.std.specs.Prelude.{ℕ, ℤ, ◌≤ℤ◌, Bool, IsTrue, List}
use Rattle.std.specs.List.{All}
use Rattle.colour_graph.specs.Graph.{Graph}
use Rattle.colour_graph.specs.Colourful.{IsColourful, score_of}
use Rattle.colour_graph.specs.EdgeSet.{all_edges, is_allowed}

-- no colourful list of edges of the set scores more
abbrev pub IsBounded : Graph → List Bool → ℤ → Type 0
IsBounded graph allowed upper =
    (edges : List ℕ) → IsColourful graph edges → All (λ edge. IsTrue (is_allowed allowed edge)) edges
    → score_of graph edges ≤ℤ upper

-- a colourful list of edges that no other outscores
pub record IsBest (graph : Graph) (edges : List ℕ) : Type 0 where
  pub colourful : IsColourful graph edges
  pub greatest : IsBounded graph (all_edges graph) (score_of graph edges)
