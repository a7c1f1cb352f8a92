-- The vertices that a list of edges reaches and the colours that it takes, marked.
use Rattle.std.specs.Prelude.{◌≡◌, ◌<◌, ◌↔◌, ℕ, Bool, true, false, List, length, map, slice_index_or}
use Rattle.std.specs.List.{Contains}
use Rattle.colour_graph.specs.Colourful.{IsReached}
use Rattle.colour_graph.specs.Graph.{Graph, head_colour}

abbrev pub is_marked : List Bool → ℕ → Bool
is_marked marks place = slice_index_or marks place false

-- a head of the edges has the colour
abbrev pub IsTaken : Graph → List ℕ → ℕ → Type 0
IsTaken graph edges colour = Contains (map (head_colour graph) edges) colour

-- the marks of the vertices that are reached, and of the colours that are taken
pub record AreMarks (graph : Graph) (edges : List ℕ) (reached taken : List Bool) : Type 0 where
  pub vertices : (vertex : ℕ) → vertex < length reached
      → (is_marked reached vertex ≡ true) ↔ IsReached graph edges vertex
  pub colours : (colour : ℕ) → colour < length taken → (is_marked taken colour ≡ true) ↔ IsTaken graph edges colour
