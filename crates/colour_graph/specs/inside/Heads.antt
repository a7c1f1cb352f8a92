-- What two passes over a list of edges look at.
use Rattle.std.specs.Prelude.{◌≡◌, ◌≢◌, ◌<◌, ◌↔◌, ℕ, true, List, length}
use Rattle.std.specs.List.{All, AllPairs, Contains}
use Rattle.colour_graph.specs.Colourful.{heads_of}
use Rattle.colour_graph.specs.Graph.{Graph, head_colour}
use Rattle.colour_graph.specs.inside.Bits.{is_marked}

-- the graph has the edges, and their heads differ in colour
pub record AreApart (graph : Graph) (edges : List ℕ) : Type 0 where
  pub in_range : All (λ edge. edge < length graph.edges) edges
  pub one_of_a_colour : AllPairs (λ first later. head_colour graph first ≢ head_colour graph later) edges

-- the bits that are set are those of the heads
abbrev pub AreHeads : Graph → List ℕ → List ℕ → Type 0
AreHeads graph edges words = (vertex : ℕ) → (is_marked words vertex ≡ true) ↔ Contains (heads_of graph edges) vertex

-- the root, or a vertex whose bit is set
pub data IsMarkedTail (words : List ℕ) (vertex : ℕ) : Type 0 where
  at_root : vertex ≡ 0 → IsMarkedTail words vertex
  at_mark : is_marked words vertex ≡ true → IsMarkedTail words vertex
