-- Colourful lists of edges and their scores, after the colourful subtrees of Böcker and Rasche 2008.
use Rattle.std.specs.Prelude.{◌≡◌, ◌≢◌, ◌<◌, ℕ, ℤ, pos, ◌+ℤ◌, List, [], ◌∷◌, length, map}
use Rattle.std.specs.List.{All, AllPairs, Contains}
use Rattle.colour_graph.specs.Graph.{Graph, edge_at, head_colour}

-- the heads of the edges that a list names
abbrev pub heads_of : Graph → List ℕ → List ℕ
heads_of graph edges = map (λ edge. (edge_at graph edge).head) edges

-- the root, or a head
pub data IsReached (graph : Graph) (edges : List ℕ) (vertex : ℕ) : Type 0 where
  at_root : vertex ≡ 0 → IsReached graph edges vertex
  at_head : Contains (heads_of graph edges) vertex → IsReached graph edges vertex

-- a list of edges in any order: their heads differ in colour, and each tail is the root or a head
pub record IsColourful (graph : Graph) (edges : List ℕ) : Type 0 where
  pub in_range : All (λ edge. edge < length graph.edges) edges
  pub one_of_a_colour : AllPairs (λ first later. head_colour graph first ≢ head_colour graph later) edges
  pub tails : All (λ edge. IsReached graph edges (edge_at graph edge).tail) edges

-- the sum of a list of numbers
abbrev pub total : List ℤ → ℤ
total [] = pos 0
total (n ∷ ns) = n +ℤ total ns

-- the weights of the edges that a list names
abbrev pub weights_of : Graph → List ℕ → List ℤ
weights_of graph edges = map (λ edge. (edge_at graph edge).weight) edges

-- the root score and the weights
abbrev pub score_of : Graph → List ℕ → ℤ
score_of graph edges = graph.root_score +ℤ total (weights_of graph edges)
