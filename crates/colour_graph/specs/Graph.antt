-- A graph whose vertices have colours, as a plain value, and what every graph of this crate is.
use Rattle.std.specs.Prelude.{◌≡◌, ◌≤◌, ◌<◌, ◌+◌, ◌-◌, ℕ, ℤ, pos, negsuc, ◌≤ℤ◌, List, length, slice_index}
use Rattle.std.specs.Prelude.{slice_index_or}
use Rattle.std.specs.List.{All, AllPairs}
use Rattle.colour_graph.specs.declared.edge.Edge.{Edge}

-- The root is vertex 0. An edge is named by its place in the list.
pub record Graph : Type 0 where
  pub root_score : ℤ
  -- by vertex
  pub colours : List ℕ
  pub edges : List Edge

abbrev pub colour_of : Graph → ℕ → ℕ
colour_of graph vertex = slice_index graph.colours vertex

-- the number of colours beside the root's, which is the last vertex's colour
abbrev pub colour_count : Graph → ℕ
colour_count graph = colour_of graph (length graph.colours - 1)

abbrev pub edge_at : Graph → ℕ → Edge
edge_at graph edge = slice_index_or graph.edges edge (record { tail = 0; head = 0; weight = pos 0 })

abbrev pub head_colour : Graph → ℕ → ℕ
head_colour graph edge = colour_of graph (edge_at graph edge).head

-- A graph has at most so many vertices.
abbrev pub greatest_vertices : ℕ
greatest_vertices = 4096

-- how many vertices a graph may have of which a tree is sought
abbrev pub greatest_graph : ℕ
greatest_graph = 512

-- a root score or a weight: at most 100,000 away from 0
pub record IsScore (score : ℤ) : Type 0 where
  pub not_below : negsuc 99999 ≤ℤ score
  pub not_above : score ≤ℤ pos 100000

-- The vertices: the root alone has colour 0, and the others stand in order of their colours, which have no gap.
pub record HasColours (colours : List ℕ) : Type 0 where
  pub some : 0 < length colours
  pub few : length colours ≤ greatest_vertices
  pub root : slice_index colours 0 ≡ 0
  pub others : (vertex : ℕ) → 0 < vertex → vertex < length colours → 0 < slice_index colours vertex
  pub in_order : AllPairs (λ first later. first ≤ later) colours
  pub no_gap : (vertex : ℕ) → vertex + 1 < length colours
      → slice_index colours (vertex + 1) ≤ slice_index colours vertex + 1

-- an edge between two vertices of a graph, to a greater colour
pub record IsEdge (graph : Graph) (edge : Edge) : Type 0 where
  pub tail : edge.tail < length graph.colours
  pub head : edge.head < length graph.colours
  pub rising : colour_of graph edge.tail < colour_of graph edge.head
  pub weight : IsScore edge.weight

-- the order of edges: by head, then by tail, the smaller first
pub record StandsBefore (first later : Edge) : Type 0 where
  pub heads : first.head ≤ later.head
  pub tails : first.head ≡ later.head → first.tail < later.tail

-- what every graph is; each pair of a tail and a head stands at most once in it
pub record IsGraph (graph : Graph) : Type 0 where
  pub root_score : IsScore graph.root_score
  pub colours : HasColours graph.colours
  pub edges : All (IsEdge graph) graph.edges
  pub in_order : AllPairs StandsBefore graph.edges
