-- How edges are added head by head, and what vertices have to be for it.
use Rattle.std.specs.Prelude.{◌≡◌, ◌≤◌, ◌<◌, ◌+◌, ◌++◌, ℕ, ℤ, ◌+ℤ◌, true, List, [], length, map}
use Rattle.std.specs.List.{filter, range_with_len}
use Rattle.colour_graph.specs.Graph.{Graph, greatest_graph}
use Rattle.colour_graph.specs.declared.edge.Edge.{Edge}
use Rattle.element_table.specs.Formula.{is_proper_part, loss_of}
use Rattle.score_tables.specs.Scores.{loss_score_of}
use Rattle.score_tables.specs.Tables.{ScoresValue}
use Rattle.loss_graph.specs.Vertices.{vertex_at}
use Rattle.loss_graph.specs.declared.vertex.Vertex.{Vertex}

-- The vertices stand in order of their colours, 0 for the root alone and without a gap, and every edge between them
-- goes to a later vertex of a greater colour.
pub record CanJoin (vertices : List Vertex) : Type 0 where
  pub some : 0 < length vertices
  pub few : length vertices ≤ greatest_graph
  pub root : (vertex_at vertices 0).colour ≡ 0
  pub others : (place : ℕ) → 0 < place → place < length vertices → 0 < (vertex_at vertices place).colour
  pub in_order : (one later : ℕ) → one < later → later < length vertices
      → (vertex_at vertices one).colour ≤ (vertex_at vertices later).colour
  pub no_gap : (place : ℕ) → place + 1 < length vertices
      → (vertex_at vertices (place + 1)).colour ≤ (vertex_at vertices place).colour + 1
  pub heads : (tail head : ℕ) → tail < length vertices → head < length vertices
      → is_proper_part (vertex_at vertices head).formula (vertex_at vertices tail).formula ≡ true → tail < head
  pub rising : (tail head : ℕ) → tail < length vertices → head < length vertices
      → is_proper_part (vertex_at vertices head).formula (vertex_at vertices tail).formula ≡ true
      → (vertex_at vertices tail).colour < (vertex_at vertices head).colour

-- the edge from one vertex to another, where the head alone scores so much
abbrev pub edge_between : ScoresValue → List Vertex → ℤ → ℕ → ℕ → Edge
edge_between scores vertices base head tail = record {
  tail = tail;
  head = head;
  weight = loss_score_of scores (loss_of (vertex_at vertices tail).formula (vertex_at vertices head).formula) +ℤ base;
}

-- the edges into a vertex from those below a place
abbrev pub edges_below : ScoresValue → List Vertex → ℤ → ℕ → ℕ → List Edge
edges_below scores vertices base head past =
    map (edge_between scores vertices base head)
    (filter (λ tail. is_proper_part (vertex_at vertices head).formula (vertex_at vertices tail).formula)
    (range_with_len 0 past))

abbrev pub colours_at : List Vertex → List ℕ
colours_at vertices = map (λ vertex. vertex.colour) vertices

abbrev pub without_edges : ℤ → List Vertex → Graph
without_edges root_score vertices = record { root_score = root_score; colours = colours_at vertices; edges = [] }

abbrev pub with_edges : Graph → List Edge → Graph
with_edges graph edges = record { root_score = graph.root_score; colours = graph.colours; edges = graph.edges ++ edges }
