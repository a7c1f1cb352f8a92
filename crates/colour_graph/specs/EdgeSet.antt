-- Sets of the edges of a graph: a truth value for each edge, by its place.
use Rattle.std.specs.Prelude.{◌≡◌, ◌≤◌, ◌<◌, ◌↔◌, ◌==◌, ℕ, Bool, true, false, not, ◌&&◌, ◌||◌, List, length}
use Rattle.std.specs.Prelude.{map, nat_eq, replicate, slice_index_or}
use Rattle.std.specs.List.{filter, list_any, range_with_len}
use Rattle.colour_graph.specs.Graph.{Graph, colour_count, head_colour}

-- whether an edge is in a set
abbrev pub is_allowed : List Bool → ℕ → Bool
is_allowed allowed edge = slice_index_or allowed edge false

abbrev pub all_edges : Graph → List Bool
all_edges graph = replicate (length graph.edges) true

-- a set of edges of a graph has a truth value for each of them
abbrev pub IsSetOf : Graph → List Bool → Type 0
IsSetOf graph allowed = length allowed ≡ length graph.edges

-- the colours beside the root's
abbrev pub colours_of : Graph → List ℕ
colours_of graph = range_with_len 1 (colour_count graph)

-- the edges of a set into a colour, in order
abbrev pub edges_into : Graph → List Bool → ℕ → List ℕ
edges_into graph allowed colour =
    filter (λ edge. is_allowed allowed edge && nat_eq (head_colour graph edge) colour)
    (range_with_len 0 (length graph.edges))

-- whether a list names an edge
abbrev pub is_named : List ℕ → ℕ → Bool
is_named part edge = list_any (λ named. named == edge) part

-- the set without the edges that fail a test
abbrev pub keeping : (ℕ → Bool) → List Bool → List Bool
keeping test allowed = map (λ edge. is_allowed allowed edge && test edge) (range_with_len 0 (length allowed))

-- the set without the edges into a colour that a part does not name
abbrev pub only : Graph → List Bool → ℕ → List ℕ → List Bool
only graph allowed colour part =
    keeping (λ edge. not (nat_eq (head_colour graph edge) colour) || is_named part edge) allowed

-- the set without the edges that a part names
abbrev pub leaving : List Bool → List ℕ → List Bool
leaving allowed part = keeping (λ edge. not (is_named part edge)) allowed

-- The edges into a colour stand in a row: they are those from the first place on and below the second. So where there
-- is none, both places are the number of edges into smaller colours.
pub record AreInto (graph : Graph) (colour first past : ℕ) : Type 0 where
  pub in_order : first ≤ past
  pub within : past ≤ length graph.edges
  pub members : (edge : ℕ) → edge < length graph.edges
      → ((first ≤ edge) × (edge < past)) ↔ (head_colour graph edge ≡ colour)
  pub smaller : (edge : ℕ) → edge < length graph.edges → (edge < first) ↔ (head_colour graph edge < colour)
