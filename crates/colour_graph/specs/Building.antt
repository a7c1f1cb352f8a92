-- How a graph is built: the root alone, then vertices and edges.
use Rattle.std.specs.Prelude.{◌<◌, ◌-◌, ℕ, ℤ, [], ◌∷◌, ◌++◌, length}
use Rattle.colour_graph.specs.declared.edge.Edge.{Edge}
use Rattle.colour_graph.specs.Graph.{Graph, StandsBefore, edge_at}

abbrev pub root_alone : ℤ → Graph
root_alone root_score = record { root_score = root_score; colours = 0 ∷ []; edges = [] }

abbrev pub with_vertex : Graph → ℕ → Graph
with_vertex graph colour =
    record { root_score = graph.root_score; colours = graph.colours ++ colour ∷ []; edges = graph.edges }

abbrev pub with_edge : Graph → Edge → Graph
with_edge graph edge =
    record { root_score = graph.root_score; colours = graph.colours; edges = graph.edges ++ edge ∷ [] }

-- an edge stands after the last of a graph, if it has one
abbrev pub ComesNext : Graph → Edge → Type 0
ComesNext graph edge = 0 < length graph.edges → StandsBefore (edge_at graph (length graph.edges - 1)) edge
