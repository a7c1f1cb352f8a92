-- The graph of a candidate, after the fragmentation graph of Böcker and Rasche 2008: an edge wherever one formula is a
-- proper part of another, and a score for each loss.
use Rattle.std.specs.Prelude.{◌≡◌, ℕ, ℤ, pos, ◌+ℤ◌, ◌-ℤ◌, List, length, map, slice_index_or, []}
use Rattle.std.specs.Int.RustNames.{unsigned_abs}
use Rattle.std.specs.List.{All, filter, flat_map, range_with_len}
use Rattle.adducts.specs.declared.choice.Choice.{Choice}
use Rattle.colour_graph.specs.Graph.{Graph, colour_count}
use Rattle.colour_graph.specs.declared.edge.Edge.{Edge}
use Rattle.element_table.specs.Formula.{IsProperPart, is_proper_part, loss_of, mass_of}
use Rattle.element_table.specs.FormulaList.{FormulaListValue}
use Rattle.element_table.specs.Window.{Window}
use Rattle.score_tables.specs.Scores.{error_score_of, loss_score_of, peak_score_of}
use Rattle.score_tables.specs.Tables.{ScoresValue}
use Rattle.loss_graph.specs.Lists.{greatest_intensity, list_at, window_at}
use Rattle.loss_graph.specs.Vertices.{peaks_of, vertex_at, vertices_of}
use Rattle.loss_graph.specs.declared.vertex.Vertex.{Vertex}

-- how far a formula's mass is from the centre of a window
abbrev pub error_of : Window → List ℕ → ℕ
error_of window formula = unsigned_abs (pos (mass_of formula) -ℤ window.centre)

-- the score of a formula's error in the window of a list
abbrev pub error_score_in : Choice → ScoresValue → FormulaListValue → List ℕ → ℤ
error_score_in choice scores list formula =
    error_score_of scores (error_of (window_at choice list) formula) (window_at choice list).half

-- what the head of an edge scores: its list's peak and its error there
abbrev pub head_score_of : Choice → ScoresValue → List FormulaListValue → Vertex → ℤ
head_score_of choice scores lists head =
    peak_score_of scores (list_at lists head.peak).intensity (greatest_intensity lists)
    +ℤ error_score_in choice scores (list_at lists head.peak) head.formula

-- the weight of an edge: the score of the loss and of the head
abbrev pub weight_of : Choice → ScoresValue → List FormulaListValue → Vertex → Vertex → ℤ
weight_of choice scores lists tail head =
    loss_score_of scores (loss_of tail.formula head.formula) +ℤ head_score_of choice scores lists head

-- the edges into a vertex, by their tails: from each vertex of which the head is a proper part
abbrev pub edges_to : Choice → ScoresValue → List FormulaListValue → List Vertex → ℕ → List Edge
edges_to choice scores lists vertices head =
    map (λ tail. record {
      tail = tail;
      head = head;
      weight = weight_of choice scores lists (vertex_at vertices tail) (vertex_at vertices head);
    })
    (filter (λ tail. is_proper_part (vertex_at vertices head).formula (vertex_at vertices tail).formula)
    (range_with_len 0 (length vertices)))

-- the graph over some vertices
abbrev pub graph_over : Choice → ScoresValue → List ℕ → List FormulaListValue → List Vertex → Graph
graph_over choice scores root lists vertices = record {
  root_score = error_score_in choice scores (list_at lists 0) root;
  colours = map (λ vertex. vertex.colour) vertices;
  edges = flat_map (edges_to choice scores lists vertices) (range_with_len 0 (length vertices));
}

-- a graph, the formula of each vertex, and for each colour the number of its list
pub record LossGraphValue : Type 0 where
  pub graph : Graph
  pub formulas : List (List ℕ)
  pub peaks : List ℕ

abbrev pub loss_graph_of : Choice → ScoresValue → List ℕ → List FormulaListValue → LossGraphValue
loss_graph_of choice scores root lists = record {
  graph = graph_over choice scores root lists (vertices_of root lists);
  formulas = map (λ vertex. vertex.formula) (vertices_of root lists);
  peaks = peaks_of root lists;
}

abbrev pub formula_at : LossGraphValue → ℕ → List ℕ
formula_at built vertex = slice_index_or built.formulas vertex []

-- what every such value is
pub record IsLossGraph (built : LossGraphValue) : Type 0 where
  pub formulas : length built.formulas ≡ length built.graph.colours
  pub peaks : length built.peaks ≡ colour_count built.graph
  pub parts : All (λ edge. IsProperPart (formula_at built edge.head) (formula_at built edge.tail)) built.graph.edges
