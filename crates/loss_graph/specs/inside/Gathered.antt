-- What is gathered over the lists.
use Rattle.std.specs.Prelude.{◌≡◌, ◌≤◌, ◌+◌, ◌++◌, ℕ, List, [], ◌∷◌, length, map, nat_lt, if◌then◌else◌}
use Rattle.std.specs.List.{filter}
use Rattle.colour_graph.specs.Graph.{greatest_graph}
use Rattle.element_table.specs.Formula.{is_proper_part}
use Rattle.element_table.specs.FormulaList.{FormulaListValue}
use Rattle.loss_graph.specs.Vertices.{vertex_in, vertices_from}
use Rattle.loss_graph.specs.declared.vertex.Vertex.{Vertex}

-- how many vertices there are, and which, where they are not too many; and the lists that have a part
pub record AreGathered (root : List ℕ) (lists : List FormulaListValue) (found : List ℕ) (count : ℕ)
    (vertices : List Vertex) (peaks : List ℕ) : Type 0 where
  pub counted : count ≡ length (vertices_from root lists found)
  pub all : count ≤ greatest_graph → vertices ≡ vertices_from root lists found
  pub named : peaks ≡ found

-- what one more list adds
pub record Adds (root : List ℕ) (peak : ℕ) (formulas : List (List ℕ)) (count : ℕ) (vertices : List Vertex)
    (peaks : List ℕ) (new_count : ℕ) (new_vertices : List Vertex) (new_peaks : List ℕ) : Type 0 where
  pub counted : new_count ≡ count + length (filter (λ formula. is_proper_part formula root) formulas)
  pub added : new_count ≤ greatest_graph
      → new_vertices ≡ vertices
      ++ map (vertex_in (length peaks + 1) peak) (filter (λ formula. is_proper_part formula root) formulas)
  pub named : new_peaks ≡ (if nat_lt 0 (length (filter (λ formula. is_proper_part formula root) formulas))
      then peaks ++ peak ∷ [] else peaks)
