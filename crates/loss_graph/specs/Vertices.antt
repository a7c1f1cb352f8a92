-- The vertices of a candidate's graph: the root, then for each list of a peak the proper parts of the root in it.
use Rattle.std.specs.Prelude.{◌-◌, ℕ, Bool, List, [], ◌∷◌, length, map, nat_lt, slice_index_or}
use Rattle.std.specs.List.{enumerate_from, filter, flat_map, range_with_len}
use Rattle.element_table.specs.Formula.{is_proper_part}
use Rattle.element_table.specs.FormulaList.{FormulaListValue}
use Rattle.loss_graph.specs.Lists.{list_at}
use Rattle.loss_graph.specs.declared.vertex.Vertex.{Vertex}

-- the proper parts of the root in a list, in its order
abbrev pub parts_in : List ℕ → FormulaListValue → List (List ℕ)
parts_in root list = filter (λ formula. is_proper_part formula root) list.formulas

abbrev pub has_part : List ℕ → FormulaListValue → Bool
has_part root list = nat_lt 0 (length (parts_in root list))

-- For each colour, from 1 on, the number of its list: the lists of peaks that have a part, in their order.
abbrev pub peaks_of : List ℕ → List FormulaListValue → List ℕ
peaks_of root lists = filter (λ number. has_part root (list_at lists number)) (range_with_len 1 (length lists - 1))

-- the root is of list 0, and alone of colour 0
abbrev pub root_vertex : List ℕ → Vertex
root_vertex root = record { formula = root; peak = 0; colour = 0 }

abbrev pub vertex_in : ℕ → ℕ → List ℕ → Vertex
vertex_in colour peak formula = record { formula = formula; peak = peak; colour = colour }

-- the vertices of a colour
abbrev pub vertices_of_colour : List ℕ → List FormulaListValue → ℕ × ℕ → List Vertex
vertices_of_colour root lists colour_and_peak =
    map (vertex_in colour_and_peak.0 colour_and_peak.1) (parts_in root (list_at lists colour_and_peak.1))

-- the root and the vertices of the colours of some lists
abbrev pub vertices_from : List ℕ → List FormulaListValue → List ℕ → List Vertex
vertices_from root lists peaks = root_vertex root ∷ flat_map (vertices_of_colour root lists) (enumerate_from 1 peaks)

abbrev pub vertices_of : List ℕ → List FormulaListValue → List Vertex
vertices_of root lists = vertices_from root lists (peaks_of root lists)

abbrev pub vertex_at : List Vertex → ℕ → Vertex
vertex_at vertices place = slice_index_or vertices place (record { formula = []; peak = 0; colour = 0 })
