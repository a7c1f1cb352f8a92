-- The first row of each vertex, while rows are looked at in order.
use Rattle.std.specs.Prelude.{◌≡◌, ◌≢◌, ◌<◌, ◌+◌, ◌-◌, ◌⊎◌, ℕ, List, length, slice_index}
use Rattle.colour_graph.specs.Graph.{Graph, edge_at, head_colour}
use Rattle.element_table.specs.Formula.{loss_of}
use Rattle.loss_graph.specs.LossGraph.{LossGraphValue, formula_at}
use Rattle.tree_document.specs.declared.entry.TreeRow.{TreeRow}
use Rattle.tree_entry.specs.Rows.{head_of}

-- The number, from 1, of the first of so many rows whose edge goes to a vertex; 0 where none does.
pub data IsFirst (graph : Graph) (rows : List TreeRow) (count vertex number : ℕ) : Type 0 where
  no_row : number ≡ 0 → ((earlier : ℕ) → earlier < count → head_of graph rows earlier ≢ vertex)
      → IsFirst graph rows count vertex number
  a_row : (row : ℕ) → number ≡ row + 1 → row < count → head_of graph rows row ≡ vertex
      → ((earlier : ℕ) → earlier < row → head_of graph rows earlier ≢ vertex)
      → IsFirst graph rows count vertex number

abbrev pub AreFirsts : Graph → List TreeRow → ℕ → List ℕ → Type 0
AreFirsts graph rows count firsts =
    (vertex : ℕ) → vertex < length firsts → IsFirst graph rows count vertex (slice_index firsts vertex)

-- by the first rows of vertices, the parent of a row whose edge begins at one
abbrev pub IsParentBy : List ℕ → ℕ → ℕ → Type 0
IsParentBy firsts tail parent =
    ((tail ≡ 0) × (parent ≡ 0)) ⊎ ((tail ≢ 0) × (parent ≢ 0) × (slice_index firsts tail ≡ parent))

-- a row says of its edge what the graph says
pub record TellsEdge (built : LossGraphValue) (row : TreeRow) : Type 0 where
  pub peak : row.peak ≡ slice_index built.peaks (head_colour built.graph row.edge - 1)
  pub formula : row.formula ≡ formula_at built (edge_at built.graph row.edge).head
  pub loss : row.loss ≡ loss_of (formula_at built (edge_at built.graph row.edge).tail)
      (formula_at built (edge_at built.graph row.edge).head)
  pub weight : row.weight ≡ (edge_at built.graph row.edge).weight
