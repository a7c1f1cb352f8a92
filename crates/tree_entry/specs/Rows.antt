-- What the rows of a tree say of a graph.
use Rattle.std.specs.Prelude.{◌≡◌, ◌≢◌, ◌<◌, ◌+◌, ◌-◌, ℕ, pos, List, [], length, map, slice_index, slice_index_or}
use Rattle.colour_graph.specs.Graph.{Graph, edge_at, head_colour}
use Rattle.element_table.specs.Formula.{loss_of}
use Rattle.loss_graph.specs.LossGraph.{LossGraphValue, formula_at}
use Rattle.tree_document.specs.declared.entry.TreeRow.{TreeRow}

-- the edges that rows name
abbrev pub edges_of : List TreeRow → List ℕ
edges_of rows = map (λ row. row.edge) rows

abbrev pub row_at : List TreeRow → ℕ → TreeRow
row_at rows place =
    slice_index_or rows place (record { edge = 0; parent = 0; peak = 0; formula = []; loss = []; weight = pos 0 })

-- the vertex to which the edge of a row goes
abbrev pub head_of : Graph → List TreeRow → ℕ → ℕ
head_of graph rows place = (edge_at graph (row_at rows place).edge).head

-- The parent of a row at a place whose edge begins at a vertex: 0 for the root; else the number, from 1, of the first
-- row whose edge goes there, which is an earlier one.
pub data IsParent (graph : Graph) (rows : List TreeRow) (place tail parent : ℕ) : Type 0 where
  of_root : tail ≡ 0 → parent ≡ 0 → IsParent graph rows place tail parent
  of_row : (row : ℕ) → tail ≢ 0 → parent ≡ row + 1 → row < place → head_of graph rows row ≡ tail
      → ((earlier : ℕ) → earlier < row → head_of graph rows earlier ≢ tail) → IsParent graph rows place tail parent

-- A row at a place is the graph's: its edge is one of the graph and greater than that of the row before it; its peak is
-- the list of the head's colour, its formula the head's, its loss that of the tail to the head, its weight the edge's.
pub record IsRow (built : LossGraphValue) (rows : List TreeRow) (place : ℕ) : Type 0 where
  pub edge : (row_at rows place).edge < length built.graph.edges
  pub rises : 0 < place → (row_at rows (place - 1)).edge < (row_at rows place).edge
  pub parent : IsParent built.graph rows place (edge_at built.graph (row_at rows place).edge).tail
      (row_at rows place).parent
  pub peak : (row_at rows place).peak
      ≡ slice_index built.peaks (head_colour built.graph (row_at rows place).edge - 1)
  pub formula : (row_at rows place).formula ≡ formula_at built (head_of built.graph rows place)
  pub loss : (row_at rows place).loss
      ≡ loss_of (formula_at built (edge_at built.graph (row_at rows place).edge).tail)
      (formula_at built (head_of built.graph rows place))
  pub weight : (row_at rows place).weight ≡ (edge_at built.graph (row_at rows place).edge).weight

-- each row of a tree is the graph's
abbrev pub AreRows : LossGraphValue → List TreeRow → Type 0
AreRows built rows = (place : ℕ) → place < length rows → IsRow built rows place
