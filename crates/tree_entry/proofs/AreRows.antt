-- `AreRows`: rows stay right where another follows, and what is told of another.
use Rattle.std.proofs.Common.{◌≡◌, ◌<◌, ◌≤◌, ◌-◌, ◌∙◌, ◌++◌, ◌∷◌, ◌⊎◌, inl, inr, [], ℕ, List, length, get_or, take}
use Rattle.std.proofs.Common.{slice_index}
use Rattle.std.proofs.Common.{ap, arith, refl, sym}
use Rattle.std.proofs.lemmas.Bool.{cases_lt}
use Rattle.std.proofs.lemmas.List.{get_or-map, get_or-take, get_or_append_left, get_or_push, length-map, length-take-le}
use Rattle.std.proofs.lemmas.List.{length_push}
use Rattle.tree_entry.specs.Rows.{AreRows, IsParent, IsRow, edges_of, head_of, of_root, of_row, row_at}
use Rattle.colour_graph.specs.Graph.{Graph, edge_at, head_colour}
use Rattle.element_table.specs.Formula.{loss_of}
use Rattle.loss_graph.specs.LossGraph.{LossGraphValue, formula_at}
use Rattle.tree_document.specs.declared.entry.TreeRow.{TreeRow}

row_at-more : (rows more : List TreeRow) (place : ℕ) → place < length rows
    → row_at (rows ++ more) place ≡ row_at rows place
row_at-more rows more place within = get_or_append_left rows more _ place within

row_at-push : (rows : List TreeRow) (row : TreeRow) → row_at (rows ++ row ∷ []) (length rows) ≡ row
row_at-push rows row = get_or_push rows row _ (length rows) refl

head_of-more : (graph : Graph) (rows more : List TreeRow) (place : ℕ) → place < length rows
    → head_of graph (rows ++ more) place ≡ head_of graph rows place
head_of-more graph rows more place within =
    ap (λ (row : TreeRow). (edge_at graph row.edge).head) (row_at-more rows more place within)

head_of-push : (graph : Graph) (rows : List TreeRow) (row : TreeRow)
    → head_of graph (rows ++ row ∷ []) (length rows) ≡ (edge_at graph row.edge).head
head_of-push graph rows row = ap (λ (row : TreeRow). (edge_at graph row.edge).head) (row_at-push rows row)

IsParent-more : (graph : Graph) (rows more : List TreeRow) (place tail parent : ℕ) → place ≤ length rows
    → IsParent graph rows place tail parent → IsParent graph (rows ++ more) place tail parent
IsParent-more graph rows more place tail parent within (of_root is_root none) = of_root is_root none
IsParent-more graph rows more place tail parent within (of_row row not_root is before head first) =
    of_row row not_root is before (head_of-more graph rows more row (omega arith) ∙ head)
    (λ earlier less. rw (head_of-more graph rows more earlier (omega arith)) (first earlier less))

-- a right row stays right where more rows follow
pub IsRow-more : (built : LossGraphValue) (rows more : List TreeRow) (place : ℕ) → place < length rows
    → IsRow built rows place
    → IsRow built (rows ++ more) place
IsRow-more built rows more place within right =
    let here = row_at-more rows more place within in
    record {
      edge = rw here right.edge;
      rises = λ some. rw (row_at-more rows more (place - 1) (omega arith), here) (right.rises some);
      parent = rw here (IsParent-more built.graph rows more place _ _ (omega arith) right.parent);
      peak = rw here right.peak;
      formula = rw (head_of-more built.graph rows more place within, here) right.formula;
      loss = rw (head_of-more built.graph rows more place within, here) right.loss;
      weight = rw here right.weight;
    }

-- what makes a row right behind others
pub record IsNext (built : LossGraphValue) (rows : List TreeRow) (row : TreeRow) : Type 0 where
  pub edge : row.edge < length built.graph.edges
  pub rises : 0 < length rows → (row_at rows (length rows - 1)).edge < row.edge
  pub parent : IsParent built.graph rows (length rows) (edge_at built.graph row.edge).tail row.parent
  pub peak : row.peak ≡ slice_index built.peaks (head_colour built.graph row.edge - 1)
  pub formula : row.formula ≡ formula_at built (edge_at built.graph row.edge).head
  pub loss : row.loss
      ≡ loss_of (formula_at built (edge_at built.graph row.edge).tail)
      (formula_at built (edge_at built.graph row.edge).head)
  pub weight : row.weight ≡ (edge_at built.graph row.edge).weight

pub IsRow-next : (built : LossGraphValue) (rows : List TreeRow) (row : TreeRow) → IsNext built rows row
    → IsRow built (rows ++ row ∷ []) (length rows)
IsRow-next built rows row next =
    let here = row_at-push rows row in
    record {
      edge = rw here next.edge;
      rises = λ some. rw (row_at-more rows (row ∷ []) (length rows - 1) (omega arith), here) (next.rises some);
      parent = rw here (IsParent-more built.graph rows (row ∷ []) (length rows) _ _ (omega arith) next.parent);
      peak = rw here next.peak;
      formula = rw (head_of-push built.graph rows row, here) next.formula;
      loss = rw (head_of-push built.graph rows row, here) next.loss;
      weight = rw here next.weight;
    }

pub AreRows-push : (built : LossGraphValue) (rows : List TreeRow) (row : TreeRow) → AreRows built rows
    → IsRow built (rows ++ row ∷ []) (length rows) → AreRows built (rows ++ row ∷ [])
AreRows-push built rows row before last place within = choose (cases_lt place (length rows))
  where
    choose : (place < length rows) ⊎ (length rows ≤ place) → IsRow built (rows ++ row ∷ []) place
    choose (inl earlier) = IsRow-more built rows (row ∷ []) place earlier (before place earlier)
    choose (inr not_earlier) =
        let same : place ≡ length rows = omega (arith, length_push rows row) in
        rw same last

pub length-rows : (rows : List TreeRow) (edges : List ℕ) (n : ℕ) → edges_of rows ≡ take n edges → n ≤ length edges
    → length rows ≡ n
length-rows rows edges n are within = sym (length-map rows (λ (row : TreeRow). row.edge)) ∙ ap length are
    ∙ length-take-le n edges within

-- the edge of a row is the one at its place
pub edge-named : (rows : List TreeRow) (edges : List ℕ) (n place : ℕ) → edges_of rows ≡ take n edges → n ≤ length edges
    → place < n
    → (row_at rows place).edge ≡ get_or edges place 0
edge-named rows edges n place are within before =
    sym (get_or-map (λ (row : TreeRow). row.edge) rows place _ 0 (omega (arith, length-rows rows edges n are within)))
    ∙ ap (λ (named : List ℕ). get_or named place 0) are ∙ get_or-take n edges place 0 before
