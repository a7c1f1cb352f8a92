use Rattle.std.proofs.Common.{◌≡◌, ◌<◌, ◌+◌, ◌-◌, ◌++◌, ◌∷◌, [], ◌⊎◌, inl, inr, ◌∙◌, ℕ, List, length, get_or, take, ap}
use Rattle.std.proofs.Common.{sym, arith}
use Rattle.std.proofs.lemmas.List.{get_or_default, map_push, take_more}
use Rattle.std.specs.List.{AllPairs}
use Rattle.tree_entry.specs.Rows.{edges_of, head_of, row_at}
use Rattle.colour_graph.specs.Colourful.{IsColourful}
use Rattle.colour_graph.specs.Graph.{Graph, IsGraph, edge_at}
use Rattle.tree_document.specs.declared.entry.TreeRow.{TreeRow}
use Rattle.tree_entry.proofs.AreRows.{AreRows-push, edge-named, length-rows}
use Rattle.tree_entry.proofs.IsReached.{reached_before}
use Rattle.tree_entry.proofs.rows.tree_rows.Goals as goal

-- a row goes to the tail of the next edge, unless that is the root
reached_by_row : (graph : Graph) (rows : List TreeRow) (edges : List ℕ) (n : ℕ) → IsGraph graph
    → IsColourful graph edges
    → AllPairs (λ edge later. edge < later) edges → edges_of rows ≡ take n edges → n < length edges
    → ((edge_at graph (get_or edges n 0)).tail ≡ 0)
    ⊎ ((row : ℕ) × (row < length rows) × (head_of graph rows row ≡ (edge_at graph (get_or edges n 0)).tail))
reached_by_row graph rows edges n is colourful rising are within =
    choose (reached_before graph edges n is colourful rising within)
  where
    choose : ((edge_at graph (get_or edges n 0)).tail ≡ 0)
        ⊎ ((k : ℕ) × (k < n) × ((edge_at graph (get_or edges k 0)).head ≡ (edge_at graph (get_or edges n 0)).tail))
        → ((edge_at graph (get_or edges n 0)).tail ≡ 0)
        ⊎ ((row : ℕ) × (row < length rows) × (head_of graph rows row ≡ (edge_at graph (get_or edges n 0)).tail))
    choose (inl is_root) = inl is_root
    choose (inr found) = inr (
      found.0,
      omega (arith, found.1, length-rows rows edges n are (omega arith)),
      ap (λ edge. (edge_at graph edge).head) (edge-named rows edges n found.0 are (omega arith) found.1) ∙ found.2,
    )

rises_on : (rows : List TreeRow) (edges : List ℕ) (n : ℕ) → AllPairs (λ edge later. edge < later) edges
    → edges_of rows ≡ take n edges
    → n < length edges → 0 < length rows → (row_at rows (length rows - 1)).edge < get_or edges n 0
rises_on rows edges n rising are within some =
    let long = length-rows rows edges n are (omega arith) in
    rw (edge-named rows edges n (length rows - 1) are (omega arith) (omega arith))
    (rising (length rows - 1) n 0 (omega arith) within)

edges_of-push : (rows : List TreeRow) (row : TreeRow) (edges : List ℕ) (n : ℕ) → edges_of rows ≡ take n edges
    → n < length edges
    → row.edge ≡ get_or edges n 0 → edges_of (rows ++ row ∷ []) ≡ take (n + 1) edges
edges_of-push rows row edges n are within is =
    map_push (λ (row : TreeRow). row.edge) rows row ∙ ap (λ (named : List ℕ). named ++ row.edge ∷ []) are
    ∙ ap (λ edge. take n edges ++ edge ∷ []) is ∙ sym (take_more edges n 0 within)

pub row_of-row-requires-clause-others : goal.row_of-row-requires-clause-others
row_of-row-requires-clause-others c k d within =
    let rows = c.loop-edge.rows.items in
    let in_rows : k < length rows = rw c.deref.ensures.value at within in
    let row_is : get_or c.deref.result.now k d ≡ row_at rows k =
    ap (λ (rows : List TreeRow). get_or rows k d) c.deref.ensures.value ∙ get_or_default rows k d _ in_rows in
    rw row_is (c.loop-edge.invariant.right k in_rows).edge

pub row_of-row-requires-clause-rises : goal.row_of-row-requires-clause-rises
row_of-row-requires-clause-rises c =
    let rises = rises_on c.loop-edge.rows.items c.args.edges.now c.loop-edge.edge-index c.requires.rising
    c.loop-edge.invariant.edges in
    rw c.deref.ensures.value (rises c.loop-edge-test.true)

pub row_of-row-requires-clause-reached : goal.row_of-row-requires-clause-reached
row_of-row-requires-clause-reached c =
    let is_graph = rw (ap (λ built. built.graph) c.built.view_is) at c.is_graph.ensures in
    let reached = reached_by_row c.args.built.now.graph c.loop-edge.rows.items c.args.edges.now c.loop-edge.edge-index
    is_graph in
    rw c.deref.ensures.value (reached c.requires.colourful c.requires.rising c.loop-edge.invariant.edges
    c.loop-edge-test.true)

pub loop-edge-preserved : goal.loop-edge-preserved
loop-edge-preserved c =
    let rows = c.loop-edge.rows.items in
    let row = c.row_of-row.result in
    let items = c.in_ok-push.ensures.items in
    let last = rw c.deref.ensures.value at c.row_of-row.ensures.row in
    record {
      edges = ap edges_of items
          ∙ edges_of-push rows row c.args.edges.now c.loop-edge.edge-index c.loop-edge.invariant.edges
          c.loop-edge-test.true
          c.row_of-row.ensures.edge;
      right = rw items (AreRows-push c.args.built.now rows row c.loop-edge.invariant.right last);
    }
