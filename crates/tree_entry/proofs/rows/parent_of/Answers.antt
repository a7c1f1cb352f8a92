use Rattle.std.proofs.Common.{◌≡◌, ◌≢◌, ◌<◌, ◌≤◌, ◌⊎◌, ◌∙◌, inl, inr, ℕ, List, length, get_or, ap, sym, refl, arith}
use Rattle.std.proofs.lemmas.List.{get_or_default}
use Rattle.tree_entry.specs.Rows.{head_of, of_row}
use Rattle.colour_graph.specs.Graph.{Graph, edge_at}
use Rattle.colour_graph.specs.declared.edge.Edge.{Edge}
use Rattle.tree_document.specs.declared.entry.TreeRow.{TreeRow}
use Rattle.tree_entry.proofs.rows.parent_of.Goals as goal
use Rattle.tree_entry.proofs.rows.parent_of.Goals.{then-loop-row-test+else-edge_at-vertex, else-loop-row-test}

-- a row whose edge was read goes where that edge goes
goes_there : (graph inside : Graph) (rows : List TreeRow) (row vertex : ℕ) (read : TreeRow) (edge : Edge)
    → inside ≡ graph → row < length rows → edge ≡ edge_at inside (get_or rows row read).edge → edge.head ≡ vertex
    → head_of graph rows row ≡ vertex
goes_there graph inside rows row vertex read edge same within is head =
    ap (λ (row : TreeRow). (edge_at graph row.edge).head) (get_or_default rows row _ read within)
    ∙ ap (λ g. (edge_at g (get_or rows row read).edge).head) (sym same) ∙ sym (ap (λ (e : Edge). e.head) is) ∙ head

-- where no row goes to a vertex that is reached, it is the root
none_is_root : (graph : Graph) (rows : List TreeRow) (vertex row : ℕ)
    → (vertex ≡ 0) ⊎ ((row : ℕ) × (row < length rows) × (head_of graph rows row ≡ vertex))
    → ((earlier : ℕ) → earlier < row → head_of graph rows earlier ≢ vertex) → length rows ≤ row → vertex ≡ 0
none_is_root graph rows vertex row (inl is_root) others past = is_root
none_is_root graph rows vertex row (inr found) others past = absurd (others found.0 (omega (arith, found.1)) found.2)

pub returns : goal.returns
returns c =
    let graph = c.args.built.now.graph in
    let rows = c.args.rows.now in
    let vertex = c.args.vertex in
    let row = c.loop-row.row in
    elim c.loop-row-test.branch [
      | then-loop-row-test+else-edge_at-vertex w ↦
          let head = goes_there graph c.built.inside.graph rows row vertex w.index-rows-row.result w.edge_at.result
          (ap (λ built. built.graph) c.built.view_is) w.loop-row-test.true w.edge_at.ensures.edge
          w.if-edge_at-vertex.false in
          of_row row c.if-vertex-eq0.false refl w.loop-row-test.true head c.loop-row.invariant.others
      | else-loop-row-test w ↦
          let is_root = none_is_root graph rows vertex row c.requires.reached c.loop-row.invariant.others
          w.loop-row-test.false in
          absurd (c.if-vertex-eq0.false is_root)
    ]
