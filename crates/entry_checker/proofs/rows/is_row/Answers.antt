use Rattle.std.proofs.Common.{◌≡◌, ◌∙◌, ◌<◌, ◌≤◌, ℕ, List, ap, arith, get_or, length, sym}
use Rattle.std.proofs.lemmas.Bool.{false≢true}
use Rattle.std.proofs.lemmas.List.{get_or_default}
use Rattle.colour_graph.specs.Graph.{Graph, edge_at}
use Rattle.colour_graph.specs.declared.edge.Edge.{Edge}
use Rattle.loss_graph.specs.LossGraph.{LossGraphValue}
use Rattle.tree_document.specs.declared.entry.TreeRow.{TreeRow}
use Rattle.entry_checker.specs.inside.Firsts.{AreFirsts}
use Rattle.entry_checker.proofs.AreFirsts.{IsRead, row_from, row_parts}
use Rattle.entry_checker.proofs.rows.is_row.Goals as goal
use Rattle.entry_checker.proofs.rows.is_row.Goals.{then-rises, else-rises}

-- a row and its edge, as the graph inside has them
read_from : (built : LossGraphValue) (inside : Graph) (rows : List TreeRow) (place : ℕ) (firsts : List ℕ)
    (row : TreeRow) (edge : Edge)
    → inside ≡ built.graph
    → row ≡ get_or rows place row → place < length rows → edge ≡ edge_at inside row.edge
    → row.edge < length inside.edges
    → edge.tail < length inside.colours
    → length built.graph.colours ≤ length firsts → AreFirsts built.graph rows place firsts
    → IsRead built rows place firsts row edge.tail
read_from built inside rows place firsts row edge same row_is within edge_is in_graph tail_in room are = record {
  row_is = row_is ∙ get_or_default rows place row _ within;
  tail_is = ap (λ (e : Edge). e.tail) edge_is ∙ ap (λ (g : Graph). (edge_at g row.edge).tail) same;
  in_graph = rw same at in_graph;
  tail_in = omega (arith, tail_in, room, ap (λ (g : Graph). length g.colours) same);
  firsts_are = are;
}

pub returns-then-is_parent : goal.returns-then-is_parent
returns-then-is_parent c =
    let row = c.index-rows-place.result in
    let tail = c.edge_at-tail.result.tail in
    let read : IsRead c.args.built.now c.args.rows.now c.args.place c.args.firsts.now row tail =
    read_from c.args.built.now _ c.args.rows.now c.args.place c.args.firsts.now row c.edge_at-tail.result
    (ap (λ built. built.graph) c.built.view_is) c.index-rows-place.is
    c.requires.place c.edge_at-tail.ensures.edge (omega (arith, c.if-row-edge_count.false, c.edge_count.ensures.count))
    c.edge_at-tail.ensures.is_edge.tail
    c.requires.vertices c.requires.firsts in
    elim c.if-rises.branch [
      | then-rises w ↦ (
        λ yes. row_from c.args.built.now c.args.rows.now c.args.place c.args.firsts.now row tail read
            (c.rises.ensures.0 w.if-rises.true)
            (w.is_parent.ensures.0 (sym w.value-is ∙ c.if-is_parent.true)) (c.tells_edge.ensures.0 yes),
        λ is. c.tells_edge.ensures.1 (row_parts c.args.built.now c.args.rows.now c.args.place c.args.firsts.now row tail
            read is).2,
      )
      | else-rises w ↦ absurd (false≢true (sym w.if-rises.false ∙ sym w.value-is ∙ c.if-is_parent.true))
    ]

pub returns-else-is_parent : goal.returns-else-is_parent
returns-else-is_parent c =
    let row = c.index-rows-place.result in
    let tail = c.edge_at-tail.result.tail in
    let read : IsRead c.args.built.now c.args.rows.now c.args.place c.args.firsts.now row tail =
    read_from c.args.built.now _ c.args.rows.now c.args.place c.args.firsts.now row c.edge_at-tail.result
    (ap (λ built. built.graph) c.built.view_is) c.index-rows-place.is
    c.requires.place c.edge_at-tail.ensures.edge (omega (arith, c.if-row-edge_count.false, c.edge_count.ensures.count))
    c.edge_at-tail.ensures.is_edge.tail
    c.requires.vertices c.requires.firsts in
    elim c.if-rises.branch [
      | then-rises w ↦ (
        λ yes. absurd (false≢true (sym c.if-is_parent.false ∙ yes)),
        λ is. w.value-is ∙ w.is_parent.ensures.1
            (row_parts c.args.built.now c.args.rows.now c.args.place c.args.firsts.now row tail read
            is).1,
      )
      | else-rises w ↦ (
        λ yes. absurd (false≢true (sym c.if-is_parent.false ∙ yes)),
        λ is. absurd (false≢true (sym w.if-rises.false
            ∙ c.rises.ensures.1 (row_parts c.args.built.now c.args.rows.now c.args.place c.args.firsts.now row tail read
            is).0)),
      )
    ]
