use Rattle.std.proofs.Common.{◌≡◌, ◌∙◌, ◌<◌, ap, arith, get_or, length, true}
use Rattle.std.proofs.lemmas.List.{length-set}
use Rattle.colour_graph.specs.Graph.{colour_of, edge_at}
use Rattle.colour_graph.proofs.Order.{colour-le_vertex}
use Rattle.entry_checker.proofs.AreMarks.{AreMarks-more}
use Rattle.entry_checker.proofs.adding.mark_heads.Goals as goal

pub bounds-taken-from : goal.bounds-taken-from
bounds-taken-from c =
    let low = colour-le_vertex c.args.graph.now c.is_graph.ensures.colours c.edge_at-head.result.head
    c.edge_at-head.ensures.is_edge.head in
    omega (
      arith,
      low,
      c.from-in-loop-edge.ensures,
      c.colour_of.ensures.colour,
      c.edge_at-head.ensures.is_edge.head,
      c.requires.colours,
      c.loop-edge.invariant.taken_long,
    )

pub loop-edge-preserved : goal.loop-edge-preserved
loop-edge-preserved c =
    let graph = c.args.graph.now in
    let head_is : c.edge_at-head.result.head ≡ (edge_at graph (get_or c.args.edges.now c.loop-edge.edge-index 0)).head =
    ap
    (λ edge. edge.head) c.edge_at-head.ensures.edge in
    let low = colour-le_vertex graph c.is_graph.ensures.colours c.edge_at-head.result.head
    c.edge_at-head.ensures.is_edge.head in
    let head_in : c.from.result < length c.loop-edge.reached =
    omega (
      arith,
      length-set c.args.reached.now 0
          true,
      c.from.ensures,
      c.edge_at-head.ensures.is_edge.head,
      c.requires.vertices,
      c.loop-edge.invariant.reached_long,
    ) in
    let colour_in : c.from-in-loop-edge.result < length c.loop-edge.taken =
    omega (
      arith,
      low,
      c.from-in-loop-edge.ensures,
      c.colour_of.ensures.colour,
      c.edge_at-head.ensures.is_edge.head,
      c.requires.colours,
      c.loop-edge.invariant.taken_long,
    ) in
    record {
      marks = AreMarks-more graph c.args.edges.now c.loop-edge.edge-index c.from.result c.from-in-loop-edge.result
          c.loop-edge.reached
          c.loop-edge.taken c.loop-edge-test.true
          (c.from.ensures ∙ head_is) (c.from-in-loop-edge.ensures ∙ c.colour_of.ensures.colour
          ∙ ap (colour_of graph) head_is) head_in
          colour_in c.loop-edge.invariant.marks;
      reached_long = length-set c.loop-edge.reached c.from.result _ ∙ c.loop-edge.invariant.reached_long;
      taken_long = length-set c.loop-edge.taken c.from-in-loop-edge.result _ ∙ c.loop-edge.invariant.taken_long;
    }
