use Rattle.std.proofs.Common.{◌≡◌, ◌∙◌, ◌||◌, ap, arith, eqb, get_or, length, refl, rules, sym}
use Rattle.colour_graph.specs.Graph.{colour_of, edge_at, head_colour}
use Rattle.colour_graph.specs.inside.Bits.{is_marked}
use Rattle.colour_graph.proofs.HeadsSoFar.{AreApart-all, AreHeads-all, SeenHeads-more, SeenHeads-none}
use Rattle.colour_graph.proofs.Order.{colour-le_vertex}
use Rattle.colour_graph.proofs.graph.ColourGraph.marked_heads.Goals as goal

pub loop-edge-init : goal.loop-edge-init
loop-edge-init c = record { seen = SeenHeads-none _ _ 64; heads_long = refl; colours_long = refl }

pub is_marked-requires : goal.is_marked-requires
is_marked-requires c = omega (
  arith,
  c.from.ensures,
  c.colour_of-colour.ensures.colour,
  c.edge_at-head.ensures.is_edge.head,
  c.edge_count-count.ensures.is_graph.colours.few,
  c.loop-edge.invariant.colours_long,
  colour-le_vertex c.args.self.now c.edge_count-count.ensures.is_graph.colours c.edge_at-head.result.head
      c.edge_at-head.ensures.is_edge.head,
)

pub mark-requires : goal.mark-requires
mark-requires c = omega (
  arith,
  c.from-in-loop-edge.ensures,
  c.colour_of-colour.ensures.colour,
  c.edge_at-head.ensures.is_edge.head,
  c.edge_count-count.ensures.is_graph.colours.few,
  c.loop-edge.invariant.colours_long,
  colour-le_vertex c.args.self.now c.edge_count-count.ensures.is_graph.colours c.edge_at-head.result.head
      c.edge_at-head.ensures.is_edge.head,
)

pub loop-edge-preserved : goal.loop-edge-preserved
loop-edge-preserved c =
    let head_is : c.edge_at-head.result.head ≡
    (edge_at c.args.self.now (get_or c.args.edges.now c.loop-edge.edge-index 0)).head =
    ap (λ edge. edge.head) c.edge_at-head.ensures.edge in
    let colour_is : c.colour_of-colour.result
    ≡ head_colour c.args.self.now (get_or c.args.edges.now c.loop-edge.edge-index 0) =
    c.colour_of-colour.ensures.colour ∙ ap (colour_of c.args.self.now) head_is in
    record {
      seen =
          SeenHeads-more c.args.self.now c.args.edges.now c.loop-edge.edge-index c.loop-edge.heads c.loop-edge.colours
          c.mark-in-loop-edge.new.words c.mark.new.words c.loop-edge.invariant.seen
          (omega (arith, c.edge_count-count.ensures.count, c.if-edge-count.false))
          (ap (is_marked c.loop-edge.colours) (sym (c.from.ensures ∙ colour_is)) ∙ sym c.is_marked.ensures
          ∙ c.if-is_marked.false)
          (λ other. c.mark-in-loop-edge.ensures other
          ∙ ap (λ place. eqb other place || is_marked c.loop-edge.heads other)
          (c.from-in-loop-edge-2.ensures ∙ head_is))
          (λ other. c.mark.ensures other ∙ ap (λ place. eqb other place || is_marked c.loop-edge.colours other)
          (c.from-in-loop-edge.ensures ∙ colour_is));
      heads_long = search rules;
      colours_long = search rules;
    }

pub returns-clause-apart : goal.returns-clause-apart
returns-clause-apart c =
    let all : c.loop-edge.edge-index ≡ length c.args.edges.now = omega arith in (
      λ is. AreApart-all c.args.self.now c.args.edges.now c.loop-edge.heads c.loop-edge.colours
          (rw all at c.loop-edge.invariant.seen),
      λ is. refl,
    )

pub returns-clause-heads : goal.returns-clause-heads
returns-clause-heads c =
    let all : c.loop-edge.edge-index ≡ length c.args.edges.now = omega arith in
    AreHeads-all c.args.self.now c.args.edges.now c.loop-edge.heads c.loop-edge.colours
    (rw all at c.loop-edge.invariant.seen)
