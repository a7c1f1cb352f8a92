use Rattle.std.proofs.Common.{◌≡◌, ◌<◌, ℕ, ℤ, arith, ap, sym, ◌∙◌, length, to_z, of_z, w32}
use Rattle.std.proofs.lemmas.Bool.{false≢true}
use Rattle.std.proofs.lemmas.Int.{to_z-of_z}
use Rattle.std.specs.Ordering.{int_cmp, ord_max}
use Rattle.colour_graph.specs.EdgeSet.{edges_into}
use Rattle.colour_graph.specs.Graph.{head_colour}
use Rattle.colour_graph.proofs.Scores.{SFits-score}
use Rattle.price_bound.specs.inside.Exact.{IsGreater}
use Rattle.price_bound.proofs.Edges.{IsInto, edges_into-in, in-edges_into, weight_at}
use Rattle.price_bound.proofs.Greatest.{IsGreater-max, IsScore-greater, greater-not_below, greatest-is, greatest-with}
use Rattle.price_bound.proofs.Greatest.{greatest-without}
use Rattle.price_bound.proofs.starting.greatest_into.Goals as goal
use Rattle.price_bound.proofs.starting.greatest_into.Goals.{then-has, else-has}

pub loop-edge-preserved : goal.loop-edge-preserved
loop-edge-preserved c =
    let graph = c.args.graph.now in
    let allowed = c.args.allowed.now in
    let edge = c.loop-edge.edge in
    let known = c.loop-edge.invariant in
    let most : ℤ = to_z w32 c.loop-edge.most-bits in
    let in_graph : edge < length graph.edges =
    omega (arith, c.edges_into-first.ensures.within, c.loop-edge-test.true) in
    let there : head_colour graph edge ≡ c.args.colour =
    (c.edges_into-first.ensures.members edge in_graph).0 (c.loop-edge.auto.edge, c.loop-edge-test.true) in
    elim c.if-has.branch [
      | then-has w ↦
          let is_score = w.edge_at.ensures.is_edge.weight in
          let weight_is : to_z w32 (of_z w32 w.edge_at.result.weight) ≡ weight_at graph edge =
          to_z-of_z w32 w.edge_at.result.weight (SFits-score w.edge_at.result.weight is_score)
          ∙ ap (λ e. e.weight) w.edge_at.ensures.edge in
          let out_is = to_z-of_z w32 w.max-most.result (record { sfits = w.max-most.type_inv }) in
          let greater : IsGreater w.max-most.result most (weight_at graph edge) =
          IsGreater-max _ _ _ (w.max-most.ensures ∙ ap (ord_max int_cmp most) weight_is) in
          let is : IsInto graph allowed c.args.colour edge =
          record { within = in_graph; in_set = sym c.has.ensures ∙ w.if-has.true; there = there } in
          rw (w.most-is, out_is) (record {
            greatest = greatest-with (IsInto graph allowed c.args.colour)
                (weight_at graph) edge most w.max-most.result is known.greatest greater;
            near = IsScore-greater most (weight_at graph edge) w.max-most.result greater known.near
                (rw w.edge_at.ensures.edge at is_score);
            not_below = greater-not_below most (weight_at graph edge) w.max-most.result greater known.not_below;
          })
      | else-has w ↦ rw w.most-is (record {
        greatest = greatest-without (IsInto graph allowed c.args.colour) (weight_at graph) edge most
            (λ is. false≢true (sym w.if-has.false ∙ c.has.ensures ∙ is.in_set)) known.greatest;
        near = known.near;
        not_below = known.not_below;
      })
    ]

pub returns-clause-greatest : goal.returns-clause-greatest
returns-clause-greatest c =
    let graph = c.args.graph.now in
    let allowed = c.args.allowed.now in
    let colour : ℕ = c.args.colour in
    let last : c.loop-edge.edge ≡ c.edges_into-first.result.1 = omega (arith, c.edges_into-first.ensures.in_order) in
    greatest-is (IsInto graph allowed colour) (weight_at graph) c.edges_into-first.result.1
    (edges_into graph allowed colour) (to_z w32 c.loop-edge.most-bits)
    (λ edge is_in. let is = edges_into-in graph allowed colour edge is_in in
    (((c.edges_into-first.ensures.members edge is.within).1 is.there).1, is))
    (λ edge below is. in-edges_into graph allowed colour edge is) (rw last at c.loop-edge.invariant.greatest)
