use Rattle.std.proofs.Common.{◌≡◌, ◌∙◌, ap, arith, to_z, of_z, w32, true, false, sym}
use Rattle.std.proofs.lemmas.Int.{to_z-of_z}
use Rattle.std.specs.Ordering.{int_cmp, ord_max}
use Rattle.colour_graph.specs.EdgeSet.{is_allowed}
use Rattle.colour_graph.specs.Graph.{edge_at}
use Rattle.certificate_checker.proofs.CapOf.{IsGreater, IsGreater-max, greatest-last, greatest-more, greatest-same}
use Rattle.certificate_checker.proofs.Fits.{SFits-score}
use Rattle.entry_checker.proofs.cap.greatest_into.Goals as goal
use Rattle.entry_checker.proofs.cap.greatest_into.Goals.{then-here, else-here}

pub loop-edge-preserved : goal.loop-edge-preserved
loop-edge-preserved c =
    let graph = c.args.graph.now in
    let allowed = c.args.allowed.now in
    let edge = c.loop-edge.edge in
    elim c.if-here.branch [
      | then-here w ↦
          let is_score = w.edge_at.ensures.is_edge.weight in
          let weight_is = to_z-of_z w32 w.edge_at.result.weight (SFits-score w.edge_at.result.weight is_score)
          ∙ ap (λ e. e.weight) w.edge_at.ensures.edge in
          let out_is = to_z-of_z w32 w.max-most.result (record { sfits = w.max-most.type_inv }) in
          let greater : IsGreater (to_z w32 c.loop-edge.most-bits) (edge_at graph edge).weight
          (to_z w32 (of_z w32 w.max-most.result)) =
          IsGreater-max _ _ _ (out_is ∙ w.max-most.ensures
          ∙ ap (ord_max int_cmp (to_z w32 c.loop-edge.most-bits)) weight_is) in
          let in_set : is_allowed allowed edge ≡ true = sym c.has-here.ensures ∙ w.if-here.true in
          rw w.most-is (record {
            greatest = greatest-more graph allowed c.args.colour c.edges_into-first.result.0 c.edges_into-first.result.1
                edge _ _
                c.edges_into-first.ensures c.loop-edge.auto.edge c.loop-edge-test.true in_set
                c.loop-edge.invariant.greatest greater.both;
            near = greater.near c.loop-edge.invariant.near (rw w.edge_at.ensures.edge at is_score);
          })
      | else-here w ↦
          let out : is_allowed allowed edge ≡ false = sym c.has-here.ensures ∙ w.if-here.false in
          rw w.most-is (record {
            greatest = greatest-same graph allowed c.args.colour edge _ out c.loop-edge.invariant.greatest;
            near = c.loop-edge.invariant.near;
          })
    ]

pub returns-clause-greatest : goal.returns-clause-greatest
returns-clause-greatest c =
    let ended : c.loop-edge.edge ≡ c.edges_into-first.result.1 = omega (
      arith,
      c.loop-edge.auto.edge-end
          c.edges_into-first.ensures.in_order,
    ) in
    greatest-last c.args.graph.now c.args.allowed.now c.args.colour c.edges_into-first.result.0
    c.edges_into-first.result.1 (to_z w32 c.loop-edge.most-bits)
    c.edges_into-first.ensures
    (rw ended at c.loop-edge.invariant.greatest)
