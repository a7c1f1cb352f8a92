use Rattle.std.proofs.Common.{◌≡◌, ◌<◌, ◌+◌, ◌+ℤ◌, ◌-ℤ◌, ℤ, slice_set, refl, arith, ap, sym, subst, ◌∙◌, length, to_z}
use Rattle.std.proofs.Common.{of_z, w32, w64}
use Rattle.std.proofs.lemmas.Bool.{false≢true}
use Rattle.std.proofs.lemmas.Int.{to_z-of_z}
use Rattle.colour_graph.specs.declared.edge.Edge.{Edge}
use Rattle.colour_graph.specs.Graph.{edge_at, head_colour}
use Rattle.colour_graph.proofs.Scores.{SFits-score}
use Rattle.tree_certificate.specs.Number.{number_in}
use Rattle.price_bound.specs.inside.Exact.{IsGainAmount, IsGreater, gain_with}
use Rattle.price_bound.proofs.Edges.{IsInto}
use Rattle.price_bound.proofs.Gaining.{AreGainsBefore, gains-last, gains-with, gains-without}
use Rattle.price_bound.proofs.Greatest.{greater-as}
use Rattle.price_bound.proofs.Numbers.{SFits-amount, SFits-gain, set-each}
use Rattle.price_bound.proofs.exact.gather_gains.Goals as goal
use Rattle.price_bound.proofs.exact.gather_gains.Goals.{then-has, else-has}

pub loop-edge-preserved : goal.loop-edge-preserved
loop-edge-preserved c =
    let graph = c.args.graph.now in
    let allowed = c.args.allowed.now in
    let edge = c.loop-edge.edge in
    let potentials = c.args.potentials.now in
    let price : ℤ = c.args.price in
    let gains = c.loop-edge.gains in
    let known = c.loop-edge.invariant in
    let price_is = to_z-of_z w64 price c.ranges.price in
    let before : AreGainsBefore graph allowed c.args.colour price potentials edge gains =
    rw price_is at known.gained in
    let in_graph : edge < length graph.edges =
    omega (arith, c.edges_into-first.ensures.within, c.loop-edge-test.true) in
    let there : head_colour graph edge ≡ c.args.colour =
    (c.edges_into-first.ensures.members edge in_graph).0 (c.loop-edge.auto.edge, c.loop-edge-test.true) in
    rw price_is (elim c.if-has.branch [
      | then-has w ↦
          let edge_is = w.edge_at-here.ensures.edge in
          let weight : ℤ = w.edge_at-here.result.weight in
          let is_edge = w.edge_at-here.ensures.is_edge in
          let tail_is : w.from-tail.result ≡ (edge_at graph edge).tail = w.from-tail.ensures
          ∙ ap (λ (e : Edge). e.tail) edge_is in
          let head_is : w.from.result ≡ (edge_at graph edge).head = w.from.ensures
          ∙ ap (λ (e : Edge). e.head) edge_is in
          let weight_is : to_z w32 (of_z w32 weight) ≡ (edge_at graph edge).weight =
          to_z-of_z w32 weight (SFits-score weight is_edge.weight) ∙ ap (λ (e : Edge). e.weight) edge_is in
          let potential_is = to_z-of_z w64 (number_in potentials w.from.result)
          (SFits-amount (number_in potentials w.from.result) (c.requires.potentials w.from.result)) in
          let gain_is = to_z-of_z w64 (number_in gains w.from-tail.result)
          (SFits-gain (number_in gains w.from-tail.result) (known.near w.from-tail.result)) in
          let more_is = to_z-of_z w64 w.raised.result (record { sfits = w.raised.type_inv }) in
          let is : IsInto graph allowed c.args.colour edge =
          record { within = in_graph; in_set = sym c.has.ensures ∙ w.if-has.true; there = there } in
          let in_gains : w.from-tail.result < length gains =
          omega (arith, w.from-tail.ensures, is_edge.tail, c.requires.gain_count, c.loop-edge.auto.gains) in
          let number_is : (to_z w32 (of_z w32 weight) -ℤ to_z w64 (of_z w64 price)) +ℤ to_z w64
          (of_z w64 (number_in potentials w.from.result)) ≡ gain_with graph price potentials edge =
          rw (weight_is, price_is, potential_is)
          (ap (λ h. ((edge_at graph edge).weight -ℤ price) +ℤ number_in potentials h) head_is) in
          let greater : IsGreater w.raised.result (number_in gains w.from-tail.result)
          (gain_with graph price potentials edge) =
          greater-as _ _ _ _ _ _ refl gain_is number_is w.raised.ensures.greater in
          rw (w.gains-is, more_is) (record {
            gained = subst (λ t. AreGainsBefore graph allowed c.args.colour price potentials (edge + 1)
                (slice_set gains t w.raised.result)) (sym tail_is)
                (gains-with graph allowed c.args.colour edge price w.raised.result potentials gains is
                (rw tail_is at in_gains) (rw tail_is at greater) before);
            near = set-each IsGainAmount gains w.from-tail.result w.raised.result in_gains known.near
                w.raised.ensures.near;
          })
      | else-has w ↦ rw w.gains-is (record {
        gained = gains-without graph allowed c.args.colour edge price potentials gains
            (λ is. false≢true (sym w.if-has.false ∙ c.has.ensures ∙ is)) before;
        near = known.near;
      })
    ])

pub returns-clause-gains : goal.returns-clause-gains
returns-clause-gains c =
    let last : c.loop-edge.edge ≡ c.edges_into-first.result.1 = omega (arith, c.edges_into-first.ensures.in_order) in
    let price_is = to_z-of_z w64 c.args.price c.ranges.price in
    gains-last c.args.graph.now c.args.allowed.now c.args.colour c.edges_into-first.result.0 c.edges_into-first.result.1
    c.args.price c.args.potentials.now c.loop-edge.gains
    c.edges_into-first.ensures (rw (price_is, last) at c.loop-edge.invariant.gained)
