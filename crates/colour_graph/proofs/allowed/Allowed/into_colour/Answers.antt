use Rattle.std.proofs.Common.{◌≡◌, ◌+◌, ◌∙◌, ℕ, Bool, true, false, cond, ap, arith, sym}
use Rattle.colour_graph.proofs.Counting.{count_below, count_below-first, count_below-more, count_below-past}
use Rattle.colour_graph.proofs.Counting.{goes_to-row}
use Rattle.colour_graph.proofs.allowed.Allowed.into_colour.Goals as goal
use Rattle.colour_graph.proofs.allowed.Allowed.into_colour.Goals.{then-has, else-has}

-- the count after one more edge
next : (before after count : ℕ) (goes has : Bool) → count ≡ before → after ≡ before + cond goes 1 0 → goes ≡ has
    → (b : Bool) → has ≡ b → count + cond b 1 0 ≡ after
next before after count goes has is more same b here = rw (more, same, here) (ap (λ n. n + cond b 1 0) is)

pub loop-edge-init : goal.loop-edge-init
loop-edge-init c = record {
  counted = sym (count_below-first c.args.graph.now c.args.self.now c.args.colour _ _ c.edges_into-first.ensures);
  few = omega arith;
}

pub loop-edge-preserved : goal.loop-edge-preserved
loop-edge-preserved c =
    let more = count_below-more c.args.graph.now c.args.self.now c.args.colour c.loop-edge.edge in
    let row =
    goes_to-row c.args.graph.now c.args.self.now c.args.colour _ _ c.loop-edge.edge c.edges_into-first.ensures
    c.loop-edge.auto.edge c.loop-edge-test.true in
    elim c.if-has.branch [
      | then-has w ↦ rw w.count-is (record {
        counted =
            next _ _ c.loop-edge.count _ _ c.loop-edge.invariant.counted more (row ∙ sym c.has.ensures) true
            w.if-has.true;
        few = omega (arith, c.loop-edge.invariant.few);
      })
      | else-has w ↦ rw w.count-is (record {
        counted =
            omega (
              arith,
              next _ _ c.loop-edge.count _ _ c.loop-edge.invariant.counted more (row ∙ sym c.has.ensures)
                  false w.if-has.false,
            );
        few = omega (arith, c.loop-edge.invariant.few);
      })
    ]

pub returns : goal.returns
returns c =
    c.loop-edge.invariant.counted
    ∙ ap (count_below c.args.graph.now c.args.self.now c.args.colour)
    (omega (arith, c.edges_into-first.ensures.in_order))
    ∙ sym (count_below-past c.args.graph.now c.args.self.now c.args.colour _ _ c.edges_into-first.ensures)
