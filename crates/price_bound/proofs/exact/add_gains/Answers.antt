use Rattle.std.proofs.Common.{◌≡◌, ◌<◌, ◌+ℤ◌, ◌≤ℤ◌, ℤ, pos, length, arith, refl, to_z, of_z, w64, ap, sym, ◌∙◌}
use Rattle.std.proofs.lemmas.Bool.{true≢false}
use Rattle.std.proofs.lemmas.Int.{ints, to_z-of_z}
use Rattle.tree_certificate.specs.Number.{number_in}
use Rattle.price_bound.proofs.Numbers.{SFits-amount, SFits-gain, number_in-other, number_in-same, set-above, set-below}
use Rattle.price_bound.proofs.exact.add_gains.Goals as goal
use Rattle.price_bound.proofs.exact.add_gains.Goals.{then-sum-gt-GREATEST, else-sum-gt-GREATEST}

pub loop-vertex-preserved : goal.loop-vertex-preserved
loop-vertex-preserved c =
    let vertex = c.loop-vertex.vertex in
    let known = c.loop-vertex.invariant in
    let old = c.args.potentials.now in
    let gains = c.args.gains.now in
    let sum : ℤ = c.added-sum.result in
    let in_potentials : vertex < length c.loop-vertex.potentials = omega (arith, c.loop-vertex.auto.potentials) in
    let in_gains : vertex < length c.loop-vertex.gains =
    omega (arith, c.loop-vertex.auto.gains, c.requires.same_length) in
    let here : number_in c.loop-vertex.potentials vertex ≡ number_in old vertex = known.to_do vertex (omega arith) in
    let gain_here : number_in c.loop-vertex.gains vertex ≡ number_in gains vertex = known.gains vertex (omega arith) in
    let fits = SFits-amount (number_in c.loop-vertex.potentials vertex) (rw here (c.requires.potentials vertex)) in
    let gain_fits = SFits-gain (number_in c.loop-vertex.gains vertex) (rw gain_here (c.requires.gains vertex)) in
    let sum_is : sum ≡ number_in old vertex +ℤ number_in gains vertex =
    c.added-sum.ensures
    ∙ ap (λ n. n +ℤ to_z w64 (of_z w64 (number_in c.loop-vertex.gains vertex)))
    (to_z-of_z w64 (number_in c.loop-vertex.potentials vertex) fits ∙ here)
    ∙ ap (λ n. number_in old vertex +ℤ n) (to_z-of_z w64 (number_in c.loop-vertex.gains vertex) gain_fits
    ∙ gain_here) in
    let same : to_z w64 (of_z w64 sum) ≡ sum = to_z-of_z w64 sum (record { sfits = c.added-sum.type_inv }) in
    rw same (record {
      done = set-below (λ p n. n ≡ number_in old p +ℤ number_in gains p) c.loop-vertex.potentials vertex sum
          in_potentials known.done sum_is;
      to_do = set-above (λ p n. n ≡ number_in old p) c.loop-vertex.potentials vertex sum known.to_do;
      gains = set-above (λ p n. n ≡ number_in gains p) c.loop-vertex.gains vertex (pos 0) known.gains;
      clear = set-below (λ p n. n ≡ pos 0) c.loop-vertex.gains vertex (pos 0) in_gains known.clear refl;
      low = elim c.if-sum-gt-GREATEST.branch [
        | then-sum-gt-GREATEST w ↦ λ is. absurd (true≢false (sym is ∙ w.low-is))
        | else-sum-gt-GREATEST w ↦ λ is. set-below (λ p n. n ≤ℤ pos 1000000000000000) c.loop-vertex.potentials vertex
            sum in_potentials (known.low (sym w.low-is ∙ is)) (omega (arith, ints, w.if-sum-gt-GREATEST.false))
      ];
      high = elim c.if-sum-gt-GREATEST.branch [
        | then-sum-gt-GREATEST w ↦ λ is. (
          vertex,
          omega arith,
          rw (number_in-same c.loop-vertex.potentials vertex sum in_potentials)
              (omega (arith, ints, w.if-sum-gt-GREATEST.true)),
        )
        | else-sum-gt-GREATEST w ↦ λ is.
            let before = known.high (sym w.low-is ∙ is) in (
              before.0,
              omega (arith, before.1),
              rw (number_in-other c.loop-vertex.potentials vertex before.0 sum (λ at. omega (arith, at, before.1)))
                  before.2,
            )
      ];
    })
