use Rattle.std.proofs.Common.{◌≡◌, ◌-◌, ◌+ℤ◌, arith, ap, ◌∙◌, to_z, of_z, w64}
use Rattle.std.proofs.lemmas.Int.{to_z-of_z}
use Rattle.tree_certificate.specs.Number.{number_in}
use Rattle.price_bound.proofs.Adding.{exact-more}
use Rattle.price_bound.proofs.Edges.{colours-few}
use Rattle.price_bound.proofs.Numbers.{SFits-amount}
use Rattle.price_bound.proofs.exact.set_potentials.Goals as goal

pub overflow_cast-colour : goal.overflow_cast-colour
overflow_cast-colour c =
    let colours = c.is_graph.ensures.colours in
    omega (arith, colours-few c.args.graph.now colours, colours.few, c.colour_count-colour.ensures)

pub returns-then-not-add_gains-clause-high : goal.returns-then-not-add_gains-clause-high
returns-then-not-add_gains-clause-high c = λ is.
    let graph = c.args.graph.now in
    let prices = c.args.prices.now in
    let before = c.loop-colour.colour - 1 in
    let high = c.add_gains.ensures.high c.if-not-add_gains.true in
    let price_is : to_z w64 (of_z w64 (number_in prices (c.from.result - 1))) ≡ number_in prices before =
    to_z-of_z w64 (number_in prices (c.from.result - 1))
    (SFits-amount (number_in prices (c.from.result - 1)) (c.requires.prices (c.from.result - 1)))
    ∙ ap (λ n. number_in prices (n - 1)) c.from.ensures in
    let gains = rw price_is at c.gather_gains.ensures.gains in
    record {
      potentials = c.add_gains.new.potentials;
      colour = before;
      vertex = high.0;
      counted = omega (arith, c.loop-colour.invariant.counted);
      within = omega (
        arith,
        high.1,
        c.requires.potential_count,
        c.loop-colour.auto.potentials,
        c.add_gains.auto.potentials,
      );
      exact = exact-more graph c.args.allowed.now prices c.loop-colour.potentials c.add_gains.new.potentials
          c.loop-colour.colour before
          c.is_graph.ensures (omega arith) c.loop-colour.invariant.counted
          (λ v within. c.add_gains.ensures.added v
          ∙ ap (λ n. number_in c.loop-colour.potentials v +ℤ n) (gains v within)) c.loop-colour.invariant.exact;
      high = high.2;
    }

pub loop-colour-preserved : goal.loop-colour-preserved
loop-colour-preserved c =
    let graph = c.args.graph.now in
    let prices = c.args.prices.now in
    let before = c.loop-colour.colour - 1 in
    let price_is : to_z w64 (of_z w64 (number_in prices (c.from.result - 1))) ≡ number_in prices before =
    to_z-of_z w64 (number_in prices (c.from.result - 1))
    (SFits-amount (number_in prices (c.from.result - 1)) (c.requires.prices (c.from.result - 1)))
    ∙ ap (λ n. number_in prices (n - 1)) c.from.ensures in
    let gains = rw price_is at c.gather_gains.ensures.gains in
    record {
      counted = omega (arith, c.loop-colour.invariant.counted);
      exact = exact-more graph c.args.allowed.now prices c.loop-colour.potentials c.add_gains.new.potentials
          c.loop-colour.colour before
          c.is_graph.ensures (omega arith) c.loop-colour.invariant.counted
          (λ v within. c.add_gains.ensures.added v
          ∙ ap (λ n. number_in c.loop-colour.potentials v +ℤ n) (gains v within)) c.loop-colour.invariant.exact;
      low = c.add_gains.ensures.low c.if-not-add_gains.false;
      clear = c.add_gains.ensures.clear;
    }
