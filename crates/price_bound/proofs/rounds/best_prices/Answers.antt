use Rattle.std.proofs.Common.{◌<◌, arith}
use Rattle.price_bound.proofs.rounds.best_prices.Goals as goal
use Rattle.price_bound.proofs.rounds.best_prices.Goals.{then-total-least, else-total-least}
use Rattle.price_bound.proofs.rounds.best_prices.Goals.{then-fails-eq-PATIENCE+else-reach-lt-ONE}
use Rattle.price_bound.proofs.rounds.best_prices.Goals.{else-fails-eq-PATIENCE}

pub uses-uses-requires-clause-held : goal.uses-uses-requires-clause-held
uses-uses-requires-clause-held c = elim c.if-fails-eq-PATIENCE.branch [
  | then-fails-eq-PATIENCE+else-reach-lt-ONE w ↦ rw w.potentials-is
      w.potentials-potentials-then-fails-eq-PATIENCE.ensures.held
  | else-fails-eq-PATIENCE w ↦ rw w.potentials-is c.potentials-potentials.ensures.held
]

pub loop-preserved : goal.loop-preserved
loop-preserved c =
    let counted : c.if-total-least.fails < 11 = elim c.if-total-least.branch [
      | then-total-least w ↦ omega (arith, w.fails-is)
      | else-total-least w ↦ omega (arith, w.fails-is, c.loop.invariant)
    ] in
    elim c.if-fails-eq-PATIENCE.branch [
      | then-fails-eq-PATIENCE+else-reach-lt-ONE w ↦ omega (arith, w.fails-is)
      | else-fails-eq-PATIENCE w ↦ omega (arith, w.fails-is, w.if-fails-eq-PATIENCE.false, counted)
    ]
