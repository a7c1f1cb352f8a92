use Rattle.std.proofs.Common.{arith}
use Rattle.price_bound.proofs.Edges.{colours-few}
use Rattle.price_bound.proofs.improving.try_neighbours.Goals as goal
use Rattle.price_bound.proofs.improving.try_neighbours.Goals.{then-uses-colour-gt1}
use Rattle.price_bound.proofs.improving.try_neighbours.Goals.{else-uses-colour-gt1+then-uses-colour-eq0+then-price-gt0}
use Rattle.price_bound.proofs.improving.try_neighbours.Goals.{else-uses-colour-gt1+else-uses-colour-eq0}

pub scaled-prices-requires : goal.scaled-prices-requires
scaled-prices-requires c =
    let few = colours-few c.args.graph.now c.is_graph.ensures.colours in
    rw c.deref.ensures.value (omega (arith, few, c.requires.vertices, c.requires.offers.kept.room.fits.price_count))

pub bounds-uses-colour : goal.bounds-uses-colour
bounds-uses-colour c =
    let few = colours-few c.args.graph.now c.is_graph.ensures.colours in
    omega (arith, few, c.requires.vertices, c.colour_count-colour-end.ensures, c.loop-colour-test.true)

pub bounds-uses-colour-else-uses-colour-gt1 : goal.bounds-uses-colour-else-uses-colour-gt1
bounds-uses-colour-else-uses-colour-gt1 c =
    let few = colours-few c.args.graph.now c.is_graph.ensures.colours in
    omega (arith, few, c.requires.vertices, c.colour_count-colour-end.ensures, c.loop-colour-test.true)

pub loop-colour-preserved : goal.loop-colour-preserved
loop-colour-preserved c = elim c.if-uses-colour-gt1.branch [
  | then-uses-colour-gt1 w ↦ rw w.offers-is w.offer_one.ensures.offers
  | else-uses-colour-gt1+then-uses-colour-eq0+then-price-gt0 w ↦ rw w.offers-is
      w.offer_one-then-price-gt0.ensures.offers
  | else-uses-colour-gt1+else-uses-colour-eq0 w ↦ rw w.offers-is c.loop-colour.invariant
]
