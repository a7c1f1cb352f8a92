use Rattle.std.proofs.Common.{arith}
use Rattle.price_bound.proofs.Edges.{colours-few}
use Rattle.price_bound.proofs.improving.lower_total.Goals as goal

pub scaled-requires : goal.scaled-requires
scaled-requires c =
    let few = colours-few c.args.graph.now c.is_graph.ensures.colours in
    rw c.deref.ensures.value (omega (arith, few, c.requires.vertices, c.requires.offers.kept.room.fits.price_count))

pub best_prices-best-requires-clause-colours : goal.best_prices-best-requires-clause-colours
best_prices-best-requires-clause-colours c =
    let few = colours-few c.args.graph.now c.is_graph.ensures.colours in
    omega (arith, few, c.requires.vertices, c.colour_count.ensures)
