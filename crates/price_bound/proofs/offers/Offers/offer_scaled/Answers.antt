use Rattle.std.proofs.Common.{arith}
use Rattle.price_bound.proofs.Edges.{colours-few}
use Rattle.price_bound.proofs.offers.Offers.offer_scaled.Goals as goal

pub round-requires : goal.round-requires
round-requires c =
    let few = colours-few c.args.graph.now c.is_graph.ensures.colours in
    omega (arith, few, c.requires.vertices, c.deref_mut.ensures.len, c.requires.offers.trial.fits.price_count)
