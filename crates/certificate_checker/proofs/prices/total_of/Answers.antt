use Rattle.std.proofs.Common.{ap, arith, length}
use Rattle.certificate_checker.proofs.Gaining.{few_colours}
use Rattle.certificate_checker.proofs.prices.total_of.Goals as goal

pub sum_of-requires-clause-few : goal.sum_of-requires-clause-few
sum_of-requires-clause-few c =
    let few = few_colours c.args.graph.now c.is_graph.ensures.colours c.requires.vertices in
    let long = ap (λ prices. length prices) c.prices.ensures.prices in
    omega (arith, few, long, c.requires.fits.price_count)
