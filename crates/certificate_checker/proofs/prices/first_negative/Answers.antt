use Rattle.std.proofs.Common.{ap, arith, length, pos}
use Rattle.std.proofs.lemmas.List.{get_or_default}
use Rattle.certificate_checker.proofs.Gaining.{few_colours}
use Rattle.certificate_checker.proofs.prices.first_negative.Goals as goal

pub overflow_cast-result : goal.overflow_cast-result
overflow_cast-result c =
    let few = few_colours c.args.graph.now c.is_graph.ensures.colours c.requires.vertices in
    let long = ap (λ prices. length prices) c.prices-prices.ensures.prices in
    omega (arith, few, long, c.requires.fits.price_count)

pub overflow_add-result : goal.overflow_add-result
overflow_add-result c =
    let few = few_colours c.args.graph.now c.is_graph.ensures.colours c.requires.vertices in
    let long = ap (λ prices. length prices) c.prices-prices.ensures.prices in
    omega (arith, few, long, c.requires.fits.price_count)

pub returns : goal.returns
returns c = λ k d within.
    let long = ap (λ prices. length prices) c.prices-prices.ensures.prices in
    rw (get_or_default c.args.cert.now.prices k d (pos 0) within, ← c.prices-prices.ensures.prices)
    (c.loop-place.invariant k (omega (arith, long, within)))
