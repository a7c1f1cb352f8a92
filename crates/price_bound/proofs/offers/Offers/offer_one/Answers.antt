use Rattle.std.proofs.Common.{◌≡◌, ℤ, arith, ◌∙◌, length, to_z, of_z, w64}
use Rattle.std.proofs.lemmas.Int.{ints, to_z-of_z}
use Rattle.std.proofs.lemmas.List.{length-set}
use Rattle.colour_graph.specs.Graph.{colour_count}
use Rattle.price_bound.specs.inside.Exact.{AreAmounts, IsAmount}
use Rattle.price_bound.proofs.Numbers.{set-each}
use Rattle.price_bound.proofs.offers.Offers.offer_one.Goals as goal

pub offer-requires-clause-offers : goal.offer-requires-clause-offers
offer-requires-clause-offers c =
    let offers = c.requires.offers in
    let price : ℤ = c.clamp.result in
    let price_is : to_z w64 (of_z w64 price) ≡ price = to_z-of_z w64 price (record { sfits = c.clamp.type_inv }) in
    let copied : c.copy_from_slice.new.self.items ≡ c.args.self.now.kept.prices.items = c.copy_from_slice.ensures.items
    ∙ c.deref.ensures.value in
    let amounts : AreAmounts c.copy_from_slice.new.self.items = rw copied offers.kept.room.prices in
    let long : length c.copy_from_slice.new.self.items ≡ colour_count c.args.graph.now =
    rw copied offers.kept.room.fits.price_count in
    let is : IsAmount price = record {
      not_below = omega (arith, ints, c.clamp.ensures.lower_bound);
      not_above = omega (arith, ints, c.clamp.ensures.upper_bound);
    } in
    rw price_is (record {
      kept = offers.kept;
      trial = record {
        fits = record {
          price_count = length-set c.copy_from_slice.new.self.items c.args.colour price ∙ long;
          potential_count = offers.trial.fits.potential_count;
        };
        prices = set-each IsAmount c.copy_from_slice.new.self.items c.args.colour price
            (rw long c.requires.colour) amounts is;
      };
      gain_count = offers.gain_count;
      clear = offers.clear;
    })
