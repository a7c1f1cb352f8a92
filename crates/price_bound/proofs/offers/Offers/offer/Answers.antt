use Rattle.std.proofs.Common.{◌≡◌, arith, refl, ◌∙◌, w64}
use Rattle.std.proofs.lemmas.Int.{ints, to_z-of_z}
use Rattle.std.proofs.lemmas.List.{with_items_is}
use Rattle.tree_certificate.specs.PriceHolds.{FitsPrices, price_total}
use Rattle.price_bound.specs.inside.Exact.{AreExactAbove, cert_with}
use Rattle.price_bound.specs.inside.Kept.{IsKept}
use Rattle.price_bound.proofs.Keeping.{AreNear-amounts, IsKept-exact, below_kept}
use Rattle.price_bound.proofs.offers.Offers.offer.Goals as goal

pub total_of-trial-requires-clause-prices_near : goal.total_of-trial-requires-clause-prices_near
total_of-trial-requires-clause-prices_near c =
    rw c.deref-then-set_potentials.ensures.value
    (AreNear-amounts c.args.self.now.trial.prices.items c.requires.offers.trial.prices)

pub total_of-trial-requires-clause-potentials_near : goal.total_of-trial-requires-clause-potentials_near
total_of-trial-requires-clause-potentials_near c =
    let new = c.set_potentials.new.potentials in
    let written = with_items_is c.args.self.now.trial.potentials new (c.set_potentials.auto.potentials
    ∙ c.deref_mut.ensures.len) in
    rw (c.deref-then-set_potentials-2.ensures.value, written)
    (AreNear-amounts new (c.set_potentials.ensures.low c.if-set_potentials.true))

pub returns-then-trial-self : goal.returns-then-trial-self
returns-then-trial-self c =
    let graph = c.args.graph.now in
    let allowed = c.args.allowed.now in
    let offers = c.requires.offers in
    let prices = c.args.self.now.trial.prices.items in
    let new = c.set_potentials.new.potentials in
    let written = with_items_is c.args.self.now.trial.potentials new (c.set_potentials.auto.potentials
    ∙ c.deref_mut.ensures.len) in
    let gains = with_items_is c.args.self.now.gains c.set_potentials.new.gains (c.set_potentials.auto.gains
    ∙ c.deref_mut-2.ensures.len) in
    let exact : AreExactAbove graph allowed (cert_with prices new) 0 =
    rw c.deref.ensures.value at (c.set_potentials.ensures.exact c.if-set_potentials.true) in
    let total_fits = to_z-of_z w64 c.total_of-trial.result (record { sfits = c.total_of-trial.type_inv }) in
    let total_is : c.total_of-trial.result ≡ price_total graph (cert_with prices new) =
    rw (c.deref-then-set_potentials.ensures.value, c.deref-then-set_potentials-2.ensures.value, written) at
    c.total_of-trial.ensures in
    let fits : FitsPrices graph (cert_with prices new) = record {
      price_count = offers.trial.fits.price_count;
      potential_count = c.set_potentials.auto.potentials ∙ c.deref_mut.ensures.len
          ∙ c.args.self.now.trial.potentials.ok.0 ∙ offers.trial.fits.potential_count;
    } in
    let kept : IsKept graph allowed c.swap.new.x =
    rw c.swap.ensures.x_after (IsKept-exact graph allowed _ prices new refl written fits
    offers.trial.prices (c.set_potentials.ensures.low c.if-set_potentials.true) exact (total_fits ∙ total_is)
    (rw total_fits (below_kept c.total_of-trial.result c.args.self.now.kept.total _
    (omega (arith, ints)) offers.kept.capped))) in
    record {
      offers = record {
        kept = kept;
        trial = rw c.swap.ensures.y_after offers.kept.room;
        gain_count = rw gains (omega (arith, c.set_potentials.auto.gains, c.deref_mut-2.ensures.len));
        clear = rw gains c.set_potentials.ensures.clear;
      };
    }

pub returns-else-trial-self : goal.returns-else-trial-self
returns-else-trial-self c =
    let graph = c.args.graph.now in
    let offers = c.requires.offers in
    let new = c.set_potentials.new.potentials in
    let written = with_items_is c.args.self.now.trial.potentials new (c.set_potentials.auto.potentials
    ∙ c.deref_mut.ensures.len) in
    let gains = with_items_is c.args.self.now.gains c.set_potentials.new.gains (c.set_potentials.auto.gains
    ∙ c.deref_mut-2.ensures.len) in
    record {
      offers = record {
        kept = offers.kept;
        trial = record {
          fits = record {
            price_count = offers.trial.fits.price_count;
            potential_count = rw written (omega (arith, c.set_potentials.auto.potentials, c.deref_mut.ensures.len));
          };
          prices = offers.trial.prices;
        };
        gain_count = rw gains (omega (arith, c.set_potentials.auto.gains, c.deref_mut-2.ensures.len));
        clear = rw gains c.set_potentials.ensures.clear;
      };
    }
