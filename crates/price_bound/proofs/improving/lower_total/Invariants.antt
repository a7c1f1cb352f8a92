use Rattle.price_bound.specs.inside.Kept.{AreOffers}
use Rattle.price_bound.proofs.improving.lower_total.Given as goal

abbrev pub invariant-loop : goal.invariant-loop
invariant-loop l = AreOffers l.graph l.allowed l.offers
