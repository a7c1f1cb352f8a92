use Rattle.price_bound.specs.inside.Kept.{AreOffers}
use Rattle.price_bound.proofs.improving.try_neighbours.Given as goal

abbrev pub invariant-loop-colour : goal.invariant-loop-colour
invariant-loop-colour l = AreOffers l.graph l.allowed l.offers
