use Rattle.price_bound.proofs.Keeping.{AreNear-amounts}
use Rattle.price_bound.proofs.improving.improve.Goals as goal

pub unwrap-requires : goal.unwrap-requires
unwrap-requires c =
    let kept = c.lower_total.ensures.offers.kept in
    c.new-3.ensures.some.1 (
      AreNear-amounts c.lower_total.new.offers.kept.prices.items kept.room.prices,
      AreNear-amounts c.lower_total.new.offers.kept.potentials.items kept.potentials,
    )
