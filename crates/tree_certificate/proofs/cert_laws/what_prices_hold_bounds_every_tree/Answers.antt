use Rattle.tree_certificate.proofs.PriceHolds.{prices_hold_bounds}
use Rattle.tree_certificate.proofs.cert_laws.what_prices_hold_bounds_every_tree.Goals as goal

pub returns : goal.returns
returns c = prices_hold_bounds
