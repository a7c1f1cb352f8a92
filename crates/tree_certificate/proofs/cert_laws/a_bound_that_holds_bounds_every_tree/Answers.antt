use Rattle.tree_certificate.proofs.BoundHolds.{bound_holds_bounds}
use Rattle.tree_certificate.proofs.cert_laws.a_bound_that_holds_bounds_every_tree.Goals as goal

pub returns : goal.returns
returns c = bound_holds_bounds
