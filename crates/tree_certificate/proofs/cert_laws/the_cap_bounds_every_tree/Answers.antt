use Rattle.tree_certificate.proofs.Caps.{cap_bounds}
use Rattle.tree_certificate.proofs.cert_laws.the_cap_bounds_every_tree.Goals as goal

pub returns : goal.returns
returns c = cap_bounds
