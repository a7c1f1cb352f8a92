use Rattle.tree_certificate.proofs.CertHolds.{cert_bounds}
use Rattle.tree_certificate.proofs.cert_laws.what_holds_bounds_every_tree.Goals as goal

pub returns : goal.returns
returns c = cert_bounds
