use Rattle.tree_certificate.specs.BoundHolds.{splits_of}
use Rattle.tree_certificate.specs.BoundView.{bound_value}
use Rattle.certificate_checker.proofs.bound.+check_node.Given as goal

abbrev pub decreases-check_node : goal.decreases-check_node
decreases-check_node l = splits_of (bound_value l.bound.now)
