use Rattle.tree_certificate.specs.BoundHolds.{splits_of}
use Rattle.tree_certificate.specs.BoundView.{bound_value}
use Rattle.tree_certificate.proofs.bound.+splits.Given as goal

abbrev pub decreases-splits : goal.decreases-splits
decreases-splits l = splits_of (bound_value l.bound.now)
