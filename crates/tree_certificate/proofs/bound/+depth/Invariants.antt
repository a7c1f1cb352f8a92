use Rattle.tree_certificate.specs.BoundHolds.{splits_of}
use Rattle.tree_certificate.specs.BoundView.{bound_value}
use Rattle.tree_certificate.proofs.bound.+depth.Given as goal

abbrev pub decreases-depth : goal.decreases-depth
decreases-depth l = splits_of (bound_value l.bound.now)
