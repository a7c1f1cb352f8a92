use Rattle.tree_certificate.specs.BoundHolds.{splits_of}
use Rattle.tree_certificate.specs.BoundView.{bound_value}
use Rattle.entry_checker.proofs.gap.+look_at.Given as goal

abbrev pub decreases-look_at : goal.decreases-look_at
decreases-look_at l = splits_of (bound_value l.bound.now)
