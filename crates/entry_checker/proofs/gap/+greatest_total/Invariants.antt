use Rattle.tree_certificate.specs.BoundHolds.{splits_of}
use Rattle.tree_certificate.specs.BoundView.{bound_value}
use Rattle.entry_checker.proofs.gap.+greatest_total.Given as goal

abbrev pub decreases-greatest_total : goal.decreases-greatest_total
decreases-greatest_total l = splits_of (bound_value l.bound.now)
