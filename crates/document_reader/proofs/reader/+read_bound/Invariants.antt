use Rattle.std.proofs.Common.{◌-◌}
use Rattle.tree_certificate.specs.BoundHolds.{greatest_depth}
use Rattle.document_reader.proofs.reader.+read_bound.Given as goal

abbrev pub decreases-read_bound : goal.decreases-read_bound
decreases-read_bound l = greatest_depth - l.under
