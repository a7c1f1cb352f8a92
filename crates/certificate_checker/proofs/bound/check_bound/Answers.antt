use Rattle.std.proofs.Common.{of_z, to_z, w64}
use Rattle.std.proofs.lemmas.Int.{to_z-of_z}
use Rattle.colour_graph.specs.EdgeSet.{all_edges}
use Rattle.tree_certificate.specs.BoundView.{bound_value}
use Rattle.certificate_checker.proofs.BoundVerdicts.{exactly_from}
use Rattle.certificate_checker.proofs.bound.check_bound.Goals as goal

pub returns-clause-exactly : goal.returns-clause-exactly
returns-clause-exactly c =
    exactly_from c.args.graph.now c.in_ok-allowed.allowed (all_edges c.args.graph.now) (bound_value c.args.bound.now)
    (to_z w64 (of_z w64 c.args.upper))
    c.args.upper c.check_node.result c.in_ok-allowed.ensures.all
    (to_z-of_z w64 c.args.upper c.ranges.upper) c.check_node.ensures.verdict
