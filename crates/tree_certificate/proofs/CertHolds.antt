-- A certificate that holds bounds the scores of all colourful lists of edges.
use Rattle.std.proofs.Common.{ℤ}
use Rattle.colour_graph.specs.Bounded.{IsBounded}
use Rattle.colour_graph.specs.EdgeSet.{all_edges}
use Rattle.colour_graph.specs.Graph.{Graph, IsGraph}
use Rattle.tree_certificate.specs.CertHolds.{CertHolds}
use Rattle.tree_certificate.specs.Value.{CertValue, a_bound, a_table}
use Rattle.tree_certificate.proofs.BoundHolds.{bound_holds_bounds}
use Rattle.tree_certificate.proofs.Tables.{table_bounds}

pub cert_bounds : (graph : Graph) (cert : CertValue) (upper : ℤ) → IsGraph graph → CertHolds graph cert upper
    → IsBounded graph (all_edges graph) upper
cert_bounds graph (a_table rows) upper is holds = table_bounds graph rows upper is holds
cert_bounds graph (a_bound bound) upper is holds = bound_holds_bounds graph (all_edges graph) bound upper is holds
