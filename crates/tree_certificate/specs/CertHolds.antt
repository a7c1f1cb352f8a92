-- A certificate holds for an upper bound.
use Rattle.std.specs.Prelude.{ℕ, ℤ}
use Rattle.colour_graph.specs.EdgeSet.{all_edges}
use Rattle.colour_graph.specs.Graph.{Graph}
use Rattle.tree_certificate.specs.BoundHolds.{BoundHolds, depth_of, splits_of}
use Rattle.tree_certificate.specs.TableHolds.{TableHolds}
use Rattle.tree_certificate.specs.Value.{CertValue, a_bound, a_table}

abbrev pub CertHolds : Graph → CertValue → ℤ → Type 0
CertHolds graph (a_table rows) upper = TableHolds graph rows upper
CertHolds graph (a_bound bound) upper = BoundHolds graph (all_edges graph) bound upper

-- how many splits a certificate has, and how many stand above its deepest leaf
abbrev pub cert_splits : CertValue → ℕ
cert_splits (a_table rows) = 0
cert_splits (a_bound bound) = splits_of bound

abbrev pub cert_depth : CertValue → ℕ
cert_depth (a_table rows) = 0
cert_depth (a_bound bound) = depth_of bound
