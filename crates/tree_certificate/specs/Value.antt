-- What a certificate is, as a plain value.
use Rattle.std.specs.Prelude.{ℤ, List}
use Rattle.tree_certificate.specs.declared.cert.Cert.{Cert}
use Rattle.tree_certificate.specs.declared.cert.Cert.TheVariants.{Bounds, Table}
use Rattle.tree_certificate.specs.BoundValue.{BoundValue}
use Rattle.tree_certificate.specs.BoundView.{bound_value}

-- what shows an upper bound: a table, with a row for each vertex; or a bound by prices and splits
pub data CertValue : Type 0 where
  a_table : List (List ℤ) → CertValue
  a_bound : BoundValue → CertValue

abbrev pub cert_of : Cert → CertValue
cert_of (Table rows) = a_table rows
cert_of (Bounds bound) = a_bound (bound_value bound)
