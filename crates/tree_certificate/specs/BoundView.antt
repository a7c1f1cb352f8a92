-- A bound as a plain value.
use Rattle.std.specs.Prelude.{[]}
use Rattle.tree_certificate.specs.declared.bound.Bound.{Bound, Priced, Split', Row_of-Bound, end_of-Bound}
use Rattle.tree_certificate.specs.declared.bound.Bound.{more_of-Bound}
use Rattle.tree_certificate.specs.BoundValue.{BoundValue, priced, split}

abbrev mutual
  pub bound_value : Bound → BoundValue
  bound_value (Priced cert) = priced cert
  bound_value (Split' colour part left first right second) = split colour part (first_of first) (first_of second)

  first_of : {m : _} → Row_of-Bound m → BoundValue
  first_of end_of-Bound = priced (record { prices = []; potentials = [] })
  first_of (more_of-Bound bound rest) = bound_value bound
