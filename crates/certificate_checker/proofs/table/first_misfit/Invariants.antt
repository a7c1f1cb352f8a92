use Rattle.std.proofs.Common.{◌<◌, ℕ, map}
use Rattle.tree_certificate.specs.TableHolds.{HasRow}
use Rattle.certificate_checker.proofs.table.first_misfit.Given as goal

abbrev pub invariant-loop-vertex : goal.invariant-loop-vertex
invariant-loop-vertex l = (vertex : ℕ) → vertex < l.vertex → HasRow l.graph (map (λ row. row.items) l.rows) vertex
