use Rattle.std.proofs.Common.{◌<◌, ◌≤ℤ◌, ℕ}
use Rattle.tree_certificate.specs.PriceHolds.{needed_of, potential_of}
use Rattle.certificate_checker.proofs.prices.low_potential.Given as goal

abbrev pub invariant-loop-vertex : goal.invariant-loop-vertex
invariant-loop-vertex l =
    (earlier : ℕ) → earlier < l.vertex → needed_of l.graph l.allowed l.cert earlier ≤ℤ potential_of l.cert earlier
