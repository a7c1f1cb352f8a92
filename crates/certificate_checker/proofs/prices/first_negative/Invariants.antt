use Rattle.std.proofs.Common.{◌<◌, ◌≤ℤ◌, ℕ, pos}
use Rattle.tree_certificate.specs.Number.{number_in}
use Rattle.certificate_checker.proofs.prices.first_negative.Given as goal

abbrev pub invariant-loop-place : goal.invariant-loop-place
invariant-loop-place l = (earlier : ℕ) → earlier < l.place → pos 0 ≤ℤ number_in l.prices earlier
