use Rattle.std.proofs.Common.{◌≡◌, ◌<◌, ℕ, ◌+ℤ◌, length}
use Rattle.tree_certificate.specs.Number.{number_in}
use Rattle.certificate_checker.proofs.gains.set_gains.Given as goal

abbrev pub invariant-loop-place : goal.invariant-loop-place
invariant-loop-place l = record {
  long : length l.gains ≡ length l.initial.gains;
  set : (place : ℕ) → place < l.place → number_in l.gains place ≡ l.weight +ℤ number_in l.numbers place;
}
