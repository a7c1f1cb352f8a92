use Rattle.std.proofs.Common.{◌≡◌, ◌<◌, ◌*◌, ℕ, length}
use Rattle.tree_certificate.specs.Number.{number_in}
use Rattle.certificate_checker.proofs.gains.copy_numbers.Given as goal

abbrev pub invariant-loop-place : goal.invariant-loop-place
invariant-loop-place l = record {
  long : length l.own ≡ length l.initial.own;
  copied : (place : ℕ) → place < l.place → number_in l.own place ≡ number_in l.row (l.step * place);
}
