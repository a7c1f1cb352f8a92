use Rattle.std.proofs.Common.{◌≡◌, ◌≤◌, ◌<◌, ℕ, length}
use Rattle.tree_certificate.specs.Enough.{IsRaised}
use Rattle.tree_certificate.specs.Number.{number_in}
use Rattle.certificate_checker.specs.inside.Enough.{AreGainsBelow}
use Rattle.certificate_checker.proofs.gains.raise_gains.Given as goal

abbrev pub invariant-loop-place : goal.invariant-loop-place
invariant-loop-place l = record {
  long : length l.gains ≡ length l.initial.gains;
  raised : (place : ℕ) → place < l.place
      → IsRaised (number_in l.gains place) (number_in l.initial.gains place) l.weight (number_in l.numbers place);
  rest : (place : ℕ) → l.place ≤ place → number_in l.gains place ≡ number_in l.initial.gains place;
  near : AreGainsBelow l.gains (length l.gains);
}
