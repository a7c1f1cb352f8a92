use Rattle.std.proofs.Common.{◌≡◌, ◌≤◌, ◌<◌, ℕ, length}
use Rattle.tree_certificate.specs.Enough.{IsRaised}
use Rattle.tree_certificate.specs.Number.{number_in}
use Rattle.subset_tree.specs.inside.Filling.{AreGains}
use Rattle.subset_tree.proofs.table.raise_gains.Given as goal

abbrev pub invariant-loop-place : goal.invariant-loop-place
invariant-loop-place l = record {
  long : length l.gains ≡ length l.initial.gains;
  done : (place : ℕ) → place < l.place
      → IsRaised (number_in l.gains place) (number_in l.initial.gains place) l.weight (number_in l.numbers place);
  rest : (place : ℕ) → l.place ≤ place → number_in l.gains place ≡ number_in l.initial.gains place;
  near : AreGains l.gains;
}
