use Rattle.std.proofs.Common.{◌≡◌, ◌≤◌, ◌<◌, ◌+ℤ◌, ◌≤ℤ◌, ◌<ℤ◌, ℕ, pos, true, false}
use Rattle.tree_certificate.specs.Number.{number_in}
use Rattle.price_bound.proofs.exact.add_gains.Given as goal

abbrev pub invariant-loop-vertex : goal.invariant-loop-vertex
invariant-loop-vertex l = record {
  done : (place : ℕ) → place < l.vertex
      → number_in l.potentials place ≡ number_in l.initial.potentials place +ℤ number_in l.initial.gains place;
  to_do : (place : ℕ) → l.vertex ≤ place → number_in l.potentials place ≡ number_in l.initial.potentials place;
  gains : (place : ℕ) → l.vertex ≤ place → number_in l.gains place ≡ number_in l.initial.gains place;
  clear : (place : ℕ) → place < l.vertex → number_in l.gains place ≡ pos 0;
  low : l.low ≡ true → (place : ℕ) → place < l.vertex → number_in l.potentials place ≤ℤ pos 1000000000000000;
  high : l.low ≡ false → (place : ℕ) × (place < l.vertex) × (pos 1000000000000000 <ℤ number_in l.potentials place);
}
