use Rattle.std.proofs.Common.{◌≡◌, ◌≤◌, ◌<◌, ◌+◌, ◌*◌, ◌↔◌, ℕ, ℤ, ◌≤ℤ◌, List, Bool, length}
use Rattle.tree_certificate.specs.Enough.{IsEnough}
use Rattle.tree_certificate.specs.Number.{number_in}
use Rattle.subset_tree.specs.inside.Filling.{AreModest}
use Rattle.tree_certificate.specs.ColourSet.{place_of}
use Rattle.subset_tree.proofs.table.widen.Given as goal

abbrev pub invariant-loop-set : goal.invariant-loop-set
invariant-loop-set l = record {
  within : l.set ≤ length l.gains;
  long : length l.numbers ≡ length l.initial.numbers;
  modest : AreModest l.numbers;
  below : (place : ℕ) → place < l.set → number_in l.numbers place ≡ number_in l.initial.numbers place;
  kept : (place : ℕ) → l.set ≤ place → place < length l.gains
      → number_in l.numbers (2 * place) ≡ number_in l.initial.numbers place;
  grown : (set : List Bool) → l.set ≤ place_of set → place_of set < length l.gains → (candidate : ℤ)
      → (number_in l.numbers (1 + 2 * place_of set) ≤ℤ candidate) ↔ IsEnough l.initial.numbers l.gains set candidate;
}

abbrev pub decreases-loop-set : goal.decreases-loop-set
decreases-loop-set l = l.set
