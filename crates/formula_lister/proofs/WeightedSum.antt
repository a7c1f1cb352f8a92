-- How a sum of counts by weights grows.
use Rattle.std.proofs.Common.{◌≡◌, ℕ, zero, suc, ◌+◌, ◌*◌, ◌<◌, List, [], ◌∷◌, length, slice_index, slice_set, arith}
use Rattle.std.proofs.Common.{subst, sym}
use Rattle.element_table.specs.Formula.{weighted_sum}

-- a count at a place where there was none
pub weighted_sum-set : (xs ws : List ℕ) (k count : ℕ) → k < length xs → slice_index xs k ≡ 0
    → weighted_sum (slice_set xs k count) ws ≡ weighted_sum xs ws + count * slice_index ws k
weighted_sum-set [] ws k count h none = absurd (omega arith)
weighted_sum-set (x ∷ xs) [] zero count h none = omega arith
weighted_sum-set (x ∷ xs) [] (suc k) count h none = omega arith
weighted_sum-set (x ∷ xs) (w ∷ ws) zero count h none =
    let P : ℕ → Type 0 = λ n. count * w + weighted_sum xs ws ≡ (n * w + weighted_sum xs ws) + count * w in
    subst P (sym none) (omega arith)
weighted_sum-set (x ∷ xs) (w ∷ ws) (suc k) count h none =
    omega (arith, weighted_sum-set xs ws k count (omega arith) none)
