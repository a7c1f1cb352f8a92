-- How sums of masses are made of others.
use Rattle.std.proofs.Common.{◌≡◌, ◌<◌, ◌+◌, ◌*◌, ℕ, suc, List, [], ◌∷◌, ◌++◌, length, slice_index, take}
use Rattle.std.proofs.Common.{arith, refl, sym}
use Rattle.std.proofs.Math.Nat.{add-mul}
use Rattle.std.proofs.Math.Seq.{take-suc}
use Rattle.residue_table.specs.Least.{IsSum}

-- more of the first mass
pub IsSum-more_of_first : (mass : ℕ) (masses : List ℕ) (number more : ℕ) → IsSum (mass ∷ masses) number
    → IsSum (mass ∷ masses) (number + more * mass)
IsSum-more_of_first mass masses number more sum =
    (sum.0 + more, sum.1, omega (arith, sum.2, add-mul sum.0 more mass), sum.3)

-- one mass more at the end
pub IsSum-push : (masses : List ℕ) (mass count rest : ℕ) → IsSum masses rest
    → IsSum (masses ++ mass ∷ []) (count * mass + rest)
IsSum-push [] mass count rest sum = (count, 0, omega (arith, sum), refl)
IsSum-push (first ∷ masses) mass count rest sum =
    (sum.0, count * mass + sum.1, omega (arith, sum.2), IsSum-push masses mass count sum.1 sum.3)

-- and one less
pub IsSum-pop : (masses : List ℕ) (mass number : ℕ) → IsSum (masses ++ mass ∷ []) number
    → (count : ℕ) × (rest : ℕ) × (number ≡ count * mass + rest) × IsSum masses rest
IsSum-pop [] mass number sum = (sum.0, 0, omega (arith, sum.2, sum.3), refl)
IsSum-pop (first ∷ masses) mass number sum =
    let others = IsSum-pop masses mass sum.1 sum.3 in (
      others.0,
      sum.0 * first + others.1,
      omega (arith, sum.2, others.2),
      (sum.0, others.1, refl, others.3),
    )

-- the first masses, and the next one
pub take-next : (masses : List ℕ) (places : ℕ) → places < length masses
    → take (places + 1) masses ≡ take places masses ++ slice_index masses places ∷ []
take-next masses places below = rw (sym (arith_one places)) (take-suc masses places 0 below)
  where
    arith_one : (n : ℕ) → suc n ≡ n + 1
    arith_one n = omega arith
