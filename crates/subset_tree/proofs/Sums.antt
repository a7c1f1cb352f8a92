-- What the least number that is enough for a set is at least and at most, and that numbers and gains fit their type.
use Rattle.std.proofs.Common.{◌≡◌, ◌+◌, ◌*◌, ◌<◌, ◌≤◌, ◌↔◌, ℕ, ℤ, pos, negsuc, ◌+ℤ◌, ◌≤ℤ◌, Bool}
use Rattle.std.proofs.Common.{List, arith, SFits, w64}
use Rattle.std.proofs.lemmas.Int.{ints}
use Rattle.tree_certificate.specs.ColourSet.{IsPartOf, place_of, without}
use Rattle.tree_certificate.specs.Enough.{IsEnough, IsRaised}
use Rattle.tree_certificate.specs.Number.{number_in}
use Rattle.subset_tree.specs.inside.Filling.{AreGains, AreModest}
use Rattle.tree_certificate.proofs.SetParts.{place-without}

-- Numbers of a vertex and gains fit their type.
fits : (z : ℤ) (most : ℕ) → negsuc 999999999 ≤ℤ z → z ≤ℤ pos most → most < 1000000000 → SFits w64 z
fits (pos n) most low high few = record { sfits = omega (arith, ints) }
fits (negsuc n) most low high few = record { sfits = omega (arith, ints) }

pub fits-modest : (numbers : List ℤ) (place : ℕ) → AreModest numbers → place < 4096
    → SFits w64 (number_in numbers place)
fits-modest numbers place modest few = fits (number_in numbers place) (100000 * place)
    (low (number_in numbers place) (modest.not_below place)) (modest.not_above place) (omega arith)
  where
    low : (z : ℤ) → pos 0 ≤ℤ z → negsuc 999999999 ≤ℤ z
    low z is = omega (arith, ints)

pub fits-gains : (gains : List ℤ) (place : ℕ) → AreGains gains → place < 4096 → SFits w64 (number_in gains place)
fits-gains gains place near few = fits (number_in gains place) (100000 * (place + 1)) (near.not_below place)
    (near.not_above place) (omega arith)

pub raised-not_below : (more most gain rest : ℤ) → IsRaised more most gain rest → pos 0 ≤ℤ most → pos 0 ≤ℤ more
raised-not_below more most gain rest is low = joined most more low (((is more).0 (self more)).0)
  where
    self : (z : ℤ) → z ≤ℤ z
    self z = omega (arith, ints)

    joined : (most more : ℤ) → pos 0 ≤ℤ most → most ≤ℤ more → pos 0 ≤ℤ more
    joined most more low next = omega (arith, ints)

pub raised-not_above : (more most gain rest : ℤ) (place left whole : ℕ) → IsRaised more most gain rest
    → most ≤ℤ pos (100000 * (whole + 1))
    → gain ≤ℤ pos (100000 * (place + 1)) → rest ≤ℤ pos (100000 * left) → place + left ≡ whole
    → more ≤ℤ pos (100000 * (whole + 1))
raised-not_above more most gain rest place left whole is high gain_high rest_high sum =
    (is (pos (100000 * (whole + 1)))).1 (high, both gain rest place left whole gain_high rest_high sum)
  where
    both : (gain rest : ℤ) (place left whole : ℕ) → gain ≤ℤ pos (100000 * (place + 1)) → rest ≤ℤ pos (100000 * left)
        → place + left ≡ whole → (gain +ℤ rest) ≤ℤ pos (100000 * (whole + 1))
    both gain rest place left whole gain_high rest_high sum = omega (arith, ints)

-- Where nothing is gained, the number of the set is enough.
pub enough-none : (numbers gains : List ℤ) (set : List Bool) (whole : ℕ) → place_of set ≡ whole → AreModest numbers
    → whole < 4096
    → ((place : ℕ) → place ≤ whole → number_in gains place ≡ negsuc 999999999)
    → (candidate : ℤ) → (number_in numbers whole ≤ℤ candidate) ↔ IsEnough numbers gains set candidate
enough-none numbers gains set whole at modest few none candidate = (to, λ enough. rw (← at) enough.left_out)
  where
    to : number_in numbers whole ≤ℤ candidate → IsEnough numbers gains set candidate
    to low = record { left_out = rw at low; taken = taken }
      where
        taken : (part : List Bool) → IsPartOf part set
            → (number_in gains (place_of part) +ℤ number_in numbers (place_of (without set part))) ≤ℤ candidate
        taken part is_part =
            let sum = place-without set part is_part in
            rw (none (place_of part) (omega (arith, sum, at)))
            (below (number_in numbers (place_of (without set part))) (number_in numbers whole) candidate
            (place_of (without set part))
            (modest.not_above (place_of (without set part))) (modest.not_below whole) low (omega (arith, sum, at, few)))
          where
            below : (rest number candidate : ℤ) (place : ℕ) → rest ≤ℤ pos (100000 * place) → pos 0 ≤ℤ number
                → number ≤ℤ candidate → place < 4096 → (negsuc 999999999 +ℤ rest) ≤ℤ candidate
            below rest number candidate place high low is few = omega (arith, ints)
