-- Of IsLeastEnough: the part of a set that a head may need, and a set where nothing is gained.
use Rattle.std.proofs.Common.{◌≡◌, ◌<◌, ◌↔◌, ℕ, ℤ, pos, negsuc, ◌+ℤ◌, ◌≤ℤ◌, Bool, List, subst, arith, bit_and}
use Rattle.std.proofs.lemmas.Int.{ints}
use Rattle.tree_certificate.specs.ColourSet.{IsPartOf, place_of, without}
use Rattle.tree_certificate.specs.Enough.{IsEnough, UsefulPart}
use Rattle.tree_certificate.specs.Number.{number_in}
use Rattle.tree_certificate.proofs.SetParts.{place-without}
use Rattle.certificate_checker.specs.inside.Enough.{AreNoGains, AreNumbersBelow, AreUseful}

-- the part of a set that a head may need
abbrev pub part_at : (numbers gains : List ℤ) (count useful whole : ℕ) → AreUseful numbers gains count useful
    → whole < count
    → (set : List Bool) → place_of set ≡ whole → UsefulPart numbers gains set (bit_and whole useful)
part_at numbers gains count useful whole are within set at =
    subst (λ w. UsefulPart numbers gains set (bit_and w useful)) at (are set (rw at within))

-- Where nothing is gained, the number of the set is enough.
pub enough-none : (own gains : List ℤ) (set : List Bool) (whole count : ℕ) → place_of set ≡ whole → whole < count
    → AreNumbersBelow own count → AreNoGains gains count
    → (candidate : ℤ) → (number_in own whole ≤ℤ candidate) ↔ IsEnough own gains set candidate
enough-none own gains set whole count at within near none candidate = (to, λ enough. rw (← at) enough.left_out)
  where
    to : number_in own whole ≤ℤ candidate → IsEnough own gains set candidate
    to low = record { left_out = rw at low; taken = taken }
      where
        taken : (part : List Bool) → IsPartOf part set
            → (number_in gains (place_of part) +ℤ number_in own (place_of (without set part))) ≤ℤ candidate
        taken part is_part =
            let sum = place-without set part is_part in
            rw (none (place_of part) (omega (arith, sum, at)))
            (below (number_in own (place_of (without set part))) (number_in own whole) candidate
            ((near (place_of (without set part)) (omega (arith, sum, at))).not_above)
            ((near whole within).not_below) low)
          where
            below : (rest number candidate : ℤ) → rest ≤ℤ pos 1000000000000000 → negsuc 999999999999999 ≤ℤ number
                → number ≤ℤ candidate → (negsuc 1999999999999999 +ℤ rest) ≤ℤ candidate
            below rest number candidate high low is = omega (arith, ints)
