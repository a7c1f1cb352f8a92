-- Integers that fit a narrower type.
use Rattle.std.proofs.Common.{◌≡◌, ◌≤ℤ◌, ℤ, pos, negsuc, T, refl, arith, w16, w32, w64, Fits, FitsSigned, nat_abs, to_z}
use Rattle.std.proofs.Common.{of_z}
use Rattle.std.proofs.lemmas.Int.{to_z-of_z, ints}
use Rattle.std.specs.Int.Signed.{non_neg, yes_non_neg}
use Rattle.element_table.specs.Rule.{IsNearZero}
use Rattle.score_tables.specs.Tables.{greatest_score}
use Rattle.profile.specs.Values.{as_count}

pub fits_narrow : (z : ℤ) → negsuc 999999 ≤ℤ z → z ≤ℤ pos 1000000 → FitsSigned w32 z
fits_narrow z low high = omega (arith, ints)

pub narrowed : (z : ℤ) → FitsSigned w64 z → FitsSigned w32 z → to_z w32 (of_z w32 (to_z w64 (of_z w64 z))) ≡ z
narrowed z wide narrow = simp to_z-of_z

pub fits_narrowed : (z : ℤ) → FitsSigned w64 z → FitsSigned w32 z → FitsSigned w32 (to_z w64 (of_z w64 z))
fits_narrowed z wide narrow = rw to_z-of_z narrow

as_count-is : (z : ℤ) → pos 0 ≤ℤ z → nat_abs z ≡ as_count z
as_count-is (pos n) low = refl
as_count-is (negsuc n) low = absurd (omega (arith, ints, low))

-- the count of an integer that is not negative, by a cast
pub counted : (z : ℤ) → FitsSigned w64 z → pos 0 ≤ℤ z → nat_abs (to_z w64 (of_z w64 z)) ≡ as_count z
counted z wide low = rw to_z-of_z (as_count-is z low)

-- an integer from 0 on
abbrev pub IsCount : ℤ → Type 0
IsCount z = T (non_neg (to_z w64 (of_z w64 z)))

pub is_count : (z : ℤ) → FitsSigned w64 z → pos 0 ≤ℤ z → IsCount z
is_count z wide low = rw to_z-of_z (yes_non_neg low)

pub fits_16 : (z : ℤ) → FitsSigned w64 z → pos 0 ≤ℤ z → z ≤ℤ pos 1999
    → IsCount z × Fits w16 (nat_abs (to_z w64 (of_z w64 z)))
fits_16 z wide low high = (is_count z wide low, rw to_z-of_z (omega (arith, ints, low, high)))

pub fits_32 : (z : ℤ) → FitsSigned w64 z → pos 0 ≤ℤ z → z ≤ℤ pos 2000000
    → IsCount z × Fits w32 (nat_abs (to_z w64 (of_z w64 z)))
fits_32 z wide low high = (is_count z wide low, rw to_z-of_z (omega (arith, ints, low, high)))

-- a score fits 16 bits
pub fits_score : (z : ℤ) → FitsSigned w64 z → IsNearZero greatest_score z → FitsSigned w16 (to_z w64 (of_z w64 z))
fits_score z wide near = rw to_z-of_z (omega (arith, ints, near.0, near.1))

pub narrowed_score : (z : ℤ) → FitsSigned w64 z → IsNearZero greatest_score z
    → to_z w16 (of_z w16 (to_z w64 (of_z w64 z))) ≡ z
narrowed_score z wide near =
    let narrow : FitsSigned w16 z = omega (arith, ints, near.0, near.1) in
    simp to_z-of_z

-- a bound, and a size
pub fits_bound : (z : ℤ) → FitsSigned w64 z → pos 0 ≤ℤ z → z ≤ℤ pos 1000
    → IsCount z × Fits w16 (nat_abs (to_z w64 (of_z w64 z)))
fits_bound z wide low high = (is_count z wide low, rw to_z-of_z (omega (arith, ints, low, high)))

pub fits_size : (z : ℤ) → FitsSigned w64 z → pos 10000000 ≤ℤ z → z ≤ℤ pos 1000000000
    → IsCount z × Fits w32 (nat_abs (to_z w64 (of_z w64 z)))
fits_size z wide low high =
    let not_negative : pos 0 ≤ℤ z = omega (arith, ints, low) in
    (is_count z wide not_negative, rw to_z-of_z (omega (arith, ints, low, high)))
