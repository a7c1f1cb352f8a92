-- How often a number is in another, by its inverse.
use Rattle.std.proofs.Common.{◌≡◌, ◌≤◌, ◌<◌, ◌+◌, ◌*◌, ◌/◌, ◌^◌, ℕ, inl, inr, refl, arith}
use Rattle.std.proofs.lemmas.Bool.{cases_lt}
use Rattle.std.proofs.Math.Nat.{mul-le-mul_right}
use Rattle.formula_lister.specs.inside.Dividing.{IsInverse}

-- a share of the whole times the inverse is not too great
share_not_more : (dividend number inverse share whole : ℕ) → 0 < whole → inverse * number < whole
    → share * whole ≤ dividend * inverse → share * number ≤ dividend
share_not_more dividend number inverse share whole some not_more is = elim (cases_lt dividend (share * number)) [
  | inl more ↦
      let one_more : dividend + 1 ≤ share * number = omega arith in
      let small : inverse * number ≤ whole = omega arith in
      absurd (omega (
        arith,
        some,
        mul-le-mul_right whole one_more,
        mul-le-mul_right number is,
        mul-le-mul_right dividend small,
      ))
  | inr not ↦ omega arith
]

-- and is too small by one at most
share_not_less : (dividend number inverse share whole : ℕ) → 0 < number → dividend < whole
    → whole ≤ inverse * number + number → dividend * inverse < share * whole + whole → dividend < share * number + number + number
share_not_less dividend number inverse share whole some fits not_less is =
    elim (cases_lt dividend (share * number + number + number)) [
      | inl less ↦ less
      | inr more ↦
          let enough : share * number + number + number ≤ dividend = omega arith in
          let next : dividend * inverse + 1 ≤ share * whole + whole = omega arith in
          let below : dividend ≤ whole = omega arith in
          let left = mul-le-mul_right whole enough in
          let product = mul-le-mul_right number next in
          let lower = mul-le-mul_right dividend not_less in
          let scaled = mul-le-mul_right number below in
          absurd (omega (arith, some, left, product, lower, scaled))
    ]

-- the product of the shares says it, or one less
pub quotient_within : (dividend number inverse wide wider : ℕ) → wide ≡ dividend → wider ≡ inverse → dividend < 2 ^ 64
    → IsInverse number inverse
    → (wide * wider / 18446744073709551616 * number ≤ dividend)
    × (dividend < wide * wider / 18446744073709551616 * number + number + number)
quotient_within dividend number inverse wide wider e f fits is =
    let share = wide * wider / 18446744073709551616 in
    let product : wide * wider ≡ dividend * inverse = rw (e, f) refl in (
      share_not_more dividend number inverse share 18446744073709551616 (omega arith) is.not_more
          (omega (arith, product)),
      share_not_less dividend number inverse share 18446744073709551616 is.some fits is.not_less
          (omega (arith, product)),
    )
