-- Of the definitions: worked examples.
use Rattle.std.proofs.Common.{◌≡◌, ◌+◌, ◌*◌, ◌%◌, ℕ, List, [], ◌∷◌, None, Some, arith, refl}
use Rattle.residue_table.specs.Least.{IsMember, IsSum, Least}

-- so many times 5, 8, 9 and 12
abbrev four : List ℕ
four = 5 ∷ 8 ∷ 9 ∷ 12 ∷ []

IsSum-four : (a b c d : ℕ) → IsSum four (a * 5 + (b * 8 + (c * 9 + (d * 12 + 0))))
IsSum-four a b c d = (
  a,
  b * 8 + (c * 9 + (d * 12 + 0)),
  refl,
  (b, c * 9 + (d * 12 + 0), refl, (c, d * 12 + 0, refl, (d, 0, refl, refl))),
)

-- no sum of a class is below its least one
four-from : (residue number : ℕ) → IsMember four residue 4 number → (a b c d : ℕ)
    × (number ≡ a * 5 + (b * 8 + (c * 9 + d * 12))) × (number % 5 ≡ residue)
four-from residue number member =
    let others = member.sum.3 in
    let last = others.3 in (
      member.sum.0,
      others.0,
      last.0,
      last.3.0,
      omega (arith, member.sum.2, others.2, last.2, last.3.2, last.3.3),
      member.residue_is,
    )

Least-four_0 : Least four 0 4 (Some 0)
Least-four_0 = (record { sum = IsSum-four 0 0 0 0; residue_is = refl }, λ number member. omega arith)

Least-four_1 : Least four 1 4 (Some 16)
Least-four_1 = (
  record { sum = IsSum-four 0 2 0 0; residue_is = refl },
  λ number member. let is = four-from 1 number member in omega (arith, is.4, is.5),
)

Least-four_2 : Least four 2 4 (Some 12)
Least-four_2 = (
  record { sum = IsSum-four 0 0 0 1; residue_is = refl },
  λ number member. let is = four-from 2 number member in omega (arith, is.4, is.5),
)

Least-four_3 : Least four 3 4 (Some 8)
Least-four_3 = (
  record { sum = IsSum-four 0 1 0 0; residue_is = refl },
  λ number member. let is = four-from 3 number member in omega (arith, is.4, is.5),
)

Least-four_4 : Least four 4 4 (Some 9)
Least-four_4 = (
  record { sum = IsSum-four 0 0 1 0; residue_is = refl },
  λ number member. let is = four-from 4 number member in omega (arith, is.4, is.5),
)

-- 4 and 6 have even sums alone
abbrev two : List ℕ
two = 4 ∷ 6 ∷ []

Least-two_0 : Least two 0 2 (Some 0)
Least-two_0 = (record { sum = (0, 0, refl, (0, 0, refl, refl)); residue_is = refl }, λ number member. omega arith)

Least-two_2 : Least two 2 2 (Some 6)
Least-two_2 = (
  record { sum = (0, 6, refl, (1, 0, refl, refl)); residue_is = refl },
  λ number member.
      let others = member.sum.3 in
      omega (arith, member.sum.2, others.2, others.3, member.residue_is),
)

Least-two_1 : Least two 1 2 None
Least-two_1 number member =
    let others = member.sum.3 in
    absurd (omega (arith, member.sum.2, others.2, others.3, member.residue_is))

Least-two_3 : Least two 3 2 None
Least-two_3 number member =
    let others = member.sum.3 in
    absurd (omega (arith, member.sum.2, others.2, others.3, member.residue_is))

IsSum-two_7 : IsSum two 7 → ⊥
IsSum-two_7 sum = absurd (omega (arith, sum.2, sum.3.2, sum.3.3))

IsSum-two_10 : IsSum two 10
IsSum-two_10 = (1, 6, refl, (1, 0, refl, refl))
