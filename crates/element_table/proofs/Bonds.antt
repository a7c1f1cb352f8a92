-- Of fragment_rule_of and neutral_rule_of: what they say of rings and double bonds.
use Rattle.std.proofs.Common.{ℕ, ℤ, pos, ◌+ℤ◌, ◌-ℤ◌, ◌≤ℤ◌, List, arith}
use Rattle.std.proofs.lemmas.Int.{ints}
use Rattle.std.specs.Prelude.{◌↔◌}
use Rattle.element_table.specs.Rule.{HasParity, Holds, bond_coefficients, even, fragment_rule_of, linear_sum}
use Rattle.element_table.specs.Rule.{neutral_rule_of, rdbe2_of}

moved : (bound sum : ℤ) → (pos 0 ≤ℤ ((pos 2 -ℤ bound) +ℤ sum)) ↔ (bound ≤ℤ (pos 2 +ℤ sum))
moved bound sum = (λ holds. omega (arith, ints, holds), λ says. omega (arith, ints, says))

pub fragment_says : (bound : ℤ) (counts : List ℕ) → Holds (fragment_rule_of bound) counts ↔ (bound ≤ℤ rdbe2_of counts)
fragment_says bound counts =
    let both = moved bound (linear_sum bond_coefficients counts) in
    (λ holds. both.0 holds.not_negative, λ says. record { not_negative = both.1 says; parity = tt })

pub neutral_says : (counts : List ℕ)
    → Holds neutral_rule_of counts ↔ ((pos 0 ≤ℤ rdbe2_of counts) × HasParity even (rdbe2_of counts))
neutral_says counts =
    (λ holds. (holds.not_negative, holds.parity), λ says. record { not_negative = says.0; parity = says.1 })
