-- Of IsFoundSet: the numbers of a row for one colour, looked at set by set.
use Rattle.std.proofs.Common.{◌≡◌, ◌∙◌, ◌⊎◌, inl, inr, ◌+◌, ◌*◌, ◌<◌, ℕ, ℤ, ◌≤ℤ◌, Bool, List, ap, sym, arith, mul_assoc}
use Rattle.std.proofs.Common.{mul_comm}
use Rattle.std.proofs.Math.Nat.{mul-lt-mul_of_pos_left}
use Rattle.std.proofs.lemmas.Bool.{cases_eq}
use Rattle.tree_certificate.specs.ColourSet.{place_of}
use Rattle.tree_certificate.specs.Enough.{IsEnough}
use Rattle.tree_certificate.specs.Number.{number_in}
use Rattle.certificate_checker.specs.inside.Enough.{IsLeastEnough}

-- one set more
pub enough-next : (row own gains : List ℤ) (step set : ℕ) (needed : ℤ)
    → ((other : List Bool) → place_of other < set
    → IsEnough own gains other (number_in row (step * (1 + 2 * place_of other))))
    → IsLeastEnough own gains set needed → needed ≤ℤ number_in row (step * (1 + 2 * set))
    → (other : List Bool) → place_of other < set + 1
    → IsEnough own gains other (number_in row (step * (1 + 2 * place_of other)))
enough-next row own gains step set needed before least high other within = choose (cases_eq (place_of other) set)
  where
    choose : (place_of other ≡ set) ⊎ (place_of other ≡ set → ⊥)
        → IsEnough own gains other (number_in row (step * (1 + 2 * place_of other)))
    choose (inl same) = rw same ((least other same (number_in row (step * (1 + 2 * set)))).0 high)
    choose (inr apart) = before other (omega (arith, within, apart))

-- the place of a set is in the row
pub set-in_row : (step set count long : ℕ) → set < count → 0 < step → count * (2 * step) ≡ long
    → step * (1 + 2 * set) < long
set-in_row step set count long within some is =
    let odd : 1 + 2 * set < 2 * count = omega arith in
    let product : step * (1 + 2 * set) < step * (2 * count) = mul-lt-mul_of_pos_left odd some in
    let turned : step * (2 * count) ≡ count * (2 * step) = sym (mul_assoc step 2 count) ∙ mul_comm (step * 2) count
    ∙ ap (λ n. count * n) (mul_comm step 2) in
    omega (arith, product, turned, is)
