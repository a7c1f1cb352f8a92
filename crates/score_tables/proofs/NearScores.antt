-- Of first_score and loss_score_of: scores that are read from tables lie near 0.
use Rattle.std.proofs.Common.{◌≡◌, ℕ, ℤ, pos, Bool, true, false, cond, List, [], ◌∷◌, Option, Some, None, ◌+ℤ◌, ◌-ℤ◌}
use Rattle.std.proofs.Common.{arith, w16, w32, FitsSigned, to_z, of_z}
use Rattle.std.specs.Prelude.{unwrap_or, All, IfSome}
use Rattle.std.specs.FinMap.{find}
use Rattle.std.specs.Map.{lookup}
use Rattle.std.specs.Ordering.{eq_by_cmp}
use Rattle.std.proofs.lemmas.Int.{ints, to_z-of_z}
use Rattle.std.proofs.lemmas.List.Elements.{All-head, All-tail}
use Rattle.element_table.specs.Formula.{formula_cmp}
use Rattle.element_table.specs.Rule.{IsNearZero}
use Rattle.score_tables.specs.Scores.{first_score, greatest_single_score}
use Rattle.score_tables.specs.Tables.{LossTable, ShareTable, greatest_score}

pub near_first : (passes : ℕ → Bool) (pairs : ShareTable) → All (λ pair. IsNearZero greatest_score pair.1) pairs
    → IsNearZero greatest_score (first_score passes pairs)
near_first passes [] near = (omega arith, omega arith)
near_first passes (pair ∷ pairs) near =
    elim (passes pair.0) as (λ b. IsNearZero greatest_score
    (unwrap_or (cond b (Some pair.1) (lookup passes pairs)) (pos 0))) [
      | true ↦ All-head (λ (pair : ℕ × ℤ). IsNearZero greatest_score pair.1) pair pairs near
      | false ↦ near_first passes pairs (All-tail (λ (pair : ℕ × ℤ). IsNearZero greatest_score pair.1) pair pairs near)
    ]

pub near_found : (loss : List ℕ) (losses : LossTable) → All (λ entry. IsNearZero greatest_score entry.1) losses
    → IfSome (find formula_cmp loss losses) (λ score. IsNearZero greatest_score score)
near_found loss [] near = tt
near_found loss (entry ∷ losses) near =
    elim (eq_by_cmp formula_cmp loss entry.0) as
    (λ b. IfSome (cond b (Some entry.1) (find formula_cmp loss losses)) (λ score. IsNearZero greatest_score score)) [
      | true ↦ All-head (λ (entry : List ℕ × ℤ). IsNearZero greatest_score entry.1) entry losses near
      | false ↦
          near_found loss losses (All-tail (λ (entry : List ℕ × ℤ). IsNearZero greatest_score entry.1) entry losses
          near)
    ]

-- a score that may be missing, and nothing in its place
pub near_or_nothing : (found : Option ℤ) → IfSome found (λ score. IsNearZero greatest_score score)
    → IsNearZero greatest_score (unwrap_or found (pos 0))
near_or_nothing None near = (omega arith, omega arith)
near_or_nothing (Some score) near = near

kept : (z : ℤ) → IsNearZero 6000 z → to_z w32 (of_z w32 z) ≡ z
kept z near =
    let fits : FitsSigned w32 z = omega (arith, ints) in
    to_z-of_z w32 z fits

wider : (z : ℤ) → IsNearZero greatest_score z → IsNearZero 6000 z
wider z near = (omega (arith, ints), omega (arith, ints))

-- a score is kept where it is widened
pub kept_score : (wide score : ℤ) → IsNearZero greatest_score score → wide ≡ to_z w16 (of_z w16 score)
    → to_z w32 (of_z w32 wide) ≡ score
kept_score wide score near is =
    let fits : FitsSigned w16 score = omega (arith, ints) in
    rw (is, to_z-of_z w16 score fits, kept score (wider score near))

-- the sum of three scores is kept
pub sum_of_three : (a b d x y z : ℤ) → IsNearZero greatest_score a → IsNearZero greatest_score b
    → IsNearZero greatest_score d → a ≡ x → b ≡ y → d ≡ z
    → to_z w32 (of_z w32 (to_z w32 (of_z w32 (to_z w32 (of_z w32 a) +ℤ to_z w32 (of_z w32 b))) +ℤ to_z w32
    (of_z w32 d))) ≡ (x +ℤ y) +ℤ z
sum_of_three a b d x y z near_a near_b near_d is_a is_b is_d =
    let two = kept (a +ℤ b) (omega (arith, ints), omega (arith, ints)) in
    let three = kept ((a +ℤ b) +ℤ d) (omega (arith, ints), omega (arith, ints)) in
    rw (kept a (wider a near_a), kept b (wider b near_b), kept d (wider d near_d), two, three, is_a, is_b, is_d)

-- a base less a cost
pub near_difference : (base cost score : ℤ) → base ≡ to_z w32 (of_z w32 score) → IsNearZero 6000 score
    → IsNearZero 2000 cost → IsNearZero greatest_single_score (to_z w32 (of_z w32 (base -ℤ to_z w32 (of_z w32 cost))))
near_difference base cost score is near_score near_cost =
    let fits : FitsSigned w32 (score -ℤ cost) = omega (arith, ints) in
    rw (is, kept score near_score, kept cost (wider cost near_cost), to_z-of_z w32 (score -ℤ cost) fits)
    (omega (arith, ints), omega (arith, ints))
