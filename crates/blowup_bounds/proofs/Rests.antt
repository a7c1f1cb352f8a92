-- What the coarse masses of a formula leave out of its mass, and how much that may be.
use Rattle.std.proofs.Common.{◌≡◌, ◌≢◌, ◌≤◌, ◌<◌, ◌+◌, ◌*◌, ◌/◌, ◌%◌, ◌⊎◌, ℕ, zero, suc, List, [], ◌∷◌, inl, inr}
use Rattle.std.proofs.Common.{length, map, slice_index, arith, refl, ap, subst}
use Rattle.std.proofs.Common.{◌∙◌, rules}
use Rattle.std.proofs.Math.Nat.{le-max_left, le-max_right, le_trans, lt-div-mul-add, lt_of_mul-lt-mul_left, mul-add}
use Rattle.std.proofs.Math.Nat.{mul-le-mul_left, mul-le-mul_right, mul-lt-mul_of_pos_left, mul_comm, mul_left_comm}
use Rattle.std.proofs.lemmas.List.{get_or-map}
use Rattle.std.specs.List.{AllByRecursion, Contains}
use Rattle.element_table.specs.Elements.{masses}
use Rattle.element_table.specs.Formula.{mass_of, weighted_sum}
use Rattle.blowup_bounds.specs.Coarse.{IsOver, coarse_sum, greatest_rest, rest_at, rests}

-- a mass is its coarse mass, in thousands, and its rest: so for any weights
weighted_sum-parted : (counts weights : List ℕ) → weighted_sum counts weights
    ≡ 1000 * weighted_sum counts (map (λ weight. weight / 1000) weights)
    + weighted_sum counts (map (λ weight. weight % 1000) weights)
weighted_sum-parted [] weights = omega arith
weighted_sum-parted (count ∷ counts) [] = omega arith
weighted_sum-parted (count ∷ counts) (weight ∷ weights) =
    let parted : weight ≡ 1000 * (weight / 1000) + weight % 1000 = omega arith in
    let spread : count * weight ≡ 1000 * (count * (weight / 1000)) + count * (weight % 1000) =
    grind (arith, ap (λ n. count * n) parted) in
    omega (arith, weighted_sum-parted counts weights, spread)

pub mass-parted : (counts : List ℕ) → mass_of counts ≡ 1000 * coarse_sum counts + weighted_sum counts rests
mass-parted counts = weighted_sum-parted counts masses

-- Where a number times the rest of each atom is less than another times its mass, so it is for all atoms together.
weighted_sum-less : (number other : ℕ) (counts lower upper : List ℕ) → length lower ≡ length upper
    → ((k : ℕ) → slice_index counts k ≢ 0 → k < length upper
    → number * slice_index lower k < other * slice_index upper k)
    → (weighted_sum counts lower ≡ 0) ⊎ (number * weighted_sum counts lower < other * weighted_sum counts upper)
weighted_sum-less number other [] lower upper same each = inl refl
weighted_sum-less number other (count ∷ counts) [] upper same each = inl refl
weighted_sum-less number other (count ∷ counts) (l ∷ lower) [] same each = absurd (omega (arith, same))
weighted_sum-less number other (zero ∷ counts) (l ∷ lower) (u ∷ upper) same each =
    elim (weighted_sum-less number other counts lower upper (omega (arith, same))
    (λ k some below. each (suc k) some (omega arith))) [
      | inl none ↦ inl (omega (arith, none))
      | inr less ↦ inr (omega (arith, less))
    ]
weighted_sum-less number other (suc count ∷ counts) (l ∷ lower) (u ∷ upper) same each =
    let here : number * l < other * u = each 0 (λ e. absurd (omega (arith, e))) (omega arith) in
    let scaled : suc count * (number * l) < suc count * (other * u) = mul-lt-mul_of_pos_left here (omega arith) in
    let left : number * (suc count * l + weighted_sum counts lower)
    ≡ suc count * (number * l) + number * weighted_sum counts lower =
    mul-add number (suc count * l) (weighted_sum counts lower)
    ∙ ap (λ n. n + number * weighted_sum counts lower) (mul_left_comm number (suc count) l) in
    let right : other * (suc count * u + weighted_sum counts upper)
    ≡ suc count * (other * u) + other * weighted_sum counts upper =
    mul-add other (suc count * u) (weighted_sum counts upper)
    ∙ ap (λ n. n + other * weighted_sum counts upper) (mul_left_comm other (suc count) u) in
    elim (weighted_sum-less number other counts lower upper (omega (arith, same))
    (λ k some below. each (suc k) some (omega arith))) [
      | inl none ↦
          let nothing : number * weighted_sum counts lower ≡ 0 = rw none (omega arith) in
          inr (omega (arith, scaled, left, right, nothing))
      | inr less ↦ inr (omega (arith, scaled, left, right, less))
    ]

-- no atom at these places leaves more out
greatest_rest-covers : (most place : ℕ) (places : List ℕ) → Contains places place
    → most * rest_at place / slice_index masses place ≤ greatest_rest most places
greatest_rest-covers most place [] has = absurd (omega (arith, has.1))
greatest_rest-covers most place (first ∷ places) (zero, below, is) =
    let P : ℕ → Type 0 = λ n. most * rest_at n / slice_index masses n ≤ greatest_rest most (first ∷ places) in
    subst P is (le-max_left (most * rest_at first / slice_index masses first) (greatest_rest most places))
greatest_rest-covers most place (first ∷ places) (suc k, below, is) =
    le_trans (greatest_rest-covers most place places (k, omega arith, is))
    (le-max_right (most * rest_at first / slice_index masses first) (greatest_rest most places))

-- what stands at a place of the table has a mass
above_nothing : (numbers : List ℕ) (k : ℕ) → AllByRecursion (λ number. 0 < number) numbers → k < length numbers
    → 0 < slice_index numbers k
above_nothing [] k all below = absurd (omega arith)
above_nothing (number ∷ numbers) zero all below = all.0
above_nothing (number ∷ numbers) (suc k) all below = above_nothing numbers k all.1 (omega arith)

masses-some : AllByRecursion (λ mass. 0 < mass) masses
masses-some = search rules depth 30

-- a formula of these elements leaves no more out than the greatest rest
pub rest-le_greatest : (most : ℕ) (places counts : List ℕ) → IsOver places counts → mass_of counts ≤ most
    → weighted_sum counts rests ≤ greatest_rest most places
rest-le_greatest most places counts over light =
    let greatest = greatest_rest most places in
    elim (weighted_sum-less most (greatest + 1) counts rests masses refl
    (λ k some below.
    let mass = slice_index masses k in
    let rest = rest_at k in
    let positive : 0 < mass = above_nothing masses k masses-some below in
    let covered : most * rest / mass ≤ greatest = greatest_rest-covers most k places (over k some) in
    let divided : most * rest < most * rest / mass * mass + mass = lt-div-mul-add positive in
    let scaled : most * rest / mass * mass ≤ greatest * mass = mul-le-mul_right mass covered in
    let is : slice_index rests k ≡ rest = get_or-map (λ n. n % 1000) masses k 0 0 below in
    rw is (omega (arith, divided, scaled)))) [
      | inl none ↦ omega (arith, none)
      | inr less ↦
          let bound : (greatest + 1) * mass_of counts ≤ (greatest + 1) * most =
          mul-le-mul_left (greatest + 1) light in
          let fits : most * weighted_sum counts rests < most * (greatest + 1) =
          omega (arith, less, bound, mul_comm (greatest + 1) most) in
          let within : weighted_sum counts rests < greatest + 1 = lt_of_mul-lt-mul_left most fits in
          omega (arith, within)
    ]
