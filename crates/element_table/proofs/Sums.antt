-- Of weighted_sum and mass_of: a mass place by place, its bounds, and the masses of a part and of its loss.
use Rattle.std.proofs.Common.{◌≡◌, ◌-◌, ◌∙◌, Bool, true, false, eqb, ltb, get_or, ◌≤◌, ◌<◌, ◌+◌, ◌*◌, ℕ, zero, suc}
use Rattle.std.proofs.Common.{List, [], ◌∷◌, length, take, ap, sym, ◌&&◌, arith, add-one, refl, leb}
use borrow.Author.Tests.{leb-true}
use Rattle.std.proofs.lemmas.List.Sums.{AllPass-from_list_all, list_all-from_AllPass}
use Rattle.std.proofs.Math.Nat.{add-mul}
use Rattle.std.proofs.lemmas.Bool.{and_parts, eq-eqb, eqb-false, ltb-true}
use Rattle.std.proofs.lemmas.List.{get_or_default}
use Rattle.std.proofs.lemmas.Nat.{mul-le}
use Rattle.std.specs.List.{list_all}
use Rattle.element_table.specs.Elements.{masses}
use Rattle.element_table.specs.Formula.{IsFormula, IsWithin, loss_of, weighted_sum}

-- what a further place adds
pub weighted_sum-more : (counts weights : List ℕ) (i : ℕ) → i < length counts → i < length weights
    → weighted_sum (take (i + 1) counts) weights ≡ weighted_sum (take i counts) weights
    + get_or counts i 0 * get_or weights i 0
weighted_sum-more counts weights i within_counts within_weights =
    rw add-one (step counts weights i within_counts within_weights)
  where
    step : (counts weights : List ℕ) (i : ℕ) → i < length counts → i < length weights
        → weighted_sum (take (suc i) counts) weights ≡ weighted_sum (take i counts) weights
        + get_or counts i 0 * get_or weights i 0
    step (count ∷ counts) (weight ∷ weights) zero a b = omega arith
    step (count ∷ counts) (weight ∷ weights) (suc i) a b =
        omega (arith, step counts weights i (omega arith) (omega arith))
    step [] weights i a b = absurd (omega arith)
    step (count ∷ counts) [] i a b = absurd (omega arith)

-- places without a weight add nothing
pub weighted_sum-take_all : (counts weights : List ℕ) (i : ℕ) → length weights ≤ i
    → weighted_sum (take i counts) weights ≡ weighted_sum counts weights
weighted_sum-take_all (count ∷ counts) (weight ∷ weights) (suc i) h =
    ap (λ n. count * weight + n) (weighted_sum-take_all counts weights i (omega arith))
weighted_sum-take_all (count ∷ counts) (weight ∷ weights) zero h = absurd (omega arith)
weighted_sum-take_all (count ∷ counts) [] (suc i) h = refl
weighted_sum-take_all (count ∷ counts) [] zero h = refl
weighted_sum-take_all [] weights (suc i) h = refl
weighted_sum-take_all [] weights zero h = refl

-- the heaviest element is iodine
pub mass-le_heaviest : (i : ℕ) → i < 11 → get_or masses i 0 ≤ 1269044719
mass-le_heaviest i h = leb-true _ _ (AllPass-from_list_all (λ m. leb m 1269044719) masses refl i 0 h)

-- the mass so far and a bound on it, at one more place
pub mass-more : (counts : List ℕ) (place mass count weight : ℕ) → IsFormula counts → place < 11
    → count ≡ get_or counts place 0 → weight ≡ get_or masses place 0 → (mass ≡ weighted_sum (take place counts) masses)
    × (mass ≤ place * (1999 * 1269044719)) → (mass + count * weight ≡ weighted_sum (take (place + 1) counts) masses)
    × (mass + count * weight ≤ (place + 1) * (1999 * 1269044719))
mass-more counts place mass count weight formula in_table is_count is_weight so_far =
    let capped : count ≤ 1999 = omega (arith, formula.capped place) in
    let light : weight ≤ 1269044719 = omega (arith, mass-le_heaviest place in_table) in
    let bound : count * weight ≤ 1999 * 1269044719 = mul-le _ _ _ _ capped light in
    let in_counts : place < length counts = omega (arith, formula.places) in
    let more : weighted_sum (take (place + 1) counts) masses ≡ weighted_sum (take place counts) masses
    + get_or counts place 0 * get_or masses place 0 = weighted_sum-more counts masses place in_counts in_table in
    (cc, omega arith)

-- a count is so many times a weight and what is left as many times again
split : (whole part weight : ℕ) → part ≤ whole → whole * weight ≡ part * weight + (whole - part) * weight
split whole part weight within =
    let is : whole ≡ part + (whole - part) = omega arith in
    ap (λ count. count * weight) is ∙ add-mul part (whole - part) weight

-- a weighted sum is that of a part and that of its loss
pub weighted_sum-loss : (whole part weights : List ℕ) → length whole ≡ length part → IsWithin part whole
    → weighted_sum whole weights ≡ weighted_sum part weights + weighted_sum (loss_of whole part) weights
weighted_sum-loss [] [] weights same within = refl
weighted_sum-loss [] (count ∷ part) weights same within = absurd (omega arith)
weighted_sum-loss (count ∷ whole) [] weights same within = absurd (omega arith)
weighted_sum-loss (count ∷ whole) (other ∷ part) [] same within = refl
weighted_sum-loss (count ∷ whole) (other ∷ part) (weight ∷ weights) same within =
    let here = split count other weight (within 0) in
    let rest = weighted_sum-loss whole part weights (omega arith) (λ place. within (suc place)) in
    omega arith

-- where a count is not none, the sum is more than what every weight is more than
pub weighted_sum-heavy : (bound : ℕ) (counts weights : List ℕ) → list_all (λ weight. ltb bound weight) weights ≡ true
    → ((place : ℕ) → length weights ≤ place → get_or counts place 0 ≡ 0) → list_all (λ count. eqb count 0) counts
    ≡ false → bound < weighted_sum counts weights
weighted_sum-heavy bound [] weights heavy none some = (cc)
weighted_sum-heavy bound (count ∷ counts) [] heavy none some =
    let all =
    list_all-from_AllPass (λ count. eqb count 0) (count ∷ counts)
    (λ place d within. eq-eqb _ 0 (get_or_default (count ∷ counts) place d 0 within ∙ none place (omega arith))) in
    (cc)
weighted_sum-heavy bound (count ∷ counts) (weight ∷ weights) heavy none some =
    step (eqb count 0) refl (weighted_sum-heavy bound counts weights (and_parts _ _ heavy).1
    (λ place past. none (suc place) (omega arith)))
  where
    step : (b : Bool) → eqb count 0 ≡ b
        → (list_all (λ count. eqb count 0) counts ≡ false → bound < weighted_sum counts weights)
        → bound < count * weight + weighted_sum counts weights
    step true is later =
        let rest = later (ap (λ b. b && list_all (λ count. eqb count 0) counts) (sym is) ∙ some) in
        omega arith
    step false is later =
        let one : 1 ≤ count = omega (arith, eqb-false count 0 is) in
        let more : 1 * weight ≤ count * weight = mul-le _ _ _ _ one (omega arith) in
        let here = ltb-true bound weight (and_parts _ _ heavy).0 in
        omega arith
