-- Of mass_of: the mass of a loss, what every formula with an atom weighs at least, and what none weighs more than.
use Rattle.std.proofs.Common.{◌≡◌, ◌≢◌, ◌≤◌, ◌<◌, ◌+◌, ◌-◌, ◌*◌, ◌∙◌, ℕ, suc, Bool, true, false, eqb, List, [], ◌∷◌}
use Rattle.std.proofs.Common.{length, get_or, refl, sym, ap, arith}
use Rattle.std.specs.List.{list_all}
use Rattle.std.proofs.Math.Nat.{add-mul}
use Rattle.std.proofs.lemmas.List.{ext_get_or}
use Rattle.std.proofs.lemmas.Nat.{mul-le}
use Rattle.element_table.specs.Elements.{heaviest_atom, masses}
use Rattle.element_table.specs.Formula.{IsFormula, IsProperPart, IsWithin, empty_formula, greatest_mass, loss_of}
use Rattle.element_table.specs.Formula.{mass_of, weighted_sum}
use Rattle.element_table.specs.Window.{greatest_half_width}
use Rattle.element_table.proofs.Parts.{get_or-loss_of, length-loss_of}
use Rattle.element_table.proofs.Printed.{no_atom}
use Rattle.element_table.proofs.ReadSoFar.{nought}
use Rattle.element_table.proofs.Sums.{mass-le_heaviest, weighted_sum-heavy, weighted_sum-loss}

-- what a formula loses to another is a formula
pub IsFormula-loss_of : (whole part : List ℕ) → IsFormula whole → IsFormula part → IsFormula (loss_of whole part)
IsFormula-loss_of whole part formula other = record {
  places = length-loss_of whole part same ∙ formula.places;
  capped = λ place. let is = get_or-loss_of whole part place same in let cap = formula.capped place in omega arith;
  elements =
      λ place past. let is =
      get_or-loss_of whole part place same in let none = formula.elements place past in omega arith;
}
  where
    same : length whole ≡ length part
    same = formula.places ∙ sym other.places

-- the mass of a whole is that of a part and of its loss
pub mass_of-loss_of : (whole part : List ℕ) → IsFormula whole → IsFormula part → IsWithin part whole
    → mass_of whole ≡ mass_of part + mass_of (loss_of whole part)
mass_of-loss_of whole part formula other within =
    weighted_sum-loss whole part masses (formula.places ∙ sym other.places) within

-- a formula with an atom
pub mass_of-some : (counts : List ℕ) → IsFormula counts → counts ≢ empty_formula
    → 2 * greatest_half_width < mass_of counts
mass_of-some counts formula some = step (list_all (λ count. eqb count 0) counts) refl
  where
    step : (b : Bool) → list_all (λ count. eqb count 0) counts ≡ b → 2 * greatest_half_width < mass_of counts
    step true none = absurd (some (no_atom counts formula none))
    step false is = weighted_sum-heavy 4000000 counts masses refl formula.elements is

-- a part that loses nothing is the whole
whole_from_loss : (whole part : List ℕ) → IsFormula whole → IsFormula part → IsWithin part whole
    → loss_of whole part ≡ empty_formula → part ≡ whole
whole_from_loss whole part formula other within none = ext_get_or 0 part whole (other.places ∙ sym formula.places)
    (λ place in_part.
    let loss : get_or whole place 0 - get_or part place 0 ≡ 0 =
    sym (get_or-loss_of whole part place (formula.places ∙ sym other.places))
    ∙ ap (λ counts. get_or counts place 0) none ∙ nought place in
    let small = within place in
    omega arith)

-- a proper part and its whole
pub mass_of-proper : (part whole : List ℕ) → IsFormula part → IsFormula whole → IsProperPart part whole
    → mass_of part + 2 * greatest_half_width < mass_of whole
mass_of-proper part whole other formula proper =
    let sum = mass_of-loss_of whole part formula other proper.0 in
    let heavy =
    mass_of-some (loss_of whole part) (IsFormula-loss_of whole part formula other)
    (λ none. proper.1 (whole_from_loss whole part formula other proper.0 none)) in
    omega arith

-- each count is at most the greatest one, and each weight at most the heaviest
light : (most heaviest : ℕ) (counts weights : List ℕ) → ((place : ℕ) → get_or counts place 0 ≤ most)
    → ((place : ℕ) → place < length weights → get_or weights place 0 ≤ heaviest)
    → weighted_sum counts weights ≤ length weights * (most * heaviest)
light most heaviest [] weights capped lighter = omega arith
light most heaviest (count ∷ counts) [] capped lighter = omega arith
light most heaviest (count ∷ counts) (weight ∷ weights) capped lighter =
    let here : count * weight ≤ most * heaviest = mul-le _ _ _ _ (capped 0) (lighter 0 (omega arith)) in
    let rest =
    light most heaviest counts weights (λ place. capped (suc place))
    (λ place within. lighter (suc place) (omega arith)) in
    let whole : (1 + length weights) * (most * heaviest) ≡ 1 * (most * heaviest) + length weights * (most * heaviest) =
    add-mul 1 (length weights) (most * heaviest) in
    let one : suc (length weights) ≡ 1 + length weights = omega arith in
    rw one (omega arith)

-- no formula is heavier than that
pub mass_of-light : (counts : List ℕ) → IsFormula counts → mass_of counts ≤ greatest_mass
mass_of-light counts formula = light 1999 heaviest_atom counts masses formula.capped mass-le_heaviest
