-- How the elements that are counted grow by one more place of the table.
use Rattle.std.proofs.Common.{◌≡◌, ◌≤◌, ◌<◌, ◌+◌, ◌*◌, ℕ, List, [], ◌∷◌, slice_index, inl, inr, arith, sym}
use Rattle.std.proofs.lemmas.Nat.{mul-le}
use Rattle.std.proofs.Math.Nat.{eq-or-lt_of_le}
use Rattle.std.specs.List.{AllByRecursion}
use Rattle.element_table.specs.Elements.{element_count, greatest_count, heaviest_atom, masses}
use Rattle.element_table.specs.Window.{greatest_half_width}
use Rattle.element_table.specs.Formula.{IsFormula}
use Rattle.formula_lister.specs.declared.element.Element.{Element}
use Rattle.formula_lister.specs.inside.Elements.{AreElements, ArePaired, IsUncounted, first_mass, reach_of}

-- the elements of positive limit below a place
pub record AreCounted (limits : List ℕ) (place after : ℕ) (elements : List Element) : Type 0 where
  pub known : AreElements limits elements
  pub reach : after ≡ reach_of elements
  pub small : after ≤ place * (greatest_count * heaviest_atom)
  pub lower : AllByRecursion (λ element. element.place < place) elements
  pub others : (k : ℕ) → k < place → IsUncounted elements k → slice_index limits k ≡ 0
  pub formula : 0 < place → IsFormula limits

lower_more : (place : ℕ) (elements : List Element) → AllByRecursion (λ element. element.place < place) elements
    → AllByRecursion (λ element. element.place < place + 1) elements
lower_more place [] lower = tt
lower_more place (element ∷ elements) lower = (omega (arith, lower.0), lower_more place elements lower.1)

-- the mass of the first of them is an atom's
pub first_mass-heavy : (limits : List ℕ) (elements : List Element) (mass : ℕ) → AreElements limits elements
    → 2 * greatest_half_width < mass → 2 * greatest_half_width < first_mass elements mass
first_mass-heavy limits [] mass known heavy = heavy
first_mass-heavy limits (element ∷ elements) mass known heavy = known.0.known.heavy

pub first_mass-light : (limits : List ℕ) (elements : List Element) (mass : ℕ) → AreElements limits elements
    → mass ≤ heaviest_atom → first_mass elements mass ≤ heaviest_atom
first_mass-light limits [] mass known light = light
first_mass-light limits (element ∷ elements) mass known light = known.0.known.light

-- an element without a positive limit is not counted
pub AreCounted-without : (limits : List ℕ) (place after : ℕ) (elements : List Element) → IsFormula limits
    → slice_index limits place ≡ 0 → AreCounted limits place after elements
    → AreCounted limits (place + 1) after elements
AreCounted-without limits place after elements formula none h = record {
  known = h.known;
  reach = h.reach;
  small = omega (arith, h.small);
  lower = lower_more place elements h.lower;
  others = λ k below uncounted. elim (eq-or-lt_of_le {n = k} {m = place} (omega arith)) [
    | inl is ↦ rw is none
    | inr less ↦ h.others k less uncounted
  ];
  formula = λ _. formula;
}

-- and one with a positive limit is counted before the others
pub AreCounted-with : (limits : List ℕ) (element : Element) (elements : List Element) → IsFormula limits
    → element.place < element_count → element.mass ≡ slice_index masses element.place
    → 2 * greatest_half_width < element.mass → element.mass ≤ heaviest_atom → element.limit
    ≡ slice_index limits element.place → element.divisor.number ≡ element.mass
    → ArePaired element.mass (first_mass elements element.mass) element.levels → AreCounted limits element.place element.after elements
    → AreCounted limits (element.place + 1) (element.after + element.limit * element.mass) (element ∷ elements)
AreCounted-with limits element elements formula inside weighed heavy light limited divided paired h =
    let capped : element.limit ≤ greatest_count = omega (arith, formula.capped element.place) in
    let bound : element.limit * element.mass ≤ greatest_count * heaviest_atom = mul-le _ _ _ _ capped light in
    record {
      known = (
        record {
          known = record {
            place = inside;
            weighed = weighed;
            heavy = heavy;
            light = light;
            capped = capped;
            divided = divided;
            reach = omega (arith, h.small);
          };
          limited = limited;
          reach = h.reach;
          paired = paired;
          falling = h.lower;
        },
        h.known,
      );
      reach = omega (arith, h.reach);
      small = omega (arith, h.small);
      lower = (omega arith, lower_more element.place elements h.lower);
      others = λ k below uncounted. elim (eq-or-lt_of_le {n = k} {m = element.place} (omega arith)) [
        | inl is ↦ absurd (uncounted.0 (sym is))
        | inr less ↦ h.others k less uncounted.1
      ];
      formula = λ _. formula;
    }
