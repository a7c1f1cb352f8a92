-- The elements that are counted, one after another.
use Rattle.std.specs.Prelude.{◌≡◌, ◌≢◌, ◌≤◌, ◌<◌, ◌+◌, ◌*◌, ℕ, List, [], ◌∷◌, slice_index}
use Rattle.std.specs.List.{AllByRecursion}
use Rattle.element_table.specs.Elements.{element_count, greatest_count, heaviest_atom, masses}
use Rattle.element_table.specs.Window.{greatest_half_width}
use Rattle.formula_lister.specs.declared.element.Element.{Element}
use Rattle.formula_lister.specs.declared.levels.Levels.{Levels}

-- the greatest mass that counts of these elements have together
abbrev pub reach_of : List Element → ℕ
reach_of [] = 0
reach_of (element ∷ elements) = element.limit * element.mass + reach_of elements

-- the mass of the first of some elements, or another where there is none
abbrev pub first_mass : List Element → ℕ → ℕ
first_mass [] mass = mass
first_mass (element ∷ elements) mass = element.mass

-- the least number of atoms of the other that weigh more than one of the element, and by how much
pub record ArePaired (mass other : ℕ) (levels : Levels) : Type 0 where
  pub whole : levels.per * other ≡ mass + levels.defect.number
  pub several : 1 ≤ levels.per
  pub few : levels.per ≤ 1000
  pub small : levels.defect.number ≤ other
  pub jumps : other ≡ levels.jump * levels.defect.number + levels.spare
  pub spare : levels.spare < levels.defect.number
  pub some : 1 ≤ levels.jump

-- an element of the table, with its mass; every atom is heavier than a window is wide
pub record IsKnown (element : Element) : Type 0 where
  pub place : element.place < element_count
  pub weighed : element.mass ≡ slice_index masses element.place
  pub heavy : 2 * greatest_half_width < element.mass
  pub light : element.mass ≤ heaviest_atom
  pub capped : element.limit ≤ greatest_count
  pub divided : element.divisor.number ≡ element.mass
  pub reach : element.after ≤ 10 * (greatest_count * heaviest_atom)

-- an element with its limit, counted before others
pub record IsFirst (limits : List ℕ) (element : Element) (others : List Element) : Type 0 where
  pub known : IsKnown element
  pub limited : element.limit ≡ slice_index limits element.place
  pub reach : element.after ≡ reach_of others
  pub paired : ArePaired element.mass (first_mass others element.mass) element.levels
  pub falling : AllByRecursion (λ other. other.place < element.place) others

abbrev pub AreElements : List ℕ → List Element → Type 0
AreElements limits [] = Unit {0}
AreElements limits (element ∷ others) = IsFirst limits element others × AreElements limits others

-- none of the elements stands at the place
abbrev pub IsUncounted : List Element → ℕ → Type 0
IsUncounted elements place = AllByRecursion (λ element. element.place ≢ place) elements

-- no atom of these elements is chosen
abbrev pub NoneChosen : List Element → List ℕ → Type 0
NoneChosen elements counts = AllByRecursion (λ element. slice_index counts element.place ≡ 0) elements
