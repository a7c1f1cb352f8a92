-- A formula is the list of its counts, by the places of the element table.
use Rattle.std.specs.Prelude.{◌≡◌, ◌≢◌, ◌≤◌, ◌+◌, ◌-◌, ◌*◌, ℕ, Bool, not, ◌&&◌, nat_le, List, [], ◌∷◌, length}
use Rattle.std.specs.Prelude.{slice_index, replicate}
use Rattle.std.specs.declared.cmp.Ordering.{Ordering}
use Rattle.std.specs.Cmp.Lexicographic.{slice_cmp}
use Rattle.std.specs.Str.{bytes_eq}
use lib.Pointwise.{pointwise}
use Rattle.std.specs.Ordering.{nat_cmp}
use Rattle.element_table.specs.Elements.{element_count, formula_places, greatest_count, heaviest_atom, masses}

-- what every formula is: a count for each place, none too great, and none at a place without an element
pub record IsFormula (counts : List ℕ) : Type 0 where
  pub places : length counts ≡ formula_places
  pub capped : (place : ℕ) → slice_index counts place ≤ greatest_count
  pub elements : (place : ℕ) → element_count ≤ place → slice_index counts place ≡ 0

-- no atom at all
abbrev pub empty_formula : List ℕ
empty_formula = replicate formula_places 0

-- the sum of each number times the one at its place
abbrev pub weighted_sum : List ℕ → List ℕ → ℕ
weighted_sum (count ∷ counts) (weight ∷ weights) = count * weight + weighted_sum counts weights
weighted_sum counts weights = 0

-- the mass of a formula, in units of 10^-7 Da
abbrev pub mass_of : List ℕ → ℕ
mass_of counts = weighted_sum counts masses

-- no formula weighs more: the greatest count of the heaviest atom for each element
abbrev pub greatest_mass : ℕ
greatest_mass = element_count * (greatest_count * heaviest_atom)

-- a part of a whole: each count is at most the whole's
abbrev pub IsWithin : List ℕ → List ℕ → Type 0
IsWithin part whole = (place : ℕ) → slice_index part place ≤ slice_index whole place

-- a part that is not the whole
abbrev pub IsProperPart : List ℕ → List ℕ → Type 0
IsProperPart part whole = IsWithin part whole × (part ≢ whole)

-- whether one formula is a part of another, as IsWithin says
abbrev pub is_within : List ℕ → List ℕ → Bool
is_within = pointwise nat_le

-- whether one formula is a part of another and not the whole, as IsProperPart says
abbrev pub is_proper_part : List ℕ → List ℕ → Bool
is_proper_part part whole = pointwise nat_le part whole && not (bytes_eq part whole)

-- the loss of a whole to a part of it: the difference of each count
abbrev pub loss_of : List ℕ → List ℕ → List ℕ
loss_of (count ∷ counts) (part ∷ parts) = (count - part) ∷ loss_of counts parts
loss_of counts parts = []

-- two formulas together: the sum of each count
abbrev pub union_of : List ℕ → List ℕ → List ℕ
union_of (count ∷ counts) (other ∷ others) = (count + other) ∷ union_of counts others
union_of counts others = []

-- Formula order: the counts are compared from the first place on, the smaller first.
abbrev pub formula_cmp : List ℕ → List ℕ → Ordering
formula_cmp = slice_cmp nat_cmp
