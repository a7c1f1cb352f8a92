-- Coarse masses. Source: the rounding of Böcker and Lipták 2007, with its bounds on the rounded sums, for the thousands
-- of units of the element table.
use Rattle.std.specs.Prelude.{◌≢◌, ◌+◌, ◌-◌, ◌*◌, ◌/◌, ◌%◌, ℕ, List, [], ◌∷◌, map, max, slice_index}
use Rattle.std.specs.List.{Contains}
use Rattle.element_table.specs.Elements.{masses}
use Rattle.element_table.specs.Formula.{weighted_sum}

-- a coarse mass counts so many units of 10^-7 Da as one
abbrev pub coarse_unit : ℕ
coarse_unit = 1000

-- the coarse mass of each element, by the places of the element table
abbrev pub coarse_masses : List ℕ
coarse_masses = map (λ mass. mass / coarse_unit) masses

-- the units of each mass that its coarse mass leaves out
abbrev pub rests : List ℕ
rests = map (λ mass. mass % coarse_unit) masses

abbrev pub coarse_at : ℕ → ℕ
coarse_at place = slice_index masses place / coarse_unit

abbrev pub rest_at : ℕ → ℕ
rest_at place = slice_index masses place % coarse_unit

-- the coarse sum of a formula: the sum of each count times the coarse mass at its place
abbrev pub coarse_sum : List ℕ → ℕ
coarse_sum counts = weighted_sum counts coarse_masses

-- a formula of the elements at some places: it has no atom of another
abbrev pub IsOver : List ℕ → List ℕ → Type 0
IsOver places counts = (place : ℕ) → slice_index counts place ≢ 0 → Contains places place

-- no formula of these elements leaves more units out, where its mass is at most so much
abbrev pub greatest_rest : ℕ → List ℕ → ℕ
greatest_rest most [] = 0
greatest_rest most (place ∷ places) =
    max (most * rest_at place / slice_index masses place) (greatest_rest most places)

-- the least coarse sum: the least mass without the greatest rest, in thousands of units, rounded up
abbrev pub least_coarse : ℕ → ℕ → List ℕ → ℕ
least_coarse least most places = ((least - greatest_rest most places) + (coarse_unit - 1)) / coarse_unit
