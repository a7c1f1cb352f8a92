-- The sums of some masses, and the least of them in a residue class. Source: the residue table of Böcker and Lipták
-- 2007, taken by this project for each number of first masses.
use Rattle.std.specs.Prelude.{◌≡◌, ◌≤◌, ◌<◌, ◌+◌, ◌*◌, ◌%◌, ℕ, List, [], ◌∷◌, Option, None, Some, length}
use Rattle.std.specs.Prelude.{slice_index, take}

-- a table has at most so many masses
abbrev pub most_masses : ℕ
most_masses = 16

-- and no greater one
abbrev pub greatest_mass : ℕ
greatest_mass = 2000000

-- the masses that a table may have
pub record AreMasses (masses : List ℕ) : Type 0 where
  pub some : 1 ≤ length masses
  pub few : length masses ≤ most_masses
  pub not_zero : (place : ℕ) → place < length masses → 1 ≤ slice_index masses place
  pub small : (place : ℕ) → place < length masses → slice_index masses place ≤ greatest_mass

-- A number is a sum of masses, each taken any number of times: so many times the first one, and a sum of the others.
abbrev pub IsSum : List ℕ → ℕ → Type 0
IsSum [] number = number ≡ 0
IsSum (mass ∷ masses) number = (count : ℕ) × (rest : ℕ) × (number ≡ count * mass + rest) × IsSum masses rest

-- a sum of so many first masses that has a residue modulo the first one
pub record IsMember (masses : List ℕ) (residue places number : ℕ) : Type 0 where
  pub sum : IsSum (take places masses) number
  pub residue_is : number % slice_index masses 0 ≡ residue

-- the least sum of so many first masses in a residue class, or none
abbrev pub Least : List ℕ → ℕ → ℕ → Option ℕ → Type 0
Least masses residue places (Some least) =
    IsMember masses residue places least
    × ((number : ℕ) → IsMember masses residue places number → least ≤ number)
Least masses residue places None = (number : ℕ) → IsMember masses residue places number → ⊥
