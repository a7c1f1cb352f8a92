-- The losses that the keys of a table give.
use Rattle.std.specs.Prelude.{ℕ, Bool, false, not, ◌&&◌, List, [], ◌∷◌, ◌++◌, Option, Some, None, Result, Ok, Err}
use Rattle.std.specs.Prelude.{bytes_eq, if◌then◌else◌}
use Rattle.std.specs.List.{list_any}
use Rattle.element_table.specs.Formula.{empty_formula}
use Rattle.element_table.specs.FormulaReading.{formula_of}
use Rattle.toml.specs.Data.{Members, no_members, member}

abbrev pub read_formula : {Fault : Type 0} → Result (List ℕ) Fault → Option (List ℕ)
read_formula (Ok counts) = Some counts
read_formula (Err fault) = None

-- the formula of a key, where it is one
abbrev pub key_formula : List ℕ → Option (List ℕ)
key_formula key = read_formula (formula_of key)

-- whether a key gives a loss, and none of these: a formula of some atom
abbrev pub is_free : List (List ℕ) → Option (List ℕ) → Bool
is_free taken None = false
is_free taken (Some counts) = not (bytes_eq counts empty_formula) && not (list_any (bytes_eq counts) taken)

-- these formulas, and that of a key
abbrev pub taken_with : List (List ℕ) → Option (List ℕ) → List (List ℕ)
taken_with taken None = taken
taken_with taken (Some counts) = if list_any (bytes_eq counts) taken then taken else taken ++ counts ∷ []

-- these formulas, and those of the keys of a table
abbrev pub taken_by : List (List ℕ) → Members → List (List ℕ)
taken_by taken no_members = taken
taken_by taken (member key value members) = taken_by (taken_with taken (key_formula key)) members
