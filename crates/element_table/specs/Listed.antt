-- The list of a window: exactly the formulas in it that the limits and the rules allow.
use Rattle.std.specs.Prelude.{◌≡◌, ◌+◌, ◌↔◌, ℕ, ℤ, pos, ◌+ℤ◌, ◌-ℤ◌, int_le, int_rem, Bool, true, not, ◌&&◌, List, []}
use Rattle.std.specs.Prelude.{◌∷◌, length, map}
use Rattle.std.specs.List.{AllPairs, Contains, filter, flat_map, list_all, range_with_len}
use Rattle.std.specs.Ordering.{int_eq}
use Rattle.std.specs.declared.cmp.Ordering.TheVariants.{Less}
use Rattle.element_table.specs.Elements.{formula_places}
use Rattle.element_table.specs.Formula.{IsWithin, formula_cmp, mass_of}
use Rattle.element_table.specs.Window.{Window, InWindow}
use Rattle.element_table.specs.Rule.{Rule, Parity, any, even, odd, Passes, value_of}

-- a formula with every count at most its limit that is in the window and passes the rules
pub record IsAllowed (window : Window) (limits : List ℕ) (rules : List Rule) (counts : List ℕ) : Type 0 where
  pub places : length counts ≡ formula_places
  pub within_limits : IsWithin counts limits
  pub in_window : InWindow window counts
  pub passes : Passes rules counts

-- The list of a window rises strictly in formula order, and its members are exactly the formulas that are allowed.
pub record Listed (window : Window) (limits : List ℕ) (rules : List Rule) (formulas : List (List ℕ)) : Type 0 where
  pub rising : AllPairs (λ first later. formula_cmp first later ≡ Less) formulas
  pub members : (counts : List ℕ) → Contains formulas counts ↔ IsAllowed window limits rules counts

-- all count lists within the limits, in formula order
abbrev pub count_lists : List ℕ → List (List ℕ)
count_lists [] = [] ∷ []
count_lists (limit ∷ limits) =
    flat_map (λ count. map (λ counts. count ∷ counts) (count_lists limits)) (range_with_len 0 (limit + 1))

-- whether a formula is in a window, as InWindow says
abbrev pub is_in_window : Window → List ℕ → Bool
is_in_window window counts =
    int_le (window.centre -ℤ pos window.half) (pos (mass_of counts))
    && int_le (pos (mass_of counts)) (window.centre +ℤ pos window.half)

-- whether a number has a parity, as HasParity says
abbrev pub has_parity : Parity → ℤ → Bool
has_parity any n = true
has_parity even n = int_eq (int_rem n (pos 2)) (pos 0)
has_parity odd n = not (int_eq (int_rem n (pos 2)) (pos 0))

-- whether a rule holds for a formula, as Holds says
abbrev pub holds : Rule → List ℕ → Bool
holds rule counts = int_le (pos 0) (value_of rule counts) && has_parity rule.parity (value_of rule counts)

-- whether a formula passes the rules, as Passes says
abbrev pub passes : List Rule → List ℕ → Bool
passes rules counts = list_all (λ rule. holds rule counts) rules

-- the list of a window: all count lists within the limits, without those that are not in the window or do not pass
unfoldable pub listed_of : Window → List ℕ → List Rule → List (List ℕ)
listed_of window limits rules =
    filter (λ counts. is_in_window window counts && passes rules counts) (count_lists limits)
