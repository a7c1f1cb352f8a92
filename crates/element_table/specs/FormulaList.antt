-- The formulas of one peak, as a plain value, and the greatest number of them that a list has.
use Rattle.std.specs.Prelude.{ℕ, List}

-- a list of a window with more formulas is no list: the peak has too many
abbrev pub greatest_list : ℕ
greatest_list = 20000

-- the m/z in units of 10^-7, the intensity in units of 10^-6, and the formulas in the order of the list
pub record FormulaListValue : Type 0 where
  pub mz : ℕ
  pub intensity : ℕ
  pub formulas : List (List ℕ)
