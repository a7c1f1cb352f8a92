-- The lists of a spectrum that a graph is built from: the precursor's first, then those of the selected peaks by
-- falling m/z.
use Rattle.std.specs.Prelude.{◌≡◌, ◌≤◌, ◌<◌, ◌^◌, ℕ, List, [], drop, fold, length, map, max, slice_index_or}
use Rattle.std.specs.List.{All, AllPairs, Contains}
use Rattle.std.specs.declared.cmp.Ordering.TheVariants.{Less}
use Rattle.adducts.specs.Selected.{AreApart, LiesBelow}
use Rattle.adducts.specs.declared.choice.Choice.{Choice}
use Rattle.element_table.specs.Formula.{formula_cmp, union_of}
use Rattle.element_table.specs.FormulaList.{FormulaListValue, greatest_list}
use Rattle.element_table.specs.Window.{InWindow, Window, window_of}

-- the list of a number, from 0 on
abbrev pub list_at : List FormulaListValue → ℕ → FormulaListValue
list_at lists number = slice_index_or lists number (record { mz = 0; intensity = 0; formulas = [] })

-- the formula that a candidate's ion is fragmented from: the candidate and what the adduct adds
abbrev pub root_of : Choice → List ℕ → List ℕ
root_of choice candidate = union_of candidate choice.adduct.extra

-- the window of a list
abbrev pub window_at : Choice → FormulaListValue → Window
window_at choice list = window_of choice.adduct.shift choice.ppm choice.abs list.mz

-- There are fewer lists.
abbrev pub greatest_lists : ℕ
greatest_lists = 65536

-- a list: measured, with formulas in its window, strictly in formula order
pub record IsList (choice : Choice) (list : FormulaListValue) : Type 0 where
  pub mz : list.mz ≤ 10 ^ 18
  pub intensity : list.intensity ≤ 10 ^ 18
  pub few : length list.formulas ≤ greatest_list
  pub in_window : All (InWindow (window_at choice list)) list.formulas
  pub rising : AllPairs (λ first later. formula_cmp first later ≡ Less) list.formulas

-- the lists of the selected peaks: by falling m/z, with intervals that are disjoint and wholly below the precursor's,
-- each of some intensity
pub record ArePeakLists (choice : Choice) (precursor : ℕ) (lists : List FormulaListValue) : Type 0 where
  pub falling : AllPairs (λ one later. later.mz < one.mz) lists
  pub apart : AllPairs (λ one later. AreApart choice one.mz later.mz) lists
  pub below : All (λ list. LiesBelow choice list.mz precursor) lists
  pub intense : All (λ list. 0 < list.intensity) lists

-- the lists of a spectrum, and a root that is in the precursor's
pub record AreLists (choice : Choice) (root : List ℕ) (lists : List FormulaListValue) : Type 0 where
  pub some : 0 < length lists
  pub few : length lists < greatest_lists
  pub each : All (IsList choice) lists
  pub holds_root : Contains (list_at lists 0).formulas root
  pub peaks : ArePeakLists choice (list_at lists 0).mz (drop 1 lists)

-- the greatest intensity of the selected peaks
abbrev pub greatest_intensity : List FormulaListValue → ℕ
greatest_intensity lists = fold max 0 (map (λ list. list.intensity) (drop 1 lists))
