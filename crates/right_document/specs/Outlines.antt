-- What the lists of an outline are.
use Rattle.std.specs.Prelude.{◌≤◌, ◌<◌, ◌+◌, ℕ, List, length, ⊤}
use Rattle.std.specs.List.{All, Contains}
use Rattle.adducts.specs.declared.choice.Choice.{Choice}
use Rattle.element_table.specs.FormulaList.{FormulaListValue}
use Rattle.loss_graph.specs.Lists.{AreLists, IsList, greatest_lists, list_at}
use Rattle.tree_document.specs.Outline.{OutlineValue, skipped, listed}

-- The lists of a spectrum: one for the precursor and one for each selected peak, which are no more than were chosen;
-- where they are not too many, a graph can be built from them for each formula of the precursor's.
pub record AreOwnLists (choice : Choice) (lists : List FormulaListValue) : Type 0 where
  pub some : 0 < length lists
  pub few : length lists ≤ choice.peaks + 1
  pub each : All (IsList choice) lists
  pub roots : length lists < greatest_lists
      → (root : List ℕ) → Contains (list_at lists 0).formulas root → AreLists choice root lists

-- if an outline has lists, they are those of a spectrum
abbrev pub HasOwnLists : Choice → OutlineValue → Type 0
HasOwnLists choice (skipped reason) = ⊤
HasOwnLists choice (listed lists) = AreOwnLists choice lists
