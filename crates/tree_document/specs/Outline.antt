-- The outline of a spectrum: its lists of formulas, or why it is skipped.
use Rattle.std.specs.Prelude.{List}
use Rattle.element_table.specs.FormulaList.{FormulaListValue}
use Rattle.tree_document.specs.declared.document.Skip.{Skip}
use Rattle.tree_document.specs.declared.outline.Outline.{Outline}
use Rattle.tree_document.specs.declared.outline.Outline.TheVariants.{Skipped, Listed}

-- what stands of a spectrum: why it was skipped, or its lists, the precursor's first
pub data OutlineValue : Type 0 where
  skipped : Skip → OutlineValue
  listed : List FormulaListValue → OutlineValue

abbrev pub outline_of : Outline → OutlineValue
outline_of (Skipped reason) = skipped reason
outline_of (Listed lists) = listed lists.items
