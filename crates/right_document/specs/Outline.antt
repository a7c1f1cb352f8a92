-- Which outline is that of a spectrum: its lists of formulas, or why it is skipped.
use Rattle.std.specs.Prelude.{◌≡◌, ℕ, List, ◌∷◌, map, Option, Some, None}
use Rattle.std.specs.List.{find}
use Rattle.element_table.specs.FormulaList.{FormulaListValue}
use Rattle.mgf_reader.specs.Spectrum.{PeakValue}
use Rattle.adducts.specs.declared.outcome.Fit.{Fit}
use Rattle.adducts.specs.declared.outcome.Fit.TheVariants as Found
use Rattle.adducts.specs.Selected.{Selected}
use Rattle.tree_document.specs.declared.document.Skip.TheVariants.{NoPrecursor, Charge, Range, TooMany}
use Rattle.tree_document.specs.Outline.{OutlineValue, skipped, listed}
use Rattle.right_document.specs.RunSettings.{RunSettingsValue, has_too_many, list_of_ion}

-- the m/z of each list: the precursor's, then those of the selected peaks
abbrev pub mzs_of : ℕ → List PeakValue → List ℕ
mzs_of precursor selected = precursor ∷ map (λ peak. peak.mz) selected

-- the lists of a spectrum: the precursor's, which has the intensity 0, then those of the selected peaks
abbrev pub lists_of : RunSettingsValue → ℕ → List PeakValue → List FormulaListValue
lists_of settings precursor selected =
    list_of_ion settings precursor 0 ∷ map (λ peak. list_of_ion settings peak.mz peak.intensity) selected

-- what stands of the lists, where the first that has too many formulas is known
abbrev pub outline_with : Option ℕ → List FormulaListValue → OutlineValue
outline_with (Some mz) lists = skipped (TooMany mz)
outline_with None lists = listed lists

-- what stands of a spectrum with this precursor and these selected peaks: it is skipped for its first list with too
-- many formulas, if there is one; else its lists stand
abbrev pub explained : RunSettingsValue → ℕ → List PeakValue → OutlineValue
explained settings precursor selected =
    outline_with (find (has_too_many settings) (mzs_of precursor selected)) (lists_of settings precursor selected)

-- what stands of a spectrum: it is skipped for the first reason why it cannot be used, if there is one; else its lists
-- explain it
abbrev pub IsOutline : RunSettingsValue → List PeakValue → Fit → OutlineValue → Type 0
IsOutline settings peaks Found.NoPrecursor outline = outline ≡ skipped NoPrecursor
IsOutline settings peaks Found.Charge outline = outline ≡ skipped Charge
IsOutline settings peaks (Found.Range mz) outline = outline ≡ skipped (Range mz)
IsOutline settings peaks (Found.Usable mz) outline =
    (selected : List PeakValue) × Selected settings.choice mz peaks selected
    × (outline ≡ explained settings mz selected)
