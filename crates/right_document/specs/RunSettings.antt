-- What lists are made under, and the list of an ion.
use Rattle.std.specs.Prelude.{ℕ, Bool, List, ◌∷◌, length, nat_lt}
use Rattle.element_table.specs.FormulaList.{FormulaListValue, greatest_list}
use Rattle.element_table.specs.Window.{Window, window_of}
use Rattle.element_table.specs.Rule.{Rule, fragment_rule_of}
use Rattle.element_table.specs.Listed.{listed_of}
use Rattle.adducts.specs.Adduct.{AdductValue}
use Rattle.adducts.specs.declared.choice.Choice.{Choice}
use Rattle.profile.specs.Profile.{ProfileValue}

-- the adduct, the width of windows and the number of selected peaks; the greatest count of each element; and the rules
-- of a fragment
pub record RunSettingsValue : Type 0 where
  pub choice : Choice
  pub limits : List ℕ
  pub rules : List Rule

-- the settings of a profile and an adduct: a fragment has at least the adduct's bound of rings and double bonds
abbrev pub run_settings_of : ProfileValue → AdductValue → RunSettingsValue
run_settings_of profile adduct = record {
  choice = record { adduct = adduct; ppm = profile.ppm; abs = profile.abs; peaks = profile.peaks };
  limits = profile.limits;
  rules = fragment_rule_of adduct.bound ∷ profile.rules;
}

-- the window of an ion at an m/z
abbrev pub window_at : RunSettingsValue → ℕ → Window
window_at settings mz = window_of settings.choice.adduct.shift settings.choice.ppm settings.choice.abs mz

-- the list of an ion: exactly the formulas in its window that the limits and the rules allow
abbrev pub formulas_at : RunSettingsValue → ℕ → List (List ℕ)
formulas_at settings mz = listed_of (window_at settings mz) settings.limits settings.rules

-- the list has more formulas than one may have
abbrev pub has_too_many : RunSettingsValue → ℕ → Bool
has_too_many settings mz = nat_lt greatest_list (length (formulas_at settings mz))

-- the list of an ion, with its m/z and its intensity
abbrev pub list_of_ion : RunSettingsValue → ℕ → ℕ → FormulaListValue
list_of_ion settings mz intensity = record { mz = mz; intensity = intensity; formulas = formulas_at settings mz }
