-- What settings that were made stand for.
use Rattle.right_document.specs.declared.settings.RunSettings.{RunSettings}
use Rattle.right_document.specs.declared.settings.SolveSettings.{SolveSettings}
use Rattle.right_document.specs.RunSettings.{RunSettingsValue}
use Rattle.right_document.specs.SolveSettings.{SolveSettingsValue}

abbrev pub settings_value_of : {X : Type 0} {F : X → Type 0} {g : _} → RunSettings X F g → RunSettingsValue
settings_value_of settings =
    record { choice = settings.choice; limits = settings.limits; rules = settings.sieve.rules.items }

abbrev pub solve_settings_value_of : {X : Type 0} {F : X → Type 0} {g : _} → SolveSettings X F g → SolveSettingsValue
solve_settings_value_of settings = record {
  listing = settings_value_of settings.listing;
  candidate_rules = settings.candidate_rules.items;
  scores = settings.scores.now;
  budget = settings.budget;
}
