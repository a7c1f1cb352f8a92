-- What trees are found under, beside what lists are made under.
use Rattle.std.specs.Prelude.{ℕ, List, ◌∷◌}
use Rattle.adducts.specs.Adduct.{AdductValue}
use Rattle.element_table.specs.Rule.{Rule, neutral_rule_of}
use Rattle.profile.specs.Profile.{ProfileValue}
use Rattle.score_tables.specs.Tables.{ScoresValue}
use Rattle.right_document.specs.RunSettings.{RunSettingsValue, run_settings_of}

pub record SolveSettingsValue : Type 0 where
  pub listing : RunSettingsValue
  -- the rules that a candidate has to pass
  pub candidate_rules : List Rule
  pub scores : ScoresValue
  -- how many splits a bound has that is above the score of its tree
  pub budget : ℕ

-- those of a profile and an adduct: a candidate is a molecule without unpaired electron, and passes the profile's own
-- rules
abbrev pub solve_settings_of : ProfileValue → AdductValue → SolveSettingsValue
solve_settings_of profile adduct = record {
  listing = run_settings_of profile adduct;
  candidate_rules = neutral_rule_of ∷ profile.neutral_rules;
  scores = profile.scores;
  budget = profile.budget;
}
