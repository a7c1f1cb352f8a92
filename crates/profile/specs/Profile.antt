-- A profile as plain values, and the default one.
use Rattle.std.specs.Prelude.{◌≤◌, ◌+◌, ◌++◌, ℕ, List, [], ◌∷◌, All, IsTrue, length, nat_lt, replicate}
use Rattle.std.specs.List.{list_any}
use Rattle.element_table.specs.Formula.{IsFormula}
use Rattle.element_table.specs.Rule.{IsRule, Rule}
use Rattle.score_tables.specs.Default.{default_scores}
use Rattle.score_tables.specs.Tables.{IsScores, ScoresValue}

pub record ProfileValue : Type 0 where
  pub ppm : ℕ
  pub abs : ℕ
  pub peaks : ℕ
  pub budget : ℕ
  pub limits : List ℕ
  pub rules : List Rule
  pub neutral_rules : List Rule
  pub scores : ScoresValue

-- the greatest numbers of a profile: half the width of a window in parts in a million and its least value in units,
-- how many peaks are selected, and how many splits
abbrev pub greatest_ppm : ℕ
greatest_ppm = 100

abbrev pub greatest_abs : ℕ
greatest_abs = 2000000

abbrev pub greatest_peaks : ℕ
greatest_peaks = 12

abbrev pub greatest_budget : ℕ
greatest_budget = 10000

-- how many rules a text may have, those for candidates among them
abbrev pub greatest_rules : ℕ
greatest_rules = 32

-- what every profile is: its numbers are in their ranges, some element may stand in a formula, each rule is one,
-- and so are the tables of scores
pub record IsProfile (profile : ProfileValue) : Type 0 where
  pub ppm : profile.ppm ≤ greatest_ppm
  pub abs : profile.abs ≤ greatest_abs
  pub some_peak : 1 ≤ profile.peaks
  pub peaks : profile.peaks ≤ greatest_peaks
  pub budget : profile.budget ≤ greatest_budget
  pub limits : IsFormula profile.limits
  pub rules : All IsRule profile.rules
  pub neutral_rules : All IsRule profile.neutral_rules
  pub scores : IsScores profile.scores
  pub few_rules : length profile.rules + length profile.neutral_rules ≤ greatest_rules
  pub some_element : IsTrue (list_any (nat_lt 0) profile.limits)

-- H 200, C 100, N 20, O 40, P 3 and S 3
abbrev pub default_limits : List ℕ
default_limits = (200 ∷ 100 ∷ 20 ∷ 40 ∷ 3 ∷ 3 ∷ []) ++ replicate 10 0

abbrev pub default_profile_value : ProfileValue
default_profile_value = record {
  ppm = 10;
  abs = 10000;
  peaks = 12;
  budget = 200;
  limits = default_limits;
  rules = [];
  neutral_rules = [];
  scores = default_scores;
}
