-- What is read is a profile.
use Rattle.std.proofs.Common.{◌≡◌, ◌≤◌, ◌+◌, ℕ, Bool, List, [], true, false, length, Option, Some, None, Ok, codes}
use Rattle.std.proofs.Common.{nat_lt, refl, rules as common_rules, subst, arith, ◌++◌}
use Rattle.std.proofs.lemmas.List.Elements.{All-nil}
use Rattle.std.specs.Prelude.{All, option_and_then, unwrap_or}
use Rattle.std.specs.List.{list_any}
use Rattle.std.specs.Option.{option_map_or}
use Rattle.element_table.specs.Formula.{IsFormula}
use Rattle.element_table.specs.Rule.{IsRule}
use Rattle.toml.specs.Data.{Items, Members, as_array, as_table, get_member, no_items, no_members}
use Rattle.profile.specs.Profile.{ProfileValue, IsProfile, default_limits, greatest_rules}
use Rattle.profile.specs.Form.{limits, rules, scores, whole}
use Rattle.profile.specs.inside.Fine.{IsFine}
use Rattle.profile.specs.Places.{known_of, places_of}
use Rattle.profile.specs.ProfileOf.{profile_in, profile_of, table_of, unless_refused}
use Rattle.profile.specs.Refusal.{refusal_of}
use Rattle.profile.specs.Values.{limits_of, profile_value_of, rules_said, tables_said}
use Rattle.profile.specs.Table.{table_at}
use Rattle.score_tables.specs.Default.{default_tables}
use Rattle.score_tables.specs.Tables.{IsScores, ScoresValue, in_formula_order}
use Rattle.profile.proofs.ScoreLaws.{ReadsFormulas, tables_right}
use Rattle.profile.specs.declared.fault.ProfileFault.{ProfileFault}
use Rattle.profile.proofs.FineLaws.{fine_array, fine_table}
use Rattle.profile.proofs.LimitLaws.{limits_are_counts, some_limit_of}
use Rattle.profile.proofs.RuleLaws.{all_rules, few_from_excess}
use Rattle.profile.proofs.SettingLaws.{setting}

some_element : (entries : Members) (found : Option Members) → IsFine whole entries
    → option_and_then as_table (get_member (codes "elements") entries) ≡ found
    → list_any (nat_lt 0) (option_map_or limits_of found default_limits) ≡ true
some_element entries None fine is = refl
some_element entries (Some elements) fine is =
    some_limit_of (fine.before ++ codes "elements") elements
    (fine_table whole limits entries (codes "elements") elements fine (λ known. refl) refl is).0

default_limits-formula : IsFormula default_limits
default_limits-formula = search common_rules

limits_formula : (entries : Members) (found : Option Members) → IsFine whole entries
    → option_and_then as_table (get_member (codes "elements") entries) ≡ found
    → IsFormula (option_map_or limits_of found default_limits)
limits_formula entries None fine is = default_limits-formula
limits_formula entries (Some elements) fine is =
    limits_are_counts elements (fine_table whole limits entries (codes "elements") elements fine
    (λ known. refl) refl is).1

rules_right : (neutral : Bool) (entries : Members) (found : Option Items) → IsFine whole entries
    → option_and_then as_array (get_member (codes "rules") entries) ≡ found
    → All IsRule (rules_said neutral (unwrap_or found no_items))
rules_right neutral entries None fine is = All-nil IsRule
rules_right neutral entries (Some items) fine is =
    all_rules neutral items (fine_array whole rules entries (codes "rules") items fine (λ known. refl) refl is).2

rules_few : (entries : Members) (found : Option Items) → IsFine whole entries
    → option_and_then as_array (get_member (codes "rules") entries) ≡ found
    → length (rules_said false (unwrap_or found no_items)) + length (rules_said true (unwrap_or found no_items))
    ≤ greatest_rules
rules_few entries None fine is = omega arith
rules_few entries (Some items) fine is =
    few_from_excess items (fine_array whole rules entries (codes "rules") items fine (λ known. refl) refl is).1

abbrev pub SortsRight : Type 0
SortsRight = (tables : ScoresValue) → IsScores tables → IsScores (in_formula_order tables)

scores_right : ReadsFormulas → IsScores default_tables → (entries : Members) (found : Option Members)
    → IsFine whole entries → option_and_then as_table (get_member (codes "scores") entries) ≡ found
    → IsScores (tables_said (unwrap_or found no_members))
scores_right reads default entries None fine is = default
scores_right reads default entries (Some tables) fine is =
    tables_right reads default tables (fine_table whole scores entries (codes "scores") tables fine
    (λ known. refl) refl is).1

-- of a table of which nothing is refused
pub is_profile : ReadsFormulas → IsScores default_tables → SortsRight → (entries : Members) → IsFine whole entries
    → IsProfile (profile_value_of entries)
is_profile reads default sorts entries fine =
    let peaks = setting entries (codes "peaks") 1 12 12 fine (λ known. refl) (omega arith) (omega arith)
    (omega arith) in
    record {
      ppm = (setting entries (codes "ppm") 0 100 10 fine (λ known. refl) (omega arith) (omega arith) (omega arith)).to;
      abs = (setting entries (codes "abs") 0 2000000 10000 fine (λ known. refl) (omega arith) (omega arith)
          (omega arith)).to;
      some_peak = peaks.from;
      peaks = peaks.to;
      budget = (setting entries (codes "budget") 0 10000 200 fine (λ known. refl) (omega arith) (omega arith)
          (omega arith)).to;
      limits = limits_formula entries (option_and_then as_table (get_member (codes "elements") entries)) fine refl;
      rules = rules_right false entries (option_and_then as_array (get_member (codes "rules") entries)) fine refl;
      neutral_rules = rules_right true entries (option_and_then as_array (get_member (codes "rules") entries)) fine
          refl;
      few_rules = rules_few entries (option_and_then as_array (get_member (codes "rules") entries)) fine refl;
      scores = sorts (tables_said (table_at entries (codes "scores")))
          (scores_right reads default entries (option_and_then as_table (get_member (codes "scores") entries)) fine
          refl);
      some_element = some_element entries (option_and_then as_table (get_member (codes "elements") entries)) fine refl;
    }

by_refusal : ReadsFormulas → IsScores default_tables → SortsRight
    → (entries : Members) (found : Option ProfileFault) (profile : ProfileValue)
    → refusal_of (places_of entries) ≡ found → unless_refused found (profile_value_of entries) ≡ Ok profile
    → IsProfile profile
by_refusal reads default sorts entries None profile fine is =
    let same : profile_value_of entries ≡ profile = cc in
    subst IsProfile same (is_profile reads default sorts entries
    (record { before = []; named = (known_of entries).named; nothing = fine }))
by_refusal reads default sorts entries (Some fault) profile fine is = cc

by_table : ReadsFormulas → IsScores default_tables → SortsRight → (found : Option Members) (profile : ProfileValue)
    → profile_in found ≡ Ok profile → IsProfile profile
by_table reads default sorts None profile is = cc
by_table reads default sorts (Some entries) profile is =
    by_refusal reads default sorts entries (refusal_of (places_of entries)) profile refl is

-- of any bytes
pub what_is_read : ReadsFormulas → IsScores default_tables → SortsRight → (bytes : List ℕ) (profile : ProfileValue)
    → profile_of bytes ≡ Ok profile → IsProfile profile
what_is_read reads default sorts bytes profile is = by_table reads default sorts (table_of bytes) profile is
