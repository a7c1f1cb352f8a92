-- The profile that a table gives which is not refused. What the table does not name is as in the default profile.
use Rattle.std.specs.Prelude.{ℕ, ℤ, pos, negsuc, Bool, true, false, not, List, [], ◌∷◌, map, filter, Option, Some, None}
use Rattle.std.specs.Prelude.{option_and_then, unwrap_or, codes, if◌then◌else◌}
use Rattle.std.specs.Option.{option_map_or}
use Rattle.element_table.specs.Formula.{empty_formula}
use Rattle.element_table.specs.Rule.{Rule, Parity, any, even, odd}
use Rattle.score_tables.specs.Default.{default_tables}
use Rattle.score_tables.specs.Tables.{LossTable, ScoresValue, ShareTable, in_formula_order}
use Rattle.toml.specs.Data.{Data, as_array, as_integer, as_table, get_member, Items, no_items, item, Members}
use Rattle.toml.specs.Data.{no_members, member}
use Rattle.profile.specs.Form.{pair_bound, pair_score}
use Rattle.profile.specs.Losses.{key_formula}
use Rattle.profile.specs.Profile.{ProfileValue, default_profile_value}
use Rattle.profile.specs.Table.{number_at, says, table_at, items_at, element_numbers}

-- an integer that is not negative, as a count
abbrev pub as_count : ℤ → ℕ
as_count (pos n) = n
as_count (negsuc n) = 0

abbrev pub limits_of : Members → List ℕ
limits_of members = map as_count (element_numbers members)

abbrev pub parity_said : Members → Parity
parity_said members =
    if says members (codes "parity") (codes "even") then even
    else if says members (codes "parity") (codes "odd") then odd else any

abbrev pub rule_of : Members → Rule
rule_of members = record {
  coefficients = element_numbers (table_at members (codes "coefficients"));
  constant = number_at members (codes "constant") (pos 0);
  parity = parity_said members;
}

-- a rule that only candidates have to pass
abbrev pub is_neutral : Members → Bool
is_neutral members = says members (codes "apply") (codes "neutral")

abbrev pub put_table : Option Members → List Members → List Members
put_table None tables = tables
put_table (Some members) tables = members ∷ tables

abbrev pub tables_in : Items → List Members
tables_in no_items = []
tables_in (item value items) = put_table (as_table value) (tables_in items)

-- whether a rule is one of those that only candidates have to pass, or one of the others
abbrev pub is_kept : Bool → Members → Bool
is_kept true rule = is_neutral rule
is_kept false rule = not (is_neutral rule)

-- the rules that only candidates have to pass, or the others, in their order
abbrev pub rules_said : Bool → Items → List Rule
rules_said neutral items = map rule_of (filter (is_kept neutral) (tables_in items))

-- the bound and the score of a pair
abbrev pub pair_said : Data → ℕ × ℤ
pair_said value = (as_count (pair_bound value), pair_score value)

abbrev pub shares_said : Items → ShareTable
shares_said no_items = []
shares_said (item value items) = pair_said value ∷ shares_said items

-- the loss of a key, and its score
abbrev pub loss_said : List ℕ → Data → List ℕ × ℤ
loss_said key value = (unwrap_or (key_formula key) empty_formula, unwrap_or (as_integer value) (pos 0))

abbrev pub losses_said : Members → LossTable
losses_said no_members = []
losses_said (member key value members) = loss_said key value ∷ losses_said members

-- the tables of a table `scores`
abbrev pub tables_said : Members → ScoresValue
tables_said members = record {
  intensity =
      option_map_or shares_said (option_and_then as_array (get_member (codes "intensity") members))
      default_tables.intensity;
  error =
      option_map_or shares_said (option_and_then as_array (get_member (codes "error") members)) default_tables.error;
  named =
      option_map_or losses_said (option_and_then as_table (get_member (codes "named") members)) default_tables.named;
  implausible =
      option_map_or losses_said (option_and_then as_table (get_member (codes "implausible") members))
      default_tables.implausible;
  radical = number_at members (codes "radical") default_tables.radical;
  negative = number_at members (codes "negative") default_tables.negative;
  size = as_count (number_at members (codes "size") (pos default_tables.size));
}

abbrev pub profile_value_of : Members → ProfileValue
profile_value_of members = record {
  ppm = as_count (number_at members (codes "ppm") (pos default_profile_value.ppm));
  abs = as_count (number_at members (codes "abs") (pos default_profile_value.abs));
  peaks = as_count (number_at members (codes "peaks") (pos default_profile_value.peaks));
  budget = as_count (number_at members (codes "budget") (pos default_profile_value.budget));
  limits =
      option_map_or limits_of (option_and_then as_table (get_member (codes "elements") members))
      default_profile_value.limits;
  rules = rules_said false (items_at members (codes "rules"));
  neutral_rules = rules_said true (items_at members (codes "rules"));
  scores = in_formula_order (tables_said (table_at members (codes "scores")));
}
