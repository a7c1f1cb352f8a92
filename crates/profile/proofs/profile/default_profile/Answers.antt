use Rattle.std.proofs.Common.{rules}
use Rattle.score_tables.specs.Default.{default_tables}
use Rattle.profile.proofs.profile.default_profile.Goals as goal

pub invariant_of-result : goal.invariant_of-result
invariant_of-result c = record {
  ppm = search rules;
  abs = search rules;
  some_peak = search rules;
  peaks = search rules;
  budget = search rules;
  limits = search rules;
  rules = search rules;
  neutral_rules = search rules;
  scores = rw c.in_ok-default_tables.ensures
      (c.sorted_tables_are_right.ensures default_tables c.default_tables_are_right.ensures);
  few_rules = search rules;
  some_element = search rules;
}
