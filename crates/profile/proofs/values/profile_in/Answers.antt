use Rattle.std.proofs.Common.{codes, refl, arith}
use Rattle.toml.specs.View.{table_view}
use Rattle.profile.proofs.ProfileLaws.{is_profile}
use Rattle.profile.proofs.SettingLaws.{setting}
use Rattle.profile.proofs.values.profile_in.Goals as goal

pub count_at-requires : goal.count_at-requires
count_at-requires c = (setting (table_view c.args.table.now) (codes "ppm") 0 100 10 c.requires (λ known. refl)
    (omega arith) (omega arith) (omega arith)).fits

pub count_at-requires-2 : goal.count_at-requires-2
count_at-requires-2 c = (setting (table_view c.args.table.now) (codes "abs") 0 2000000 10000 c.requires (λ known. refl)
    (omega arith) (omega arith) (omega arith)).fits

pub count_at-requires-3 : goal.count_at-requires-3
count_at-requires-3 c = (setting (table_view c.args.table.now) (codes "peaks") 1 12 12 c.requires (λ known. refl)
    (omega arith) (omega arith) (omega arith)).fits

pub count_at-requires-4 : goal.count_at-requires-4
count_at-requires-4 c = (setting (table_view c.args.table.now) (codes "budget") 0 10000 200 c.requires (λ known. refl)
    (omega arith) (omega arith) (omega arith)).fits

pub invariant_of-result : goal.invariant_of-result
invariant_of-result c =
    let known = is_profile c.a_read_formula_is_one.ensures c.default_tables_are_right.ensures
    c.sorted_tables_are_right.ensures (table_view c.args.table.now) c.requires in
    record {
      ppm = rw c.count_at.ensures known.ppm;
      abs = rw c.count_at-2.ensures known.abs;
      some_peak = rw c.count_at-3.ensures known.some_peak;
      peaks = rw c.count_at-3.ensures known.peaks;
      budget = rw c.count_at-4.ensures known.budget;
      limits = rw c.limits_in.ensures known.limits;
      rules = rw c.in_ok-rules_in.ensures known.rules;
      neutral_rules = rw c.in_ok-rules_in-2.ensures known.neutral_rules;
      few_rules = rw (c.in_ok-rules_in.ensures, c.in_ok-rules_in-2.ensures) known.few_rules;
      scores = rw c.in_ok-scores_in.ensures known.scores;
      some_element = rw c.limits_in.ensures known.some_element;
    }
