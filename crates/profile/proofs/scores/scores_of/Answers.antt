use Rattle.std.proofs.Common.{◌∙◌, subst, sym, rules, w16, FitsSigned}
use Rattle.std.proofs.lemmas.Int.{to_z-of_z}
use Rattle.score_tables.specs.Tables.{IsScores}
use Rattle.toml.specs.View.{table_view}
use Rattle.profile.proofs.ScoreLaws.{negative_near, radical_near, tables_right, tables_same}
use Rattle.profile.proofs.scores.scores_of.Goals as goal

pub score_at-requires : goal.score_at-requires
score_at-requires c = radical_near (table_view c.args.scores.now) c.requires

pub score_at-requires-2 : goal.score_at-requires-2
score_at-requires-2 c = negative_near (table_view c.args.scores.now) c.requires

pub new-requires : goal.new-requires
new-requires c =
    let entries = table_view c.args.scores.now in
    let fits_radical : FitsSigned w16 c.score_at.result = search rules in
    let fits_negative : FitsSigned w16 c.score_at-2.result = search rules in
    let same = tables_same entries _ _ _ _ _ _ _ c.in_ok-intensity_in.ensures c.in_ok-error_in.ensures
    c.in_ok-named_in.ensures c.in_ok-implausible_in.ensures
    (to_z-of_z w16 c.score_at.result fits_radical ∙ c.score_at.ensures) (to_z-of_z w16 c.score_at-2.result fits_negative
    ∙ c.score_at-2.ensures) c.size_in.ensures in
    subst IsScores (sym same) (tables_right c.a_read_formula_is_one.ensures c.default_tables_are_right.ensures entries
    c.requires)
