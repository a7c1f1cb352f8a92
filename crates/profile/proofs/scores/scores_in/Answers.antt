use Rattle.std.proofs.Common.{sym, refl, codes}
use Rattle.toml.specs.View.{table_view}
use Rattle.profile.specs.Form.{scores, whole}
use Rattle.profile.proofs.FineLaws.{fine_table}
use Rattle.profile.proofs.scores.scores_in.Goals as goal

pub scores_of-requires : goal.scores_of-requires
scores_of-requires c = (fine_table whole scores (table_view c.args.table.now) (codes "scores")
    (table_view c.in-Some.scores.now) c.requires (λ known. refl) refl (sym c.in-Some.ensures)).1
