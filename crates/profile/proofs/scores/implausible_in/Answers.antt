use Rattle.std.proofs.Common.{sym}
use Rattle.toml.specs.View.{table_view}
use Rattle.profile.proofs.ScoreLaws.{fine_implausible, near_scores}
use Rattle.profile.proofs.scores.implausible_in.Goals as goal

pub losses_of-requires : goal.losses_of-requires
losses_of-requires c =
    let losses = table_view c.in-Some.table.now in
    near_scores c.requires.named losses (fine_implausible (table_view c.args.scores.now) losses c.requires
    (sym c.in-Some.ensures)).1
