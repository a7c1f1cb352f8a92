use Rattle.std.proofs.Common.{sym, []}
use Rattle.toml.specs.View.{table_view}
use Rattle.profile.proofs.ScoreLaws.{fine_named, near_scores}
use Rattle.profile.proofs.scores.named_in.Goals as goal

pub losses_of-requires : goal.losses_of-requires
losses_of-requires c =
    let losses = table_view c.in-Some.table.now in
    near_scores [] losses (fine_named (table_view c.args.scores.now) losses c.requires (sym c.in-Some.ensures)).1
