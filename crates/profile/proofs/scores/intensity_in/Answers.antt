use Rattle.std.proofs.Common.{sym}
use Rattle.toml.specs.View.{array_view, table_view}
use Rattle.profile.proofs.ScoreLaws.{fine_intensities}
use Rattle.profile.proofs.scores.intensity_in.Goals as goal

pub shares_of-requires : goal.shares_of-requires
shares_of-requires c = (fine_intensities (table_view c.args.scores.now) (array_view c.in-Some.items.now) c.requires
    (sym c.in-Some.ensures)).0
