use Rattle.score_tables.proofs.Defaults.{right_as_default}
use Rattle.score_tables.proofs.scores.Scores.default_tables.Goals as goal

pub new-requires : goal.new-requires
new-requires c =
    right_as_default c.in_ok-default_intensity.field-0.items c.in_ok-default_error.field-0.items
    c.in_ok-default_named.field-0.items c.in_ok-default_implausible.field-0.items
    c.in_ok-default_intensity.ensures c.in_ok-default_error.ensures c.in_ok-default_named.ensures
    c.in_ok-default_implausible.ensures
