-- `LiesBelow`: an interval that lies below another is that of a smaller m/z.
use Rattle.std.proofs.Common.{ℕ, ◌<◌, arith}
use Rattle.adducts.specs.declared.choice.Choice.{Choice}
use Rattle.adducts.specs.Selected.{LiesBelow}

pub less_from_below : (choice : Choice) (low high : ℕ) → LiesBelow choice low high → low < high
less_from_below choice low high below =
    below low high (record { not_below = omega arith; not_above = omega arith })
    (record { not_below = omega arith; not_above = omega arith })
