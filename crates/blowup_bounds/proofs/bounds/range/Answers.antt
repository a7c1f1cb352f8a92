use Rattle.std.proofs.Common.{arith}
use Rattle.blowup_bounds.proofs.Rests.{mass-parted, rest-le_greatest}
use Rattle.blowup_bounds.proofs.bounds.range.Goals as goal

pub returns-clause-not_below : goal.returns-clause-not_below
returns-clause-not_below c = λ counts over reached light.
    let parted = mass-parted counts in
    let rest = rest-le_greatest c.args.most c.args.places.now counts over light in
    omega (arith, parted, rest, reached)

pub returns-clause-not_above : goal.returns-clause-not_above
returns-clause-not_above c = λ counts over reached light.
    let parted = mass-parted counts in
    omega (arith, parted, light)
