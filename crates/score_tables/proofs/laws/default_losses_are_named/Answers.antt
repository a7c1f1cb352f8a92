use Rattle.std.proofs.Common.{refl}
use Rattle.std.specs.Fmt.{digits}
use Rattle.score_tables.proofs.laws.default_losses_are_named.Goals as goal

pub returns-clause-named : goal.returns-clause-named
unfolding digits
returns-clause-named c = refl

pub returns-clause-implausible : goal.returns-clause-implausible
unfolding digits
returns-clause-implausible c = refl
