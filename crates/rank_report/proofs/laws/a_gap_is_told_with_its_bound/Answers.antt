use Rattle.std.proofs.Common.{refl}
use Rattle.std.specs.Fmt.{digits}
use Rattle.rank_report.proofs.laws.a_gap_is_told_with_its_bound.Goals as goal

pub returns-clause-gap : goal.returns-clause-gap
unfolding digits
returns-clause-gap c = refl
