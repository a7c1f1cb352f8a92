use Rattle.score_tables.proofs.Defaults.{default_tables-right}
use Rattle.score_tables.proofs.laws.default_tables_are_right.Goals as goal

pub returns : goal.returns
returns c = default_tables-right
