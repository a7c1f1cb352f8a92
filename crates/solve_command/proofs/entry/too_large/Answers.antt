use Rattle.std.proofs.Common.{arith}
use Rattle.solve_command.proofs.GoodTrees.{too_large_is_good}
use Rattle.solve_command.proofs.entry.too_large.Goals as goal

pub returns-clause-good : goal.returns-clause-good
returns-clause-good c = too_large_is_good c.args.vertices (omega arith)
