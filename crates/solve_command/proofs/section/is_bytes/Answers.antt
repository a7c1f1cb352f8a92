use Rattle.std.proofs.Common.{arith}
use Rattle.solve_command.proofs.AreGoodLines.{title_is_bytes}
use Rattle.solve_command.proofs.section.is_bytes.Goals as goal

pub returns : goal.returns
returns c = title_is_bytes c.args.title.now (λ place. omega (arith, c.type_inv.title place))
