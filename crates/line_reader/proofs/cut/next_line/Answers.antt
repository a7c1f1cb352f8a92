use Rattle.line_reader.proofs.Cutting.{cut-found, cut-missing}
use Rattle.line_reader.proofs.cut.next_line.Goals as goal

pub returns : goal.returns
returns c = cut-found c.args.bytes.now c.in-Some.end c.in-Some.ensures.place

pub returns-in_default : goal.returns-in_default
returns-in_default c = cut-missing c.args.bytes.now c.in_default.ensures.place
