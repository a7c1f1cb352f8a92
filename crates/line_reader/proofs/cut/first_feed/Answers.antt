use Rattle.line_reader.proofs.Cutting.{feed-found}
use Rattle.line_reader.proofs.cut.first_feed.Goals as goal

pub returns-clause-place : goal.returns-clause-place
returns-clause-place c = feed-found c.args.bytes.now c.memchr.result c.memchr.ensures
