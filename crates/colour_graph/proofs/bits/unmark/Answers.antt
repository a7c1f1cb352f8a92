use Rattle.colour_graph.proofs.Marks.{is_marked-unmark}
use Rattle.colour_graph.proofs.bits.unmark.Goals as goal

pub returns : goal.returns
returns c = is_marked-unmark c.args.words.now c.args.place c.requires
