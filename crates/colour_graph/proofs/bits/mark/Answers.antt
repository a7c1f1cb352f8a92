use Rattle.colour_graph.proofs.Marks.{is_marked-mark}
use Rattle.colour_graph.proofs.bits.mark.Goals as goal

pub returns : goal.returns
returns c = is_marked-mark c.args.words.now c.args.place c.requires
