use Rattle.std.proofs.Common.{◌∙◌, ◌&&◌, ap, arith, leb, ltb, not}
use Rattle.colour_graph.specs.EdgeSet.{is_allowed}
use Rattle.colour_graph.proofs.Sets.{keeping-same}
use Rattle.colour_graph.proofs.allowed.Allowed.take_out_row.Goals as goal

pub returns : goal.returns
returns c = keeping-same _ c.args.self.now c.loop-edge.self c.loop-edge.invariant.long
    (λ edge within. c.loop-edge.invariant.each edge
    ∙ ap (λ past. is_allowed c.args.self.now edge && not (leb c.args.first edge && ltb edge past)) (omega arith))
