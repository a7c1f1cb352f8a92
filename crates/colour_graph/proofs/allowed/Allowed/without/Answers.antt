use Rattle.std.proofs.Common.{◌∙◌, ◌&&◌, ap, arith, not}
use Rattle.std.proofs.lemmas.List.{take_all}
use Rattle.colour_graph.specs.EdgeSet.{is_allowed, is_named}
use Rattle.colour_graph.proofs.Sets.{keeping-same}
use Rattle.colour_graph.proofs.allowed.Allowed.without.Goals as goal

pub returns-clause-left : goal.returns-clause-left
returns-clause-left c = keeping-same _ c.args.self.now c.loop-edge.set c.loop-edge.invariant.long
    (λ edge within. c.loop-edge.invariant.each edge
    ∙ ap (λ part. is_allowed c.args.self.now edge && not (is_named part edge))
    (take_all _ c.args.part.now (omega arith)))
