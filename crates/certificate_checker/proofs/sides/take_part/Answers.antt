use Rattle.std.proofs.Common.{◌∙◌, ◌&&◌, ap, arith, not}
use Rattle.std.proofs.lemmas.List.{take_all}
use Rattle.colour_graph.specs.EdgeSet.{is_allowed, is_named}
use Rattle.colour_graph.proofs.Sets.{keeping-same}
use Rattle.certificate_checker.proofs.sides.take_part.Goals as goal

pub returns : goal.returns
returns c = keeping-same _ c.args.allowed.now c.loop-edge.allowed c.loop-edge.invariant.long
    (λ edge within. c.loop-edge.invariant.each edge
    ∙ ap (λ part. is_allowed c.args.allowed.now edge && not (is_named part edge))
    (take_all _ c.args.part.now (omega arith)))
