use Rattle.std.proofs.Common.{◌∙◌, ◌||◌, ap, arith}
use Rattle.std.proofs.lemmas.List.{take_all}
use Rattle.colour_graph.specs.EdgeSet.{is_allowed, is_named}
use Rattle.certificate_checker.proofs.SplitSides.{adding-same}
use Rattle.certificate_checker.proofs.sides.put_part.Goals as goal

pub returns : goal.returns
returns c = adding-same c.args.allowed.now c.args.part.now c.loop-edge.allowed c.loop-edge.invariant.long
    (λ edge within. c.loop-edge.invariant.each edge within
    ∙ ap (λ part. is_allowed c.args.allowed.now edge || is_named part edge)
    (take_all _ c.args.part.now (omega arith)))
