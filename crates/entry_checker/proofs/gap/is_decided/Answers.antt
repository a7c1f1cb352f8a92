use Rattle.std.proofs.Common.{arith}
use Rattle.entry_checker.proofs.ColourCount.{fewer_colours}
use Rattle.entry_checker.proofs.gap.is_decided.Goals as goal

pub overflow_cast-before : goal.overflow_cast-before
overflow_cast-before c =
    let low = fewer_colours c.args.graph.now c.is_graph.ensures.colours in
    omega (arith, low, c.colour_count-before-end.ensures, c.requires.vertices)

pub overflow_add-before : goal.overflow_add-before
overflow_add-before c =
    let low = fewer_colours c.args.graph.now c.is_graph.ensures.colours in
    omega (arith, low, c.colour_count-before-end.ensures, c.requires.vertices)
