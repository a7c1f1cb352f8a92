use Rattle.std.proofs.Common.{arith}
use Rattle.price_bound.proofs.Edges.{colours-few}
use Rattle.branch_search.proofs.splitting.open_colour.Goals as goal

pub overflow_add-colour : goal.overflow_add-colour
overflow_add-colour c =
    let is = c.is_graph.ensures in
    let few = colours-few c.args.graph.now is.colours in
    omega (
      arith,
      few,
      is.colours.few,
      c.loop-colour-test.true,
      c.colour_count.ensures,
      c.from.ensures,
    )
