use Rattle.std.proofs.Common.{◌≡◌, take}
use Rattle.colour_graph.specs.Colourful.{total}
use Rattle.price_bound.proofs.Totals.{IsSumNear}
use Rattle.price_bound.proofs.total.sum.Given as goal

abbrev pub invariant-loop-number : goal.invariant-loop-number
invariant-loop-number l = record {
  so_far : l.sum ≡ total (take l.number-index l.numbers);
  near : IsSumNear l.sum l.number-index;
}
