use Rattle.std.proofs.Common.{◌≡◌, take}
use Rattle.colour_graph.specs.Colourful.{total}
use Rattle.certificate_checker.specs.inside.Gained.{IsPriceSum}
use Rattle.certificate_checker.proofs.prices.sum_of.Given as goal

abbrev pub invariant-loop-price : goal.invariant-loop-price
invariant-loop-price l = record {
  so_far : l.sum ≡ total (take l.price-index l.prices);
  near : IsPriceSum l.price-index l.sum;
}
