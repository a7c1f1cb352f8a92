use Rattle.std.proofs.Common.{◌≡◌, map}
use Rattle.std.specs.List.{range_with_len}
use Rattle.price_bound.specs.inside.Exact.{AreAmounts}
use Rattle.price_bound.specs.inside.Kept.{best_into}
use Rattle.price_bound.proofs.starting.greatest_weights.Given as goal

abbrev pub invariant-loop-before : goal.invariant-loop-before
invariant-loop-before l = record {
  so_far : l.weights.items ≡ map (best_into l.graph l.allowed) (range_with_len 1 l.before);
  amounts : AreAmounts l.weights.items;
}
