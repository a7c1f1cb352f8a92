use Rattle.std.proofs.Common.{◌<◌}
use Rattle.price_bound.proofs.rounds.best_prices.Given as goal

abbrev pub invariant-loop : goal.invariant-loop
invariant-loop l = l.fails < 10
