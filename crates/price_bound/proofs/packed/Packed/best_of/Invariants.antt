use Rattle.std.proofs.Common.{◌<◌}
use Rattle.price_bound.proofs.packed.Packed.best_of.Given as goal

abbrev pub invariant-loop-edge : goal.invariant-loop-edge
invariant-loop-edge l = l.best < 512
