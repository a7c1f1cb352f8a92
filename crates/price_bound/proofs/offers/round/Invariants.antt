use Rattle.std.proofs.Common.{◌<◌, ℕ}
use Rattle.tree_certificate.specs.Number.{number_in}
use Rattle.price_bound.specs.inside.Exact.{IsAmount}
use Rattle.price_bound.proofs.offers.round.Given as goal

abbrev pub invariant-loop-colour : goal.invariant-loop-colour
invariant-loop-colour l = (place : ℕ) → place < l.colour → IsAmount (number_in l.prices place)
