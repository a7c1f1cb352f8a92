use Rattle.std.proofs.Common.{◌≡◌, ◌<◌, ℕ, pos}
use Rattle.tree_certificate.specs.Number.{number_in}
use Rattle.price_bound.proofs.exact.clear.Given as goal

abbrev pub invariant-loop-number : goal.invariant-loop-number
invariant-loop-number l = (place : ℕ) → place < l.number-index → number_in l.numbers place ≡ pos 0
