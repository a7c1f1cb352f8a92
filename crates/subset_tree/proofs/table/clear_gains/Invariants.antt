use Rattle.std.proofs.Common.{◌≡◌, ◌<◌, ℕ, negsuc}
use Rattle.tree_certificate.specs.Number.{number_in}
use Rattle.subset_tree.proofs.table.clear_gains.Given as goal

abbrev pub invariant-loop-gain : goal.invariant-loop-gain
invariant-loop-gain l = (place : ℕ) → place < l.gain-index → number_in l.gains place ≡ negsuc 999999999
