use Rattle.std.specs.List.{AllAdjacentBelow}
use Rattle.std.proofs.Common.{◌≡◌}
use Rattle.std.specs.declared.cmp.Ordering.TheVariants.{Less}
use Rattle.tree_entry.specs.Rank.{rank_cmp}
use Rattle.check_command.proofs.entries.first_wrong_order.Given as goal

abbrev pub invariant-loop-place : goal.invariant-loop-place
invariant-loop-place l = AllAdjacentBelow (λ one next. rank_cmp one next ≡ Less) l.entries l.place
