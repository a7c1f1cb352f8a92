use Rattle.std.proofs.Common.{rules}
use Rattle.std.proofs.lemmas.List.Sorted.{answers_always}
use Rattle.score_tables.proofs.LossTables.{rising_after_sort, sorted_losses_after_sort}
use Rattle.score_tables.proofs.table.sort_losses.Goals as goal

pub returns-clause-rising : goal.returns-clause-rising
returns-clause-rising c =
    rising_after_sort c.args.table.now.items c.sort_unstable_by_key.new.self.items c.requires
    c.sort_unstable_by_key.ensures.permutation
    (c.sort_unstable_by_key.ensures.sorted (λ entry. entry.0) (answers_always _ _ _ (λ f a r g called. search rules)))
    c.sorted_formulas_rise.ensures

pub returns-clause-table : goal.returns-clause-table
returns-clause-table c =
    sorted_losses_after_sort c.args.table.now.items c.sort_unstable_by_key.new.self.items (returns-clause-rising c)
    c.sort_unstable_by_key.ensures.permutation
