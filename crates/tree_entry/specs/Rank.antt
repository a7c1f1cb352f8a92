-- The order of a section's entries: trees before candidates whose graph is too large; trees by falling score; then by
-- rising error; then in formula order.
use Rattle.std.specs.Prelude.{◌≢◌, List}
use Rattle.std.specs.List.{AllPairs}
use Rattle.std.specs.Ordering.{nat_cmp, int_cmp, ordering_then}
use Rattle.std.specs.declared.cmp.Ordering.{Ordering}
use Rattle.std.specs.declared.cmp.Ordering.TheVariants.{Less, Equal, Greater}
use Rattle.element_table.specs.Formula.{formula_cmp}
use Rattle.tree_document.specs.declared.entry.Entry.{Entry}
use Rattle.tree_document.specs.declared.entry.Outcome.{Outcome}
use Rattle.tree_document.specs.declared.entry.Outcome.TheVariants.{Tree, TooLarge}

-- by outcome: never by the upper bound
abbrev pub outcome_cmp : Outcome → Outcome → Ordering
outcome_cmp (Tree one) (Tree other) = int_cmp other.score one.score
outcome_cmp (Tree one) (TooLarge vertices) = Less
outcome_cmp (TooLarge vertices) (Tree other) = Greater
outcome_cmp (TooLarge one) (TooLarge other) = Equal

abbrev pub rank_cmp : Entry → Entry → Ordering
rank_cmp one other =
    ordering_then (ordering_then (outcome_cmp one.outcome other.outcome) (nat_cmp one.error other.error))
    (formula_cmp one.candidate other.candidate)

-- entries stand in rank order
abbrev pub AreRanked : List Entry → Type 0
AreRanked entries = AllPairs (λ one later. rank_cmp one later ≢ Greater) entries
