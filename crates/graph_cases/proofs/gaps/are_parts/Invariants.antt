use Rattle.std.proofs.Common.{[], slice_index_or}
use Rattle.std.specs.List.{AllWithin}
use Rattle.element_table.specs.Formula.{IsProperPart}
use Rattle.graph_cases.proofs.gaps.are_parts.Given as goal

abbrev pub invariant-loop-place : goal.invariant-loop-place
invariant-loop-place l =
    AllWithin (λ edge. IsProperPart (slice_index_or l.formulas edge.head []) (slice_index_or l.formulas edge.tail []))
    l.graph.edges 0 l.place
