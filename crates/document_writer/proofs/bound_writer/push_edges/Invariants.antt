use Rattle.std.proofs.Common.{◌≡◌, ◌++◌, take}
use Rattle.std.specs.Prelude.{codes, decimal}
use Rattle.std.specs.List.{flat_map}
use Rattle.document_writer.proofs.bound_writer.push_edges.Given as goal

abbrev pub invariant-loop-edge : goal.invariant-loop-edge
invariant-loop-edge l =
    l.text.items ≡ l.initial.text.items ++ flat_map (λ edge. codes " " ++ decimal edge) (take l.edge-index l.edges)
