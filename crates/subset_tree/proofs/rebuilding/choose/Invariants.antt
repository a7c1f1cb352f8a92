use Rattle.std.proofs.Common.{◌≡◌, ◌+◌, ◌<◌, ◌≤◌, Bool, List, ℕ, length, map}
use Rattle.colour_graph.specs.Graph.{colour_count, edge_at}
use Rattle.subset_tree.specs.inside.Rebuilding.{IsMissed}
use Rattle.tree_certificate.specs.ColourSet.{place_of}
use Rattle.subset_tree.proofs.rebuilding.choose.Given as goal

abbrev pub invariant-loop-edge : goal.invariant-loop-edge
invariant-loop-edge l =
    (edge : ℕ) → l.first ≤ edge → edge < l.edge → (edge_at l.graph edge).tail ≡ l.vertex
    → (set : List Bool) → place_of set ≡ l.rest → l.colour + length set ≡ colour_count l.graph
    → IsMissed l.graph (map (λ row. row.items) l.rows) set edge
