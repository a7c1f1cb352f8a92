use Rattle.std.proofs.Common.{◌≡◌, ◌+◌, ◌<◌, Bool, true, List, ◌∷◌, length, map}
use Rattle.colour_graph.specs.Graph.{colour_count, edge_at}
use Rattle.subset_tree.specs.inside.Rebuilding.{sum_with}
use Rattle.tree_certificate.specs.ColourSet.{IsPartOf, place_of}
use Rattle.tree_certificate.specs.TableHolds.{number_of}
use Rattle.subset_tree.proofs.rebuilding.find_part.Given as goal

abbrev pub invariant-loop-part : goal.invariant-loop-part
invariant-loop-part l =
    (set : List Bool) → place_of set ≡ l.rest → l.colour + length set ≡ colour_count l.graph
    → (part : List Bool) → IsPartOf part set → place_of part < l.part
    → sum_with l.graph (map (λ row. row.items) l.rows) set l.edge part
    ≡ number_of l.graph (map (λ row. row.items) l.rows) (edge_at l.graph l.edge).tail (true ∷ set) → ⊥
