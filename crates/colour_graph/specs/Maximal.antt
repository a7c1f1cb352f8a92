-- Lists of edges to which no edge can be added with gain.
use Rattle.std.specs.Prelude.{◌≢◌, ◌<◌, ℕ, pos, ◌≤ℤ◌, List, length}
use Rattle.std.specs.List.{All}
use Rattle.colour_graph.specs.Graph.{Graph, edge_at, head_colour}
use Rattle.colour_graph.specs.Colourful.{IsReached}

-- no edge from the root or a head to a colour without a head has a positive weight
abbrev pub IsMaximal : Graph → List ℕ → Type 0
IsMaximal graph edges = (edge : ℕ) → edge < length graph.edges → IsReached graph edges (edge_at graph edge).tail
    → All (λ taken. head_colour graph taken ≢ head_colour graph edge) edges → (edge_at graph edge).weight ≤ℤ pos 0
