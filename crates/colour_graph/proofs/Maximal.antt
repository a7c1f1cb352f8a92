-- Of IsBest and IsMaximal: a best list of edges is maximal, since with an edge in front that could be added with gain
-- it would score more.
use Rattle.std.proofs.Common.{◌≢◌, ◌<◌, ℕ, suc, ℤ, pos, ◌+ℤ◌, ◌≤ℤ◌, true, IsTrue, List, ◌∷◌, length, get_or, sym, arith}
use Rattle.std.proofs.lemmas.Int.{ints}
use Rattle.std.proofs.lemmas.List.{get_or-replicate}
use Rattle.std.proofs.lemmas.List.Elements.{All-cons}
use Rattle.std.proofs.lemmas.List.Kept.{AllPairs-cons}
use Rattle.std.specs.List.{All}
use Rattle.colour_graph.specs.Bounded.{IsBest}
use Rattle.colour_graph.specs.Colourful.{IsColourful, IsReached, at_head, at_root, total, weights_of}
use Rattle.colour_graph.specs.EdgeSet.{all_edges, is_allowed}
use Rattle.colour_graph.specs.Graph.{Graph, edge_at, head_colour}
use Rattle.colour_graph.specs.Maximal.{IsMaximal}

IsReached-cons : (graph : Graph) (edge : ℕ) (edges : List ℕ) (vertex : ℕ) → IsReached graph edges vertex
    → IsReached graph (edge ∷ edges) vertex
IsReached-cons graph edge edges vertex (at_root is) = at_root is
IsReached-cons graph edge edges vertex (at_head (place, within, is)) = at_head (suc place, omega (arith, within), is)

-- A list of edges of the graph is one of all its edges.
pub all_allowed : (graph : Graph) (edges : List ℕ) → IsColourful graph edges
    → All (λ edge. IsTrue (is_allowed (all_edges graph) edge)) edges
all_allowed graph edges colourful place d within =
    get_or-replicate (length graph.edges) (get_or edges place d) true _ (colourful.in_range place d within)

-- An edge from a reached vertex to a colour without a head makes a longer colourful list.
pub IsColourful-cons : (graph : Graph) (edge : ℕ) (edges : List ℕ) → IsColourful graph edges
    → edge < length graph.edges → IsReached graph edges (edge_at graph edge).tail
    → All (λ taken. head_colour graph taken ≢ head_colour graph edge) edges → IsColourful graph (edge ∷ edges)
IsColourful-cons graph edge edges colourful within reached free = record {
  in_range = All-cons (λ (e : ℕ). e < length graph.edges) edge edges within colourful.in_range;
  one_of_a_colour =
      AllPairs-cons (λ (first later : ℕ). head_colour graph first ≢ head_colour graph later) edge edges
      (λ place d at same. free place d at (sym same)) colourful.one_of_a_colour;
  tails =
      All-cons (λ (e : ℕ). IsReached graph (edge ∷ edges) (edge_at graph e).tail) edge edges
      (IsReached-cons graph edge edges (edge_at graph edge).tail reached)
      (λ place d at. IsReached-cons graph edge edges (edge_at graph (get_or edges place d)).tail
      (colourful.tails place d at));
}

no_gain : (root weight rest : ℤ) → (root +ℤ (weight +ℤ rest)) ≤ℤ (root +ℤ rest) → weight ≤ℤ pos 0
no_gain root weight rest most = omega (arith, ints)

pub best_is_maximal : (graph : Graph) (edges : List ℕ) → IsBest graph edges → IsMaximal graph edges
best_is_maximal graph edges best edge within reached free =
    let longer : IsColourful graph (edge ∷ edges) =
    IsColourful-cons graph edge edges best.colourful within reached free in
    no_gain graph.root_score (edge_at graph edge).weight (total (weights_of graph edges))
    (best.greatest (edge ∷ edges) longer (all_allowed graph (edge ∷ edges) longer))
