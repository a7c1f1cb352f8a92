-- How a tree is built, a colour at a time.
use Rattle.std.specs.Prelude.{◌≡◌, ◌≢◌, ◌≤◌, ◌<◌, ◌⊎◌, ◌↔◌, ℕ, ℤ, pos, negsuc, ◌≤ℤ◌, ◌<ℤ◌, Bool, false, IsTrue, List}
use Rattle.std.specs.Prelude.{Option, MatchOption, length, slice_index_or}
use Rattle.std.specs.List.{All, AllPairs}
use Rattle.colour_graph.specs.Colourful.{IsColourful, IsReached, score_of}
use Rattle.colour_graph.specs.EdgeSet.{is_allowed}
use Rattle.colour_graph.specs.Graph.{Graph, edge_at, head_colour}
use Rattle.colour_graph.specs.Maximal.{IsMaximal}
use Rattle.tree_certificate.specs.BoundValue.{PriceValue}
use Rattle.tree_certificate.specs.PriceHolds.{gain_by}

-- a number that may stand in a certificate
pub record IsNear (number : ℤ) : Type 0 where
  pub not_below : negsuc 999999999999999 ≤ℤ number
  pub not_above : number ≤ℤ pos 1000000000000000

-- whether a vertex is marked
abbrev pub is_marked : List Bool → ℕ → Bool
is_marked marks vertex = slice_index_or marks vertex false

-- An edge that a tree may take into a colour: its tail is reached, and it has a positive weight, or is in the set and
-- gains something.
pub record IsCandidate (graph : Graph) (allowed : List Bool) (cert : PriceValue) (marks : List Bool) (colour edge : ℕ)
    : Type 0 where
  pub within : edge < length graph.edges
  pub into : head_colour graph edge ≡ colour
  pub reached : IsTrue (is_marked marks (edge_at graph edge).tail)
  pub useful : (pos 0 <ℤ (edge_at graph edge).weight)
      ⊎ (IsTrue (is_allowed allowed edge) × (pos 0 <ℤ gain_by graph cert colour edge))

-- a candidate of greatest gain among the edges before a place, or none where there is none
abbrev pub IsBestBefore : Graph → List Bool → PriceValue → List Bool → ℕ → ℕ → Option ℕ → Type 0
IsBestBefore graph allowed cert marks colour past found =
    MatchOption found
    ((edge : ℕ) → edge < past → ¬ IsCandidate graph allowed cert marks colour edge)
    (λ best. IsCandidate graph allowed cert marks colour best
    × ((edge : ℕ) → edge < past → IsCandidate graph allowed cert marks colour edge
    → gain_by graph cert colour edge ≤ℤ gain_by graph cert colour best))

-- The same among all edges.
abbrev pub IsBestInto : Graph → List Bool → PriceValue → List Bool → ℕ → Option ℕ → Type 0
IsBestInto graph allowed cert marks colour found =
    IsBestBefore graph allowed cert marks colour (length graph.edges) found

-- A tree of edges into the colours up to one: no further edge into one of these can be added with gain.
pub record IsTreeTo (graph : Graph) (colour : ℕ) (edges : List ℕ) : Type 0 where
  pub colourful : IsColourful graph edges
  pub rising : AllPairs (λ edge later. edge < later) edges
  pub before : All (λ edge. head_colour graph edge ≤ colour) edges
  pub maximal : (edge : ℕ) → edge < length graph.edges → head_colour graph edge ≤ colour
      → IsReached graph edges (edge_at graph edge).tail
      → All (λ taken. head_colour graph taken ≢ head_colour graph edge) edges → (edge_at graph edge).weight ≤ℤ pos 0

-- the marks are those of the root and of the heads
pub record AreMarks (graph : Graph) (edges : List ℕ) (marks : List Bool) : Type 0 where
  pub count : length marks ≡ length graph.colours
  pub exact : (vertex : ℕ) → IsTrue (is_marked marks vertex) ↔ IsReached graph edges vertex

-- a colourful list of edges in rising order to which none can be added with gain, and its score
pub record IsTree (graph : Graph) (edges : List ℕ) (score : ℤ) : Type 0 where
  pub colourful : IsColourful graph edges
  pub rising : AllPairs (λ edge later. edge < later) edges
  pub maximal : IsMaximal graph edges
  pub is_score : score ≡ score_of graph edges
