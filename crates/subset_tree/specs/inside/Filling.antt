-- What the filling of a table keeps: the numbers of a vertex for the sets of some last colours, and what the edges from
-- it into the next smaller colour gain.
use Rattle.std.specs.Prelude.{◌≡◌, ◌≤◌, ◌<◌, ◌+◌, ◌-◌, ◌*◌, ◌^◌, ◌↔◌, ℕ, ℤ, pos, negsuc, ◌+ℤ◌, ◌≤ℤ◌, Bool, true, List}
use Rattle.std.specs.Prelude.{◌∷◌, length}
use Rattle.colour_graph.specs.Graph.{Graph, colour_of, colour_count, edge_at, head_colour}
use Rattle.tree_certificate.specs.ColourSet.{IsPartOf, place_of, without}
use Rattle.tree_certificate.specs.Number.{number_in}
use Rattle.tree_certificate.specs.TableHolds.{HasRow, IsHighEnough, number_of, row_at}

-- The numbers of a vertex are at least 0 and rise by at most one weight a place.
pub record AreModest (numbers : List ℤ) : Type 0 where
  pub not_below : (place : ℕ) → pos 0 ≤ℤ number_in numbers place
  pub not_above : (place : ℕ) → number_in numbers place ≤ℤ pos (100000 * place)

-- What the edges into a colour gain, by the set that their heads get.
pub record AreGains (gains : List ℤ) : Type 0 where
  pub not_below : (place : ℕ) → negsuc 999999999 ≤ℤ number_in gains place
  pub not_above : (place : ℕ) → number_in gains place ≤ℤ pos (100000 * (place + 1))

-- A number is enough for the edges from a vertex into a colour that stand before a place, where the heads get a set.
pub record IsEnoughBefore (graph : Graph) (rows : List (List ℤ)) (vertex colour past : ℕ) (set : List Bool)
    (candidate : ℤ)
    : Type 0 where
  pub lowest : negsuc 999999999 ≤ℤ candidate
  pub each : (edge : ℕ) → edge < past → (edge_at graph edge).tail ≡ vertex → head_colour graph edge ≡ colour
      → ((edge_at graph edge).weight +ℤ number_of graph rows (edge_at graph edge).head set) ≤ℤ candidate

-- The gains of the edges from a vertex into a colour that stand before a place.
pub record AreGainsBefore (graph : Graph) (rows : List (List ℤ)) (vertex colour past : ℕ) (gains : List ℤ)
    : Type 0 where
  pub near : AreGains gains
  pub exact : (set : List Bool) → colour + length set ≡ colour_count graph → (candidate : ℤ)
      → (number_in gains (place_of set) ≤ℤ candidate) ↔ IsEnoughBefore graph rows vertex colour past set candidate

-- the number for a set of the last colours, where there is one for each set of the last `size` colours
abbrev pub number_to : ℕ → List ℤ → List Bool → ℤ
number_to size numbers set = number_in numbers (2 ^ (size - length set) * place_of set)

-- A number is enough for a vertex and the set that has the next smaller colour beside these last ones.
pub record IsHighTo (graph : Graph) (rows : List (List ℤ)) (vertex size : ℕ) (numbers : List ℤ) (set : List Bool)
    (candidate : ℤ)
    : Type 0 where
  pub left_out : number_to size numbers set ≤ℤ candidate
  pub taken : (edge : ℕ) → edge < length graph.edges → (edge_at graph edge).tail ≡ vertex
      → head_colour graph edge + length set ≡ colour_count graph → (part : List Bool) → IsPartOf part set
      → (((edge_at graph edge).weight +ℤ number_of graph rows (edge_at graph edge).head part)
      +ℤ number_to size numbers (without set part)) ≤ℤ candidate

-- The numbers of a vertex are exact for the sets of the last `size` colours.
pub record IsFilledTo (graph : Graph) (rows : List (List ℤ)) (vertex size : ℕ) (numbers : List ℤ) : Type 0 where
  pub modest : AreModest numbers
  pub exact : (set : List Bool) → length set < size → (candidate : ℤ)
      → (number_to size numbers (true ∷ set) ≤ℤ candidate) ↔ IsHighTo graph rows vertex size numbers set candidate

-- The rows of the vertices from one on are filled.
pub record AreFilledFrom (graph : Graph) (rows : List (List ℤ)) (first : ℕ) : Type 0 where
  pub count : length rows ≡ length graph.colours
  pub each : (vertex : ℕ) → first ≤ vertex → vertex < length graph.colours
      → (HasRow graph rows vertex) × AreModest (row_at rows vertex)
  pub exact : (vertex : ℕ) (set : List Bool) → first ≤ vertex → vertex < length graph.colours
      → colour_of graph vertex + length set < colour_count graph
      → (candidate : ℤ)
      → (number_of graph rows vertex (true ∷ set) ≤ℤ candidate) ↔ IsHighEnough graph rows vertex set candidate
