-- What vertices gain by a colour, and what their potentials are to be at least, while edges are looked at in order.
use Rattle.std.specs.Prelude.{◌≡◌, ◌≢◌, ◌≤◌, ◌<◌, ◌*◌, ◌↔◌, ℕ, ℤ, pos, negsuc, ◌+ℤ◌, ◌≤ℤ◌, Bool}
use Rattle.std.specs.Prelude.{IsTrue, List, length, map}
use Rattle.std.specs.List.{range_with_len}
use Rattle.colour_graph.specs.Colourful.{total}
use Rattle.colour_graph.specs.EdgeSet.{is_allowed}
use Rattle.colour_graph.specs.Graph.{Graph, edge_at, head_colour}
use Rattle.tree_certificate.specs.BoundValue.{PriceValue}
use Rattle.tree_certificate.specs.PriceHolds.{gain_by, gain_of}
use Rattle.tree_certificate.specs.Number.{number_in}

-- what an edge may gain
pub record IsEdgeGain (gain : ℤ) : Type 0 where
  pub not_below : negsuc 2000000000099999 ≤ℤ gain
  pub not_above : gain ≤ℤ pos 2000000000100000

-- what a vertex may gain by a colour
pub record IsGained (gain : ℤ) : Type 0 where
  pub not_below : pos 0 ≤ℤ gain
  pub not_above : gain ≤ℤ pos 2000000000100000

-- what a vertex may gain by so many colours
pub record IsNeed (count : ℕ) (need : ℤ) : Type 0 where
  pub not_below : pos 0 ≤ℤ need
  pub not_above : need ≤ℤ pos (2000000000100000 * count)

-- what so many prices may add up to
pub record IsPriceSum (count : ℕ) (sum : ℤ) : Type 0 where
  pub not_below : pos 0 ≤ℤ sum
  pub not_above : sum ≤ℤ pos (1000000000000000 * count)

abbrev pub AreGained : List ℤ → Type 0
AreGained gains = (vertex : ℕ) → vertex < length gains → IsGained (number_in gains vertex)

abbrev pub AreNeeds : ℕ → List ℤ → Type 0
AreNeeds count needs = (vertex : ℕ) → vertex < length needs → IsNeed count (number_in needs vertex)

-- all numbers are 0
abbrev pub AreClear : List ℤ → Type 0
AreClear gains = (vertex : ℕ) → vertex < length gains → number_in gains vertex ≡ pos 0

-- A number is at least 0, and at least what each edge of a set from a vertex into a colour gains that stands before
-- one.
pub record IsGainBound (graph : Graph) (allowed : List Bool) (cert : PriceValue) (colour past vertex : ℕ) (upper : ℤ)
    : Type 0 where
  pub zero : pos 0 ≤ℤ upper
  pub each : (edge : ℕ) → edge < past → edge < length graph.edges → IsTrue (is_allowed allowed edge)
      → head_colour graph edge ≡ colour → (edge_at graph edge).tail ≡ vertex
      → gain_by graph cert colour edge ≤ℤ upper

-- what vertices gain by a colour, of the edges that stand before one
abbrev pub AreGainedBefore : Graph → List Bool → PriceValue → ℕ → ℕ → List ℤ → Type 0
AreGainedBefore graph allowed cert colour past gains = (vertex : ℕ) → vertex < length gains
    → (upper : ℤ) → (number_in gains vertex ≤ℤ upper) ↔ IsGainBound graph allowed cert colour past vertex upper

-- what vertices gain by a colour
abbrev pub AreGainsOf : Graph → List Bool → PriceValue → ℕ → List ℤ → Type 0
AreGainsOf graph allowed cert colour gains = (vertex : ℕ) → vertex < length gains
    → number_in gains vertex ≡ gain_of graph allowed cert vertex colour

-- no vertex gains but the tails of the edges into a colour from a place on
abbrev pub AreOfTails : Graph → ℕ → ℕ → List ℤ → Type 0
AreOfTails graph colour from gains = (vertex : ℕ) → vertex < length gains
    → ((edge : ℕ) → from ≤ edge → edge < length graph.edges → head_colour graph edge ≡ colour
    → (edge_at graph edge).tail ≢ vertex) → number_in gains vertex ≡ pos 0

-- what vertices gain by the first colours
abbrev pub AreNeededBy : Graph → List Bool → PriceValue → ℕ → List ℤ → Type 0
AreNeededBy graph allowed cert count needs = (vertex : ℕ) → vertex < length needs
    → number_in needs vertex ≡ total (map (gain_of graph allowed cert vertex) (range_with_len 1 count))

-- each number is the sum of two others
abbrev pub AreSums : List ℤ → List ℤ → List ℤ → Type 0
AreSums sums needs gains = (vertex : ℕ) → vertex < length gains
    → number_in sums vertex ≡ number_in needs vertex +ℤ number_in gains vertex
