-- Potentials while they are made, the greatest colours first: what each vertex gains by the colours above one.
use Rattle.std.specs.Prelude.{◌≡◌, ◌<◌, ◌≤◌, ◌+◌, ◌-◌, ◌↔◌, ℕ, ℤ, pos, ◌+ℤ◌, ◌-ℤ◌, ◌≤ℤ◌, ◌<ℤ◌, Bool, List, length, map}
use Rattle.std.specs.List.{range_with_len}
use Rattle.colour_graph.specs.Cap.{greatest}
use Rattle.colour_graph.specs.Colourful.{total}
use Rattle.colour_graph.specs.Graph.{Graph, colour_count, edge_at}
use Rattle.tree_certificate.specs.BoundValue.{PriceValue}
use Rattle.tree_certificate.specs.Number.{number_in}
use Rattle.tree_certificate.specs.PriceHolds.{edges_between, gain_of, potential_of}

abbrev pub cert_with : List ℤ → List ℤ → PriceValue
cert_with prices potentials = record { prices = prices; potentials = potentials }

-- a number of a certificate that is not below 0
pub record IsAmount (number : ℤ) : Type 0 where
  pub not_below : pos 0 ≤ℤ number
  pub not_above : number ≤ℤ pos 1000000000000000

abbrev pub AreAmounts : List ℤ → Type 0
AreAmounts numbers = (place : ℕ) → IsAmount (number_in numbers place)

-- what a vertex gains by a colour, where its heads' potentials are amounts
pub record IsGainAmount (gain : ℤ) : Type 0 where
  pub not_below : pos 0 ≤ℤ gain
  pub not_above : gain ≤ℤ pos 1000000000100000

abbrev pub AreGainAmounts : List ℤ → Type 0
AreGainAmounts gains = (place : ℕ) → IsGainAmount (number_in gains place)

abbrev pub AreClear : List ℤ → Type 0
AreClear numbers = (place : ℕ) → number_in numbers place ≡ pos 0

-- A number is the greater of two.
abbrev pub IsGreater : ℤ → ℤ → ℤ → Type 0
IsGreater more most number =
    (candidate : ℤ) → (more ≤ℤ candidate) ↔ ((most ≤ℤ candidate) × (number ≤ℤ candidate))

-- what is gained by an edge at a price
abbrev pub gain_with : Graph → ℤ → List ℤ → ℕ → ℤ
gain_with graph price potentials edge =
    ((edge_at graph edge).weight -ℤ price) +ℤ number_in potentials (edge_at graph edge).head

-- what a vertex gains by the edges of a set into a colour at a price
abbrev pub gain_at : Graph → List Bool → ℕ → ℤ → List ℤ → ℕ → ℤ
gain_at graph allowed colour price potentials vertex =
    greatest (map (gain_with graph price potentials) (edges_between graph allowed vertex colour))

-- what a vertex gains by the colours above one
abbrev pub gained_above : Graph → List Bool → PriceValue → ℕ → ℕ → ℤ
gained_above graph allowed cert colour vertex =
    total (map (gain_of graph allowed cert vertex) (range_with_len (colour + 1) (colour_count graph - colour)))

-- Each potential is just what its vertex gains by the colours above one.
abbrev pub AreExactAbove : Graph → List Bool → PriceValue → ℕ → Type 0
AreExactAbove graph allowed cert colour = (vertex : ℕ) → vertex < length graph.colours
    → potential_of cert vertex ≡ gained_above graph allowed cert colour vertex

-- A potential on the way is too great for a certificate.
pub record IsTooHigh (graph : Graph) (allowed : List Bool) (prices : List ℤ) : Type 0 where
  pub potentials : List ℤ
  pub colour : ℕ
  pub vertex : ℕ
  pub counted : colour ≤ colour_count graph
  pub within : vertex < length graph.colours
  pub exact : AreExactAbove graph allowed (cert_with prices potentials) colour
  pub high : pos 1000000000000000 <ℤ number_in potentials vertex
