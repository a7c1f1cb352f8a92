-- What prices and potentials have to hold, so that no colourful list of edges of a set scores more than a number. Each
-- colour has a price, and each vertex a potential that is at least what its edges gain: for each colour the greatest
-- weight less the price, with the head's potential, where that is more than 0.
use Rattle.std.specs.Prelude.{◌≡◌, ◌<◌, ◌-◌, ℕ, ℤ, pos, ◌+ℤ◌, ◌-ℤ◌, ◌≤ℤ◌, Bool, List, length, map, nat_eq}
use Rattle.std.specs.Prelude.{slice_index_or}
use Rattle.std.specs.List.{All, filter}
use Rattle.colour_graph.specs.Cap.{greatest}
use Rattle.colour_graph.specs.Colourful.{total}
use Rattle.colour_graph.specs.EdgeSet.{colours_of, edges_into}
use Rattle.colour_graph.specs.Graph.{Graph, colour_count, edge_at}
use Rattle.tree_certificate.specs.BoundValue.{PriceValue}

-- the price of a colour, which is at least 1
abbrev pub price_of : PriceValue → ℕ → ℤ
price_of cert colour = slice_index_or cert.prices (colour - 1) (pos 0)

abbrev pub potential_of : PriceValue → ℕ → ℤ
potential_of cert vertex = slice_index_or cert.potentials vertex (pos 0)

-- what is gained by an edge
abbrev pub gain_by : Graph → PriceValue → ℕ → ℕ → ℤ
gain_by graph cert colour edge =
    ((edge_at graph edge).weight -ℤ price_of cert colour) +ℤ potential_of cert (edge_at graph edge).head

-- the edges of a set from a vertex into a colour
abbrev pub edges_between : Graph → List Bool → ℕ → ℕ → List ℕ
edges_between graph allowed vertex colour =
    filter (λ edge. nat_eq (edge_at graph edge).tail vertex) (edges_into graph allowed colour)

-- what a vertex gains by a colour: by the best of its edges there, where that is more than 0
abbrev pub gain_of : Graph → List Bool → PriceValue → ℕ → ℕ → ℤ
gain_of graph allowed cert vertex colour =
    greatest (map (gain_by graph cert colour) (edges_between graph allowed vertex colour))

-- what the potential of a vertex is to be at least
abbrev pub needed_of : Graph → List Bool → PriceValue → ℕ → ℤ
needed_of graph allowed cert vertex = total (map (gain_of graph allowed cert vertex) (colours_of graph))

-- there are as many prices as colours, and as many potentials as vertices
pub record FitsPrices (graph : Graph) (cert : PriceValue) : Type 0 where
  pub price_count : length cert.prices ≡ colour_count graph
  pub potential_count : length cert.potentials ≡ length graph.colours

-- no price is below 0
abbrev pub AreNotNegative : List ℤ → Type 0
AreNotNegative prices = All (λ price. pos 0 ≤ℤ price) prices

-- Prices and potentials hold on a set of edges. What a potential is to be at least is never below 0.
pub record PriceHolds (graph : Graph) (allowed : List Bool) (cert : PriceValue) : Type 0 where
  pub fits : FitsPrices graph cert
  pub prices : AreNotNegative cert.prices
  pub potentials : (vertex : ℕ) → vertex < length graph.colours
      → needed_of graph allowed cert vertex ≤ℤ potential_of cert vertex

-- what prices and potentials say of the whole graph: the root's score and potential, and all prices
abbrev pub price_total : Graph → PriceValue → ℤ
price_total graph cert = graph.root_score +ℤ (potential_of cert 0 +ℤ total cert.prices)
