-- Prices and potentials that an improvement keeps, and others that it tries in their place.
use Rattle.std.specs.Prelude.{◌≡◌, ℤ, ◌≤ℤ◌, ℕ, Bool, List, length, map}
use Rattle.colour_graph.specs.Cap.{cap_of, greatest}
use Rattle.colour_graph.specs.Colourful.{weights_of}
use Rattle.colour_graph.specs.EdgeSet.{colours_of, edges_into}
use Rattle.colour_graph.specs.Graph.{Graph}
use Rattle.price_bound.specs.declared.offers.Offers.{Offers}
use Rattle.price_bound.specs.declared.offers.Priced.{Priced}
use Rattle.price_bound.specs.inside.Exact.{AreAmounts, AreClear, cert_with}
use Rattle.tree_certificate.specs.BoundValue.{PriceValue}
use Rattle.tree_certificate.specs.PriceHolds.{FitsPrices, PriceHolds, price_total}

-- the greatest weight of the edges of a set into a colour, or 0 where that is more
abbrev pub best_into : Graph → List Bool → ℕ → ℤ
best_into graph allowed colour = greatest (weights_of graph (edges_into graph allowed colour))

abbrev pub best_weights : Graph → List Bool → List ℤ
best_weights graph allowed = map (best_into graph allowed) (colours_of graph)

abbrev pub cert_in : Priced → PriceValue
cert_in priced = cert_with priced.prices.items priced.potentials.items

-- there are as many prices and potentials as a graph has colours and vertices, and the prices are amounts
pub record HasRoom (graph : Graph) (priced : Priced) : Type 0 where
  pub fits : FitsPrices graph (cert_in priced)
  pub prices : AreAmounts priced.prices.items

-- they hold on a set, with their total, which is no more than the cap
pub record IsKept (graph : Graph) (allowed : List Bool) (kept : Priced) : Type 0 where
  pub room : HasRoom graph kept
  pub potentials : AreAmounts kept.potentials.items
  pub holds : PriceHolds graph allowed (cert_in kept)
  pub total : kept.total ≡ price_total graph (cert_in kept)
  pub capped : kept.total ≤ℤ cap_of graph allowed

-- the best so far, with room to try others
pub record AreOffers (graph : Graph) (allowed : List Bool) (offers : Offers) : Type 0 where
  pub kept : IsKept graph allowed offers.kept
  pub trial : HasRoom graph offers.trial
  pub gain_count : length offers.gains.items ≡ length graph.colours
  pub clear : AreClear offers.gains.items
