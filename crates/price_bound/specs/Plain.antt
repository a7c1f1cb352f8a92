-- Prices of 0 with the least potentials for them, and the scores of trees of a set of edges.
use Rattle.std.specs.Prelude.{◌≡◌, ◌<◌, ℕ, ℤ, pos, Bool, IsTrue, List, length}
use Rattle.std.specs.List.{All}
use Rattle.colour_graph.specs.Colourful.{IsColourful, score_of}
use Rattle.colour_graph.specs.EdgeSet.{is_allowed}
use Rattle.colour_graph.specs.Graph.{Graph}
use Rattle.tree_certificate.specs.BoundValue.{PriceValue}
use Rattle.tree_certificate.specs.PriceHolds.{FitsPrices, needed_of, potential_of}

-- each price is 0, and each potential is just what it is to be at least
pub record IsPlain (graph : Graph) (allowed : List Bool) (cert : PriceValue) : Type 0 where
  pub fits : FitsPrices graph cert
  pub prices : All (λ price. price ≡ pos 0) cert.prices
  pub potentials : (vertex : ℕ) → vertex < length graph.colours
      → potential_of cert vertex ≡ needed_of graph allowed cert vertex

-- some colourful list of edges of the set has the score
pub record IsTreeScore (graph : Graph) (allowed : List Bool) (score : ℤ) : Type 0 where
  pub edges : List ℕ
  pub colourful : IsColourful graph edges
  pub in_set : All (λ edge. IsTrue (is_allowed allowed edge)) edges
  pub reached : score_of graph edges ≡ score
