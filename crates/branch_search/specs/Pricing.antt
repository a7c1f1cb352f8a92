-- What is asked of a pricing, by which a search bounds the sets that it comes to.
use Rattle.std.specs.Prelude.{◌≤◌, ◌≤ℤ◌, Bool, List, Result, IfOk, length}
use Rattle.std.specs.Borrow.{Bor}
use Rattle.colour_graph.specs.Cap.{cap_of}
use Rattle.colour_graph.specs.EdgeSet.{IsSetOf}
use Rattle.colour_graph.specs.Graph.{Graph, IsGraph, greatest_graph}
use Rattle.tree_certificate.specs.BoundValue.{PriceValue}
use Rattle.tree_certificate.specs.PriceHolds.{PriceHolds, price_total}

-- a graph in which a tree is sought, and a set of its edges
pub record IsAsked (graph : Graph) (allowed : List Bool) : Type 0 where
  pub is_graph : IsGraph graph
  pub vertices : length graph.colours ≤ greatest_graph
  pub set : IsSetOf graph allowed

-- prices and potentials that hold on a set and say no more of the whole graph than the set's cap
pub record IsPriced (graph : Graph) (allowed : List Bool) (cert : PriceValue) : Type 0 where
  pub holds : PriceHolds graph allowed cert
  pub capped : price_total graph cert ≤ℤ cap_of graph allowed

-- A pricing may be called on every graph and every set of its edges, and what it answers, other than an error, is a
-- certificate of that set.
pub record PricesSets {E : Type 0} (pre : Bor Graph → Bor (List Bool) → Type 0)
    (post : Bor Graph → Bor (List Bool) → Result PriceValue E → Type 0)
    : Type 0 where
  pub callable : (graph : Bor Graph) (allowed : Bor (List Bool)) → IsAsked graph.now allowed.now → pre graph allowed
  pub right : (graph : Bor Graph) (allowed : Bor (List Bool)) (answer : Result PriceValue E)
      → IsAsked graph.now allowed.now → post graph allowed answer
      → IfOk answer (IsPriced graph.now allowed.now)
