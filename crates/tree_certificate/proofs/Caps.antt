-- The cap of a set of edges bounds the scores of all colourful lists of its edges: the price of a colour is its best
-- edge.
use Rattle.std.proofs.Common.{◌≡◌, ◌<◌, ℕ, ℤ, pos, ◌+ℤ◌, ◌≤ℤ◌, Bool, true, ◌&&◌, eqb, List, length, refl, subst, arith}
use Rattle.std.proofs.lemmas.Bool.{and_from, eq-eqb}
use Rattle.std.proofs.lemmas.Int.{fold-int_max_bounds, ints}
use Rattle.std.specs.List.{range_with_len}
use Rattle.colour_graph.specs.declared.edge.Edge.{Edge}
use Rattle.colour_graph.specs.Bounded.{IsBounded}
use Rattle.colour_graph.specs.Cap.{cap_of, greatest}
use Rattle.colour_graph.specs.Colourful.{weights_of}
use Rattle.colour_graph.specs.EdgeSet.{colours_of, edges_into, is_allowed}
use Rattle.colour_graph.specs.Graph.{Graph, IsGraph, edge_at, head_colour}
use Rattle.tree_certificate.proofs.Bounding.{colour_into}
use Rattle.tree_certificate.proofs.Members.{All-at, IsIn-filter, IsIn-map, IsIn-range}
use Rattle.tree_certificate.proofs.Pricing.{Pays, prices_bound}
use Rattle.tree_certificate.proofs.Sums.{IsIn, sum_of, sum_of-zero}
use Rattle.tree_certificate.proofs.Trees.{IsOpenEdge}

-- the price of a colour
abbrev best_into : Graph → List Bool → ℕ → ℤ
best_into graph allowed colour = greatest (weights_of graph (edges_into graph allowed colour))

-- An edge of the set is among those into its colour.
pub IsIn-edges_into : (graph : Graph) (allowed : List Bool) (place : ℕ) → place < length graph.edges
    → is_allowed allowed place ≡ true → IsIn place (edges_into graph allowed (head_colour graph place))
IsIn-edges_into graph allowed place within in_set =
    IsIn-filter (λ edge. is_allowed allowed edge && eqb (head_colour graph edge) (head_colour graph place)) place
    (range_with_len 0 (length graph.edges))
    (IsIn-range 0 place (length graph.edges) place within (omega arith))
    (and_from (is_allowed allowed place) (eqb (head_colour graph place) (head_colour graph place)) in_set
    (eq-eqb _ _ refl))

Pays-cap : (graph : Graph) (allowed : List Bool) → Pays graph allowed (best_into graph allowed) (λ vertex colour. pos 0)
    (λ vertex. pos 0)
Pays-cap graph allowed = record {
  price_low = λ colour. (fold-int_max_bounds (pos 0) (weights_of graph (edges_into graph allowed colour))
      (best_into graph allowed colour) refl).0;
  gain_low = λ vertex colour. omega (arith, ints);
  gains = λ vertex within. sum_of-zero (λ (colour : ℕ). pos 0) (colours_of graph) (λ colour at. omega (arith, ints));
  edges = edges;
}
  where
    no_more : (weight best : ℤ) → weight ≤ℤ best → (weight +ℤ pos 0) ≤ℤ (best +ℤ pos 0)
    no_more weight best most = omega (arith, ints)

    edges : (edge : Edge) → IsOpenEdge graph allowed edge → (edge.weight +ℤ pos 0) ≤ℤ
        (best_into graph allowed (colour_into graph edge) +ℤ pos 0)
    edges edge is_open = subst (λ (e : Edge). (e.weight +ℤ pos 0) ≤ℤ
        (best_into graph allowed (colour_into graph e) +ℤ pos 0)) is_open.at_place at_place
      where
        weights : List ℤ
        weights = weights_of graph (edges_into graph allowed (head_colour graph is_open.place))

        at_place : ((edge_at graph is_open.place).weight +ℤ pos 0) ≤ℤ
            (best_into graph allowed (head_colour graph is_open.place) +ℤ pos 0)
        at_place =
            no_more (edge_at graph is_open.place).weight (best_into graph allowed (head_colour graph is_open.place))
            (All-at (λ (weight : ℤ). weight ≤ℤ best_into graph allowed (head_colour graph is_open.place))
            (edge_at graph is_open.place).weight weights
            (fold-int_max_bounds (pos 0) weights (best_into graph allowed (head_colour graph is_open.place)) refl).1
            (IsIn-map (λ edge. (edge_at graph edge).weight) is_open.place
            (edges_into graph allowed (head_colour graph is_open.place))
            (IsIn-edges_into graph allowed is_open.place is_open.within is_open.in_set)))

pub cap_bounds : (graph : Graph) (allowed : List Bool) → IsGraph graph → IsBounded graph allowed (cap_of graph allowed)
cap_bounds graph allowed is =
    prices_bound graph allowed (best_into graph allowed) (λ vertex colour. pos 0) (λ vertex. pos 0)
    (Pays-cap graph allowed) (cap_of graph allowed) is no_less
  where
    no_less : (graph.root_score +ℤ (pos 0 +ℤ sum_of (best_into graph allowed) (colours_of graph))) ≤ℤ cap_of graph
        allowed
    no_less = same graph.root_score (sum_of (best_into graph allowed) (colours_of graph))
      where
        same : (root prices : ℤ) → (root +ℤ (pos 0 +ℤ prices)) ≤ℤ (root +ℤ prices)
        same root prices = omega (arith, ints)
