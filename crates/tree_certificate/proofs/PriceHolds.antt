-- Prices and potentials that hold on a set bound the scores of all colourful lists of its edges.
use Rattle.std.proofs.Common.{◌≡◌, ◌+◌, ◌-◌, ◌<◌, ℕ, suc, ℤ, pos, ◌+ℤ◌, ◌-ℤ◌, ◌≤ℤ◌, ◌≤◌, ◌⊎◌, inl, inr, Bool, true, eqb}
use Rattle.std.proofs.Common.{List, [], ◌∷◌, length, get_or, map, ap, ap₂, sym, refl, subst, ◌∙◌, arith}
use Rattle.std.proofs.lemmas.Bool.{cases_lt, eq-eqb}
use Rattle.std.proofs.lemmas.Int.{fold-int_max_bounds, ints}
use Rattle.std.proofs.lemmas.List.{get_or_past}
use Rattle.std.specs.List.{All, range_with_len}
use Rattle.colour_graph.specs.declared.edge.Edge.{Edge}
use Rattle.colour_graph.specs.Bounded.{IsBounded}
use Rattle.colour_graph.specs.Colourful.{total}
use Rattle.colour_graph.specs.EdgeSet.{colours_of, edges_into, is_allowed}
use Rattle.colour_graph.specs.Graph.{Graph, IsGraph, colour_count, edge_at, head_colour}
use Rattle.tree_certificate.specs.BoundValue.{PriceValue}
use Rattle.tree_certificate.specs.PriceHolds.{PriceHolds, edges_between, gain_by, gain_of, potential_of, price_of}
use Rattle.tree_certificate.specs.PriceHolds.{price_total}
use Rattle.tree_certificate.proofs.Bounding.{colour_into}
use Rattle.tree_certificate.proofs.Caps.{IsIn-edges_into}
use Rattle.tree_certificate.proofs.Members.{All-at, IsIn-filter, IsIn-map}
use Rattle.tree_certificate.proofs.Pricing.{Pays, prices_bound}
use Rattle.tree_certificate.proofs.Sums.{sum_of}
use Rattle.tree_certificate.proofs.Trees.{IsOpenEdge}

-- A function that has, from a number on, what a list has at its places adds up to the list's total.
sum_of-places : (f : ℕ → ℤ) (first : ℕ) (xs : List ℤ) → ((place : ℕ) → place < length xs
    → f (first + place) ≡ get_or xs place (pos 0))
    → sum_of f (range_with_len first (length xs)) ≡ total xs
sum_of-places f first [] each = refl
sum_of-places f first (x ∷ xs) each =
    ap₂ (λ a b. a +ℤ b) (ap f (at_front first) ∙ each 0 (omega arith))
    (sum_of-places f (first + 1) xs (λ place within. ap f (one_further first place) ∙ each (suc place) (omega arith)))
  where
    at_front : (n : ℕ) → n ≡ n + 0
    at_front n = omega arith

    one_further : (n place : ℕ) → (n + 1) + place ≡ n + suc place
    one_further n place = omega arith

-- The prices of all colours add up to the total of their list.
sum_of-prices : (graph : Graph) (cert : PriceValue) → length cert.prices ≡ colour_count graph
    → sum_of (price_of cert) (colours_of graph) ≡ total cert.prices
sum_of-prices graph cert long =
    ap (λ count. sum_of (price_of cert) (range_with_len 1 count)) (sym long)
    ∙ sum_of-places (price_of cert) 1 cert.prices (λ place within. ap (λ n. get_or cert.prices n (pos 0))
    (before place))
  where
    before : (place : ℕ) → (1 + place) - 1 ≡ place
    before place = omega arith

-- No price is below 0, that of a colour past the list neither.
price_low : (graph : Graph) (allowed : List Bool) (cert : PriceValue) → PriceHolds graph allowed cert → (colour : ℕ)
    → pos 0 ≤ℤ price_of cert colour
price_low graph allowed cert holds colour = choose (cases_lt (colour - 1) (length cert.prices))
  where
    none : (price : ℤ) → price ≡ pos 0 → pos 0 ≤ℤ price
    none price is = rw is (omega (arith, ints))

    choose : (colour - 1 < length cert.prices) ⊎ (length cert.prices ≤ colour - 1) → pos 0 ≤ℤ price_of cert colour
    choose (inl within) = holds.prices (colour - 1) (pos 0) within
    choose (inr past) = none (price_of cert colour) (get_or_past cert.prices (colour - 1) (pos 0) past)

-- What a vertex gains by a colour is at least 0, and at least what each of its edges there gains.
gain_of-most : (graph : Graph) (allowed : List Bool) (cert : PriceValue) (vertex colour : ℕ)
    → (pos 0 ≤ℤ gain_of graph allowed cert vertex colour)
    × All (λ gain. gain ≤ℤ gain_of graph allowed cert vertex colour)
    (map (gain_by graph cert colour) (edges_between graph allowed vertex colour))
gain_of-most graph allowed cert vertex colour =
    fold-int_max_bounds (pos 0) (map (gain_by graph cert colour) (edges_between graph allowed vertex colour))
    (gain_of graph allowed cert vertex colour) refl

-- An edge of the set gains no more than its tail does by its head's colour.
gain_by-le : (graph : Graph) (allowed : List Bool) (cert : PriceValue) (place : ℕ) → place < length graph.edges
    → is_allowed allowed place ≡ true
    → gain_by graph cert (head_colour graph place) place ≤ℤ gain_of graph allowed cert (edge_at graph place).tail
    (head_colour graph place)
gain_by-le graph allowed cert place within in_set =
    All-at (λ gain. gain ≤ℤ gain_of graph allowed cert tail colour) (gain_by graph cert colour place)
    (map (gain_by graph cert colour) (edges_between graph allowed tail colour))
    (gain_of-most graph allowed cert tail colour).1
    (IsIn-map (gain_by graph cert colour) place (edges_between graph allowed tail colour)
    (IsIn-filter (λ edge. eqb (edge_at graph edge).tail tail) place (edges_into graph allowed colour)
    (IsIn-edges_into graph allowed place within in_set) (eq-eqb tail tail refl)))
  where
    tail : ℕ
    tail = (edge_at graph place).tail

    colour : ℕ
    colour = head_colour graph place

Pays-prices : (graph : Graph) (allowed : List Bool) (cert : PriceValue) → PriceHolds graph allowed cert
    → Pays graph allowed (price_of cert) (gain_of graph allowed cert) (potential_of cert)
Pays-prices graph allowed cert holds = record {
  price_low = price_low graph allowed cert holds;
  gain_low = λ vertex colour. (gain_of-most graph allowed cert vertex colour).0;
  gains = holds.potentials;
  edges = edges;
}
  where
    paid : (weight price potential gain : ℤ) → ((weight -ℤ price) +ℤ potential) ≤ℤ gain
        → (weight +ℤ potential) ≤ℤ (price +ℤ gain)
    paid weight price potential gain most = omega (arith, ints)

    IsPaid : Edge → Type 0
    IsPaid edge = (edge.weight +ℤ potential_of cert edge.head) ≤ℤ
        (price_of cert (colour_into graph edge) +ℤ gain_of graph allowed cert edge.tail (colour_into graph edge))

    edges : (edge : Edge) → IsOpenEdge graph allowed edge → IsPaid edge
    edges edge is_open =
        subst IsPaid is_open.at_place
        (paid (edge_at graph is_open.place).weight (price_of cert (head_colour graph is_open.place))
        (potential_of cert (edge_at graph is_open.place).head)
        (gain_of graph allowed cert (edge_at graph is_open.place).tail (head_colour graph is_open.place))
        (gain_by-le graph allowed cert is_open.place is_open.within is_open.in_set))

pub prices_hold_bounds : (graph : Graph) (allowed : List Bool) (cert : PriceValue) (upper : ℤ) → IsGraph graph
    → PriceHolds graph allowed cert → price_total graph cert ≤ℤ upper
    → IsBounded graph allowed upper
prices_hold_bounds graph allowed cert upper is holds most =
    prices_bound graph allowed (price_of cert) (gain_of graph allowed cert) (potential_of cert)
    (Pays-prices graph allowed cert holds) upper is
    (same graph.root_score (potential_of cert 0) (sum_of (price_of cert) (colours_of graph)) (total cert.prices) upper
    (sum_of-prices graph cert holds.fits.price_count) most)
  where
    same : (root potential prices all upper : ℤ) → prices ≡ all → (root +ℤ (potential +ℤ all)) ≤ℤ upper
        → (root +ℤ (potential +ℤ prices)) ≤ℤ upper
    same root potential prices all upper is most = rw is most
