-- `IsGraph`: edges go from smaller vertices to greater ones, so a graph of few vertices has few of them.
use Rattle.std.proofs.Common.{◌≡◌, ◌+◌, ◌<◌, ◌≤◌, ◌⊎◌, inl, inr, ℕ, zero, suc, pos, length, ap, arith, refl}
use Rattle.std.proofs.lemmas.Bool.{cases_eq, cases_lt}
use Rattle.colour_graph.proofs.Order.{colours-rise}
use Rattle.colour_graph.specs.declared.edge.Edge.{Edge}
use Rattle.colour_graph.specs.Graph.{Graph, HasColours, IsEdge, IsGraph, StandsBefore, edge_at, greatest_graph}

-- how many pairs of a vertex and a smaller one there are, the greater of which is below this one
abbrev pairs_below : ℕ → ℕ
pairs_below zero = 0
pairs_below (suc vertex) = pairs_below vertex + vertex

pairs-rise : (vertex later : ℕ) → vertex < later → pairs_below vertex + vertex ≤ pairs_below later
pairs-rise vertex zero before = absurd (omega arith)
pairs-rise vertex (suc later) before = choose (cases_eq vertex later) (pairs-rise vertex later)
  where
    choose : (vertex ≡ later) ⊎ (vertex ≡ later → ⊥)
        → (vertex < later → pairs_below vertex + vertex ≤ pairs_below later)
        → pairs_below vertex + vertex ≤ pairs_below later + later
    choose (inl same) rise = omega (arith, same, ap pairs_below same)
    choose (inr apart) rise = omega (arith, rise (omega arith))

-- a number for a head and a tail, which rises with the order of edges
abbrev rank_of : Edge → ℕ
rank_of edge = pairs_below edge.head + edge.tail

rises : (first later : Edge) → first.tail < first.head → StandsBefore first later → rank_of first < rank_of later
rises first later low before = choose (cases_eq first.head later.head)
  where
    choose : (first.head ≡ later.head) ⊎ (first.head ≡ later.head → ⊥) → rank_of first < rank_of later
    choose (inl same) =
        let tails : first.tail < later.tail = before.tails same in
        omega (arith, ap pairs_below same)
    choose (inr apart) =
        let heads : first.head ≤ later.head = before.heads in
        omega (arith, pairs-rise first.head later.head (omega arith))

tail-lt_head : (graph : Graph) (edge : Edge) → HasColours graph.colours → IsEdge graph edge → edge.tail < edge.head
tail-lt_head graph edge has is = choose (cases_lt edge.tail edge.head)
  where
    choose : (edge.tail < edge.head) ⊎ (edge.head ≤ edge.tail) → edge.tail < edge.head
    choose (inl below) = below
    choose (inr above) = absurd (omega (arith, is.rising, colours-rise graph has edge.head edge.tail above is.tail))

place-le_rank : (graph : Graph) → IsGraph graph → (edge : ℕ) → edge < length graph.edges
    → edge ≤ rank_of (edge_at graph edge)
place-le_rank graph is zero within = omega arith
place-le_rank graph is (suc edge) within =
    let here : edge < length graph.edges = omega arith in
    let none : Edge = record { tail = 0; head = 0; weight = pos 0 } in
    let low = tail-lt_head graph (edge_at graph edge) is.colours (is.edges edge none here) in
    omega (
      arith,
      place-le_rank graph is edge here,
      rises (edge_at graph edge) (edge_at graph (suc edge)) low (is.in_order edge (suc edge) none (omega arith) within),
    )

-- an edge of a graph of few vertices is below the number of its pairs
pub edge-few : (graph : Graph) → IsGraph graph → length graph.colours ≤ greatest_graph → (edge : ℕ)
    → edge < length graph.edges
    → edge ≤ 131071
edge-few graph is few edge within =
    let here = edge_at graph edge in
    let is_edge = is.edges edge (record { tail = 0; head = 0; weight = pos 0 }) within in
    let low : here.tail < here.head = tail-lt_head graph here is.colours is_edge in
    let head : here.head < greatest_graph = omega (arith, is_edge.head) in
    let all : pairs_below greatest_graph ≡ 130816 = refl in
    omega (arith, low, all, place-le_rank graph is edge within, pairs-rise here.head greatest_graph head)
