-- `IsReached`: in a rising colourful list a tail is the root or the head of an earlier edge, since edges stand by their
-- heads, vertices by their colours, and every edge goes to a greater colour.
use Rattle.std.proofs.Common.{◌≡◌, ◌<◌, ◌≤◌, ◌∙◌, ◌⊎◌, inl, inr, ℕ, List, length, get_or, ap, arith, sym}
use Rattle.std.proofs.lemmas.Bool.{cases_lt}
use Rattle.std.proofs.lemmas.List.{get_or-map, length-map}
use Rattle.std.specs.List.{AllPairs}
use Rattle.colour_graph.specs.Colourful.{IsColourful, IsReached, at_head, at_root}
use Rattle.colour_graph.specs.Graph.{Graph, IsGraph, colour_of, edge_at}

heads_rise : (graph : Graph) (edge later : ℕ) → IsGraph graph → edge ≤ later → later < length graph.edges
    → (edge_at graph edge).head ≤ (edge_at graph later).head
heads_rise graph edge later is not_after within = choose (cases_lt edge later)
  where
    choose : (edge < later) ⊎ (later ≤ edge) → (edge_at graph edge).head ≤ (edge_at graph later).head
    choose (inl less) = (is.in_order edge later _ less within).heads
    choose (inr not_less) = let same : edge ≡ later = omega arith in
        omega (arith, ap (λ n. (edge_at graph n).head) same)

colours_rise : (graph : Graph) (vertex later : ℕ) → IsGraph graph → vertex ≤ later → later < length graph.colours
    → colour_of graph vertex ≤ colour_of graph later
colours_rise graph vertex later is not_after within = choose (cases_lt vertex later)
  where
    choose : (vertex < later) ⊎ (later ≤ vertex) → colour_of graph vertex ≤ colour_of graph later
    choose (inl less) = is.colours.in_order vertex later 0 less within
    choose (inr not_less) = let same : vertex ≡ later = omega arith in omega (arith, ap (colour_of graph) same)

-- an edge that begins where another ends is the greater one
tail_after : (graph : Graph) (edge other : ℕ) → IsGraph graph → edge < length graph.edges → other < length graph.edges
    → (edge_at graph other).head ≡ (edge_at graph edge).tail → other < edge
tail_after graph edge other is in_graph other_in_graph joined = choose (cases_lt other edge)
  where
    choose : (other < edge) ⊎ (edge ≤ other) → other < edge
    choose (inl less) = less
    choose (inr not_less) =
        let here = is.edges edge _ in_graph in
        let back = heads_rise graph edge other is not_less other_in_graph in
        let colours = colours_rise graph (edge_at graph edge).head (edge_at graph edge).tail is
        (omega (arith, back, joined)) here.tail in
        absurd (omega (arith, colours, here.rising))

pub reached_before : (graph : Graph) (edges : List ℕ) (place : ℕ) → IsGraph graph → IsColourful graph edges
    → AllPairs (λ edge later. edge < later) edges → place < length edges
    → ((edge_at graph (get_or edges place 0)).tail ≡ 0)
    ⊎ ((k : ℕ) × (k < place) × ((edge_at graph (get_or edges k 0)).head ≡ (edge_at graph (get_or edges place 0)).tail))
reached_before graph edges place is colourful rising within = choose (colourful.tails place 0 within)
  where
    choose : IsReached graph edges (edge_at graph (get_or edges place 0)).tail
        → ((edge_at graph (get_or edges place 0)).tail ≡ 0)
        ⊎ ((k : ℕ) × (k < place) × ((edge_at graph (get_or edges k 0)).head
        ≡ (edge_at graph (get_or edges place 0)).tail))
    choose (at_root is_root) = inl is_root
    choose (at_head found) =
        let k_within : found.0 < length edges =
        omega (arith, found.1, length-map edges (λ edge. (edge_at graph edge).head)) in
        let joined : (edge_at graph (get_or edges found.0 0)).head ≡ (edge_at graph (get_or edges place 0)).tail =
        sym (get_or-map (λ edge. (edge_at graph edge).head) edges found.0 0 _ k_within) ∙ found.2 in
        let less = tail_after graph (get_or edges place 0) (get_or edges found.0 0) is
        (colourful.in_range place 0 within)
        (colourful.in_range found.0 0 k_within) joined in
        inr (found.0, earlier found.0 k_within less (cases_lt found.0 place), joined)
      where
        earlier : (k : ℕ) → k < length edges → get_or edges k 0 < get_or edges place 0 → (k < place) ⊎ (place ≤ k)
            → k < place
        earlier k k_within less (inl before) = before
        earlier k k_within less (inr not_before) = after (cases_lt place k)
          where
            after : (place < k) ⊎ (k ≤ place) → k < place
            after (inl behind) = absurd (omega (arith, rising place k 0 behind k_within, less))
            after (inr not_behind) = let same : k ≡ place = omega arith in
                absurd (omega (arith, ap (λ n. get_or edges n 0) same, less))
