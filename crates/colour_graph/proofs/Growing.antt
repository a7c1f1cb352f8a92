-- Of with_vertex and with_edge: one more vertex or edge leaves a graph.
use Rattle.std.proofs.Common.{◌≡◌, ◌+◌, ◌-◌, ◌<◌, ◌≤◌, ◌∙◌, ◌⊎◌, inl, inr, ◌++◌, [], ◌∷◌, ℕ, pos, length, get_or, ap}
use Rattle.std.proofs.Common.{arith}
use Rattle.std.proofs.lemmas.Bool.{cases_lt}
use Rattle.std.proofs.lemmas.List.{get_or_append_left, get_or_default, get_or_push, length_push}
use Rattle.std.proofs.lemmas.List.Elements.{All-push, All-weaker}
use Rattle.std.proofs.lemmas.List.Quantifiers.{all_pairs_push}
use Rattle.colour_graph.specs.declared.edge.Edge.{Edge}
use Rattle.colour_graph.specs.Building.{ComesNext, with_edge, with_vertex}
use Rattle.colour_graph.specs.Graph.{Graph, HasColours, IsEdge, IsGraph, StandsBefore, colour_count, colour_of, edge_at}
use Rattle.colour_graph.specs.Graph.{greatest_vertices}
use Rattle.colour_graph.proofs.Order.{colour-le_count}

StandsBefore-trans : (first middle later : Edge) → StandsBefore first middle → StandsBefore middle later
    → StandsBefore first later
StandsBefore-trans first middle later one two = record { heads = omega (arith, one.heads, two.heads); tails = tails }
  where
    tails : first.head ≡ later.head → first.tail < later.tail
    tails same =
        let up = one.heads in
        let on = two.heads in
        let low = one.tails (omega (arith, up, on)) in
        let high = two.tails (omega (arith, up, on)) in
        omega (arith, low, high)

IsEdge-with_edge : (graph : Graph) (new edge : Edge) → IsEdge graph edge → IsEdge (with_edge graph new) edge
IsEdge-with_edge graph new edge is = record { tail = is.tail; head = is.head; rising = is.rising; weight = is.weight }

pub IsGraph-with_edge : (graph : Graph) (edge : Edge) → IsGraph graph → IsEdge graph edge → ComesNext graph edge
    → IsGraph (with_edge graph edge)
IsGraph-with_edge graph edge is is_edge next = record {
  root_score = is.root_score;
  colours = is.colours;
  edges = All-push (IsEdge (with_edge graph edge)) graph.edges edge
      (All-weaker (IsEdge graph) (IsEdge (with_edge graph edge)) (IsEdge-with_edge graph edge) graph.edges is.edges)
      (IsEdge-with_edge graph edge edge is_edge);
  in_order = all_pairs_push StandsBefore graph.edges edge is.in_order before;
}
  where
    before : (k : ℕ) (d : Edge) → k < length graph.edges → StandsBefore (get_or graph.edges k d) edge
    before k d within =
        rw (get_or_default graph.edges k d (record { tail = 0; head = 0; weight = pos 0 }) within)
        (choose (cases_lt k (length graph.edges - 1)))
      where
        choose : (k < length graph.edges - 1) ⊎ (length graph.edges - 1 ≤ k) → StandsBefore (edge_at graph k) edge
        choose (inl earlier) = StandsBefore-trans (edge_at graph k) (edge_at graph (length graph.edges - 1)) edge
            (is.in_order k (length graph.edges - 1) (record { tail = 0; head = 0; weight = pos 0 }) earlier
            (omega arith)) (next (omega arith))
        choose (inr last) = let same : k ≡ length graph.edges - 1 = omega arith in rw same (next (omega arith))

-- the vertices that were there keep their colours
colour_of-with_vertex : (graph : Graph) (colour vertex : ℕ) → vertex < length graph.colours
    → colour_of (with_vertex graph colour) vertex ≡ colour_of graph vertex
colour_of-with_vertex graph colour vertex within = get_or_append_left graph.colours (colour ∷ []) 0 vertex within

pub colour_count-with_vertex : (graph : Graph) (colour : ℕ) → colour_count (with_vertex graph colour) ≡ colour
colour_count-with_vertex graph colour =
    ap (λ long. get_or (graph.colours ++ colour ∷ []) (long - 1) 0) (length_push graph.colours colour)
    ∙ get_or_push graph.colours colour 0 (length graph.colours + 1 - 1) (omega arith)

HasColours-with_vertex : (graph : Graph) (colour : ℕ) → HasColours graph.colours → 0 < colour
    → colour_count graph ≤ colour → colour ≤ colour_count graph + 1
    → length graph.colours < greatest_vertices → HasColours (graph.colours ++ colour ∷ [])
HasColours-with_vertex graph colour has some not_before no_gap room = record {
  some = rw long (omega arith);
  few = rw long (omega arith);
  root = colour_of-with_vertex graph colour 0 has.some ∙ has.root;
  others = others;
  in_order = all_pairs_push (λ first later. first ≤ later) graph.colours colour has.in_order up;
  no_gap = gap;
}
  where
    long : length (graph.colours ++ colour ∷ []) ≡ length graph.colours + 1
    long = length_push graph.colours colour

    up : (k d : ℕ) → k < length graph.colours → get_or graph.colours k d ≤ colour
    up k d within =
        let most =
        colour-le_count graph has k within in rw (get_or_default graph.colours k d 0 within) (omega (arith, most))

    others : (vertex : ℕ) → 0 < vertex → vertex < length (graph.colours ++ colour ∷ [])
        → 0 < get_or (graph.colours ++ colour ∷ []) vertex 0
    others vertex not_root within = choose (cases_lt vertex (length graph.colours))
      where
        choose : (vertex < length graph.colours) ⊎ (length graph.colours ≤ vertex)
            → 0 < get_or (graph.colours ++ colour ∷ []) vertex 0
        choose (inl old) = rw (colour_of-with_vertex graph colour vertex old) (has.others vertex not_root old)
        choose (inr new) = rw (get_or_push graph.colours colour 0 vertex (omega (arith, long))) some

    gap : (vertex : ℕ) → vertex + 1 < length (graph.colours ++ colour ∷ [])
        → get_or (graph.colours ++ colour ∷ []) (vertex + 1) 0 ≤ get_or (graph.colours ++ colour ∷ []) vertex 0 + 1
    gap vertex within = choose (cases_lt (vertex + 1) (length graph.colours))
      where
        choose : (vertex + 1 < length graph.colours) ⊎ (length graph.colours ≤ vertex + 1)
            → get_or (graph.colours ++ colour ∷ []) (vertex + 1) 0 ≤ get_or (graph.colours ++ colour ∷ []) vertex 0 + 1
        choose (inl old) =
            rw (
              colour_of-with_vertex graph colour (vertex + 1) old,
              colour_of-with_vertex graph colour vertex
                  (omega arith),
            ) (has.no_gap vertex old)
        choose (inr new) =
            let last : vertex ≡ length graph.colours - 1 = omega (arith, long) in
            rw (
              get_or_push graph.colours colour 0 (vertex + 1) (omega (arith, long)),
              colour_of-with_vertex graph
                  colour vertex (omega (arith, long)),
              last,
            ) no_gap

IsEdge-with_vertex : (graph : Graph) (colour : ℕ) (edge : Edge) → IsEdge graph edge
    → IsEdge (with_vertex graph colour) edge
IsEdge-with_vertex graph colour edge is = record {
  tail = omega (arith, is.tail, length_push graph.colours colour);
  head = omega (arith, is.head, length_push graph.colours colour);
  rising =
      rw (colour_of-with_vertex graph colour edge.tail is.tail, colour_of-with_vertex graph colour edge.head is.head)
      is.rising;
  weight = is.weight;
}

pub IsGraph-with_vertex : (graph : Graph) (colour : ℕ) → IsGraph graph → 0 < colour → colour_count graph ≤ colour
    → colour ≤ colour_count graph + 1
    → length graph.colours < greatest_vertices → IsGraph (with_vertex graph colour)
IsGraph-with_vertex graph colour is some not_before no_gap room = record {
  root_score = is.root_score;
  colours = HasColours-with_vertex graph colour is.colours some not_before no_gap room;
  edges =
      All-weaker (IsEdge graph) (IsEdge (with_vertex graph colour)) (IsEdge-with_vertex graph colour) graph.edges
      is.edges;
  in_order = is.in_order;
}

-- A number for the new colour is there: one was added, or there were enough.
pub ends-suffice : (graph : Graph) (colour long : ℕ) → colour < long → colour_count (with_vertex graph colour) < long
ends-suffice graph colour long within = rw (colour_count-with_vertex graph colour) within

pub end-added : (last colour long : ℕ) → last < long → long ≤ colour → colour ≤ last + 1 → colour < long + 1
end-added last colour long some few no_gap = omega arith
