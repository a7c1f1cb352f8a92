-- The numbers of a table that holds bound the scores of all colourful lists of edges.
use Rattle.std.proofs.Common.{◌≡◌, ◌+◌, ◌-◌, ◌*◌, ◌^◌, ◌<◌, ◌≤◌, ℕ, suc, ℤ, pos, ◌+ℤ◌, ◌≤ℤ◌, Bool, true, false, List}
use Rattle.std.proofs.Common.{[], ◌∷◌, length, ap, sym, refl, subst, ◌∙◌, arith, mul-zero, mul_assoc, pow_pos, pow-suc}
use Rattle.std.proofs.Math.Nat.{mul-lt-mul_of_pos_left}
use Rattle.std.proofs.lemmas.Nat.{pow-add}
use Rattle.std.proofs.lemmas.Int.{ints}
use Rattle.colour_graph.specs.declared.edge.Edge.{Edge}
use Rattle.colour_graph.specs.Bounded.{IsBounded}
use Rattle.colour_graph.specs.EdgeSet.{all_edges}
use Rattle.colour_graph.specs.Graph.{Graph, IsEdge, IsGraph, colour_count, colour_of, edge_at}
use Rattle.tree_certificate.specs.ColourSet.{IsPartOf, place_of, without}
use Rattle.tree_certificate.specs.TableHolds.{IsHighEnough, TableHolds, number_at, number_of, place_in, row_length}
use Rattle.tree_certificate.proofs.Bounding.{Bounds, colour-le_count}
use Rattle.tree_certificate.proofs.Trees.{IsOpenEdge, bounded_by}

-- the place of a set of so many colours is below 2 to their number
pub place-lt : (set : List Bool) → place_of set < 2 ^ length set
place-lt [] = omega arith
place-lt (true ∷ set) = omega (arith, place-lt set, pow-suc 2 (length set))
place-lt (false ∷ set) = omega (arith, place-lt set, pow-suc 2 (length set))

-- One more colour that is not in the set changes no place.
pub place_in-left_out : (graph : Graph) (vertex : ℕ) (set : List Bool)
    → colour_of graph vertex + length set < colour_count graph
    → place_in graph vertex (false ∷ set) ≡ place_in graph vertex set
place_in-left_out graph vertex set room =
    shifted (colour_count graph - length set - colour_of graph vertex)
    (colour_count graph - suc (length set) - colour_of graph vertex) (place_of set)
    (one_less (colour_count graph) (length set) (colour_of graph vertex) room)
  where
    one_less : (count size colour : ℕ) → colour + size < count → count - size - colour ≡ suc (count - suc size - colour)
    one_less count size colour room = omega arith

    shifted : (more less place : ℕ) → more ≡ suc less → 2 ^ less * (2 * place) ≡ 2 ^ more * place
    shifted more less place is =
        sym (mul_assoc (2 ^ less) 2 place) ∙ ap (λ power. power * place)
        (sym (pow-suc 2 less) ∙ ap (λ n. 2 ^ n) (sym is))

-- the place of a set of greater colours is in the row
pub place_in-lt : (graph : Graph) (vertex : ℕ) (set : List Bool)
    → colour_of graph vertex + length set ≤ colour_count graph → place_in graph vertex set < row_length graph vertex
place_in-lt graph vertex set room =
    below (place_of set) (colour_count graph - length set - colour_of graph vertex) (length set)
    (colour_count graph - colour_of graph vertex) (place-lt set)
    (whole (colour_count graph) (length set) (colour_of graph vertex) room)
  where
    whole : (count size colour : ℕ) → colour + size ≤ count → (count - size - colour) + size ≡ count - colour
    whole count size colour room = omega arith

    below : (place more size all : ℕ) → place < 2 ^ size → more + size ≡ all → 2 ^ more * place < 2 ^ all
    below place more size all within is =
        let power : 2 ^ all ≡ 2 ^ more * 2 ^ size = ap (λ n. 2 ^ n) (sym is) ∙ pow-add 2 more size in
        rw power (mul-lt-mul_of_pos_left within (pow_pos more))

-- the numbers of a table that holds
pub Bounds-table : (graph : Graph) (rows : List (List ℤ)) (upper : ℤ) → IsGraph graph → TableHolds graph rows upper
    → Bounds graph (IsOpenEdge graph (all_edges graph)) (number_of graph rows)
Bounds-table graph rows upper is holds = record { empty = empty; grows = grows; takes = takes }
  where
    empty : (vertex : ℕ) → vertex < length graph.colours → pos 0 ≤ℤ number_of graph rows vertex []
    empty vertex within =
        (holds.high vertex (place_in graph vertex []) within
        (place_in-lt graph vertex [] (omega (arith, colour-le_count graph vertex is.colours within)))).empty
        (mul-zero (2 ^ (colour_count graph - 0 - colour_of graph vertex)))

    enough : (vertex : ℕ) (set : List Bool) → vertex < length graph.colours
        → colour_of graph vertex + length set < colour_count graph
        → IsHighEnough graph rows vertex set (number_of graph rows vertex (true ∷ set))
    enough vertex set within room =
        (holds.high vertex (place_in graph vertex (true ∷ set)) within
        (place_in-lt graph vertex (true ∷ set) (one_more (colour_of graph vertex) (length set) (colour_count graph)
        room))).high
        set room refl
      where
        one_more : (colour size count : ℕ) → colour + size < count → colour + suc size ≤ count
        one_more colour size count room = omega arith

    same : (number other : ℤ) → other ≡ number → number ≤ℤ other
    same number other is = rw is (omega (arith, ints))

    grows : (vertex : ℕ) (here : Bool) (set : List Bool) → vertex < length graph.colours
        → colour_of graph vertex + length set < colour_count graph
        → number_of graph rows vertex set ≤ℤ number_of graph rows vertex (here ∷ set)
    grows vertex true set within room = (enough vertex set within room).left_out
    grows vertex false set within room =
        same (number_of graph rows vertex set) (number_of graph rows vertex (false ∷ set))
        (ap (λ place. number_at rows vertex place) (place_in-left_out graph vertex set room))

    regrouped : (weight part rest most : ℤ) → ((weight +ℤ part) +ℤ rest) ≤ℤ most → (weight +ℤ (part +ℤ rest)) ≤ℤ most
    regrouped weight part rest most is = omega (arith, ints)

    takes : (edge : Edge) (set part : List Bool) → IsOpenEdge graph (all_edges graph) edge
        → colour_of graph edge.head + length set ≡ colour_count graph → IsPartOf part set
        → (edge.weight +ℤ (number_of graph rows edge.head part +ℤ number_of graph rows edge.tail (without set part))) ≤ℤ
        number_of graph rows edge.tail (true ∷ set)
    takes edge set part is_open next is_part =
        subst AtMost is_open.at_place
        (regrouped there.weight (number_of graph rows there.head part)
        (number_of graph rows there.tail (without set part)) (number_of graph rows there.tail (true ∷ set))
        ((enough there.tail set is_edge.tail (omega (arith, is_edge.rising, at_next))).taken is_open.place
        is_open.within refl at_next part is_part))
      where
        there : Edge
        there = edge_at graph is_open.place

        is_edge : IsEdge graph there
        is_edge = is.edges is_open.place (record { tail = 0; head = 0; weight = pos 0 }) is_open.within

        at_next : colour_of graph there.head + length set ≡ colour_count graph
        at_next = ap (λ (e : Edge). colour_of graph e.head + length set) is_open.at_place ∙ next

        AtMost : Edge → Type 0
        AtMost e = (e.weight +ℤ (number_of graph rows e.head part +ℤ number_of graph rows e.tail (without set part))) ≤ℤ
            number_of graph rows e.tail (true ∷ set)

pub table_bounds : (graph : Graph) (rows : List (List ℤ)) (upper : ℤ) → IsGraph graph → TableHolds graph rows upper
    → IsBounded graph (all_edges graph) upper
table_bounds graph rows upper is holds =
    bounded_by graph (all_edges graph) (number_of graph rows) upper is (Bounds-table graph rows upper is holds)
    holds.total
