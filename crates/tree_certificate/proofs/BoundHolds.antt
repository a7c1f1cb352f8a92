-- A bound that holds on a set bounds the scores of all colourful lists of its edges. A list has at most one edge into
-- the colour of a split: one that the part names, and then all its edges are on the first side; or none of them, and
-- then all are on the second.
use Rattle.std.proofs.Common.{◌≡◌, ◌<◌, ◌⊎◌, inl, inr, ℕ, ℤ, ◌≤ℤ◌, Bool, true, false, not, ◌&&◌, ◌||◌, eqb, List}
use Rattle.std.proofs.Common.{length, get_or, ap, sym, ◌∙◌}
use Rattle.std.proofs.lemmas.Bool.{and_from, and_parts, cases_Bool, cases_order, eqb-true, false≢true, not_from_false}
use Rattle.std.proofs.lemmas.Bool.{or_left, or_right}
use Rattle.std.proofs.lemmas.List.{get_or_default}
use Rattle.std.proofs.lemmas.List.Elements.{filter_passes}
use Rattle.std.proofs.lemmas.List.Folds.{Any-from_list_any, list_any_at}
use Rattle.std.specs.List.{All, Any, Contains, list_any, range_with_len}
use Rattle.colour_graph.specs.Bounded.{IsBounded}
use Rattle.colour_graph.specs.Colourful.{IsColourful, score_of}
use Rattle.colour_graph.specs.EdgeSet.{edges_into, is_allowed, is_named, leaving, only}
use Rattle.colour_graph.specs.Graph.{Graph, IsGraph, head_colour}
use Rattle.colour_graph.proofs.Sets.{is_allowed-keeping}
use Rattle.tree_certificate.specs.BoundHolds.{BoundHolds, IsSplit}
use Rattle.tree_certificate.specs.BoundValue.{BoundValue, priced, split}
use Rattle.tree_certificate.proofs.PriceHolds.{prices_hold_bounds}

-- The edges of a set into a colour go there.
head_colour-into : (graph : Graph) (allowed : List Bool) (colour edge : ℕ)
    → Contains (edges_into graph allowed colour) edge → head_colour graph edge ≡ colour
head_colour-into graph allowed colour edge (place, within, is) =
    eqb-true (head_colour graph edge) colour
    (and_parts (is_allowed allowed edge) (eqb (head_colour graph edge) colour)
    (ap (λ e. is_allowed allowed e && eqb (head_colour graph e) colour) (sym is)
    ∙ filter_passes (λ e. is_allowed allowed e && eqb (head_colour graph e) colour)
    (range_with_len 0 (length graph.edges)) place edge within)).1

-- So do those that the part of a split names.
head_colour-named : (graph : Graph) (allowed : List Bool) (colour : ℕ) (part : List ℕ)
    → IsSplit graph allowed colour part
    → (edge : ℕ) → is_named part edge ≡ true → head_colour graph edge ≡ colour
head_colour-named graph allowed colour part is edge named = at_place (Any-from_list_any (λ e. eqb e edge) part named)
  where
    at_place : Any (λ e. eqb e edge ≡ true) part → head_colour graph edge ≡ colour
    at_place (place, other, within, there, same) =
        ap (λ e. head_colour graph e) (sym (there ∙ eqb-true other edge same))
        ∙ head_colour-into graph allowed colour (get_or part place other) (is.members place other within)

-- a list whose edges into the colour are named is on the first side
named_are_only : (graph : Graph) (allowed : List Bool) (colour : ℕ) (part edges : List ℕ)
    → All (λ edge. is_allowed allowed edge ≡ true) edges
    → ((place : ℕ) (d : ℕ) → place < length edges → head_colour graph (get_or edges place d) ≡ colour
    → is_named part (get_or edges place d) ≡ true)
    → All (λ edge. is_allowed (only graph allowed colour part) edge ≡ true) edges
named_are_only graph allowed colour part edges each named place d within =
    is_allowed-keeping (λ e. not (eqb (head_colour graph e) colour) || is_named part e) allowed edge
    ∙ and_from (is_allowed allowed edge) (not (eqb (head_colour graph edge) colour) || is_named part edge)
    (each place d within)
    (choose (cases_Bool (eqb (head_colour graph edge) colour)))
  where
    edge : ℕ
    edge = get_or edges place d

    choose : (eqb (head_colour graph edge) colour ≡ true) ⊎ (eqb (head_colour graph edge) colour ≡ false)
        → (not (eqb (head_colour graph edge) colour) || is_named part edge) ≡ true
    choose (inl into) =
        or_right (not (eqb (head_colour graph edge) colour)) (is_named part edge)
        (named place d within (eqb-true (head_colour graph edge) colour into))
    choose (inr other) =
        or_left (not (eqb (head_colour graph edge) colour)) (is_named part edge)
        (not_from_false (eqb (head_colour graph edge) colour) other)

-- a list of which no edge is named is on the second
unnamed_are_leaving : (allowed : List Bool) (part edges : List ℕ) → All (λ edge. is_allowed allowed edge ≡ true) edges
    → list_any (is_named part) edges ≡ false
    → All (λ edge. is_allowed (leaving allowed part) edge ≡ true) edges
unnamed_are_leaving allowed part edges each none place d within =
    is_allowed-keeping (λ e. not (is_named part e)) allowed (get_or edges place d)
    ∙ and_from (is_allowed allowed (get_or edges place d)) (not (is_named part (get_or edges place d)))
    (each place d within)
    (choose (cases_Bool (is_named part (get_or edges place d))))
  where
    choose : (is_named part (get_or edges place d) ≡ true) ⊎ (is_named part (get_or edges place d) ≡ false)
        → not (is_named part (get_or edges place d)) ≡ true
    choose (inl named) = absurd (false≢true (sym none ∙ list_any_at (is_named part) edges place d within named))
    choose (inr unnamed) = not_from_false (is_named part (get_or edges place d)) unnamed

-- Of a colourful list one edge goes to a colour: so where it is named, each that goes there is.
one_is_named : (graph : Graph) (allowed : List Bool) (colour : ℕ) (part edges : List ℕ)
    → IsSplit graph allowed colour part → IsColourful graph edges
    → Any (λ edge. is_named part edge ≡ true) edges
    → (place : ℕ) (d : ℕ) → place < length edges → head_colour graph (get_or edges place d) ≡ colour
    → is_named part (get_or edges place d) ≡ true
one_is_named graph allowed colour part edges is colourful (at, edge, in_list, there, named) place d within into =
    choose (cases_order at place)
  where
    is_edge : get_or edges at d ≡ edge
    is_edge = get_or_default edges at d edge in_list ∙ there

    at_named : head_colour graph (get_or edges at d) ≡ colour
    at_named = ap (λ e. head_colour graph e) is_edge ∙ head_colour-named graph allowed colour part is edge named

    choose : (at ≡ place) ⊎ ((at < place) ⊎ (place < at)) → is_named part (get_or edges place d) ≡ true
    choose (inl same) = ap (λ k. is_named part (get_or edges k d)) (sym same) ∙ ap (λ e. is_named part e) is_edge
        ∙ named
    choose (inr (inl before)) = absurd (colourful.one_of_a_colour at place d before within (at_named ∙ sym into))
    choose (inr (inr after)) = absurd (colourful.one_of_a_colour place at d after in_list (into ∙ sym at_named))

-- Where both sides of a split are bounded, the set is.
split_bounds : (graph : Graph) (allowed : List Bool) (colour : ℕ) (part : List ℕ) (upper : ℤ)
    → IsSplit graph allowed colour part
    → IsBounded graph (only graph allowed colour part) upper → IsBounded graph (leaving allowed part) upper
    → IsBounded graph allowed upper
split_bounds graph allowed colour part upper is first second edges colourful each =
    choose (cases_Bool (list_any (is_named part) edges))
  where
    choose : (list_any (is_named part) edges ≡ true) ⊎ (list_any (is_named part) edges ≡ false)
        → score_of graph edges ≤ℤ upper
    choose (inl one) =
        first edges colourful
        (named_are_only graph allowed colour part edges each
        (one_is_named graph allowed colour part edges is colourful (Any-from_list_any (is_named part) edges one)))
    choose (inr none) = second edges colourful (unnamed_are_leaving allowed part edges each none)

pub bound_holds_bounds : (graph : Graph) (allowed : List Bool) (bound : BoundValue) (upper : ℤ) → IsGraph graph
    → BoundHolds graph allowed bound upper → IsBounded graph allowed upper
bound_holds_bounds graph allowed (priced cert) upper is holds =
    prices_hold_bounds graph allowed cert upper is holds.0 holds.1
bound_holds_bounds graph allowed (split colour part first second) upper is holds =
    split_bounds graph allowed colour part upper holds.0 (bound_holds_bounds graph (only graph allowed colour part)
    first upper is holds.1)
    (bound_holds_bounds graph (leaving allowed part) second upper is holds.2)
