-- Of edges_into: how many edges of a set go to a colour, counted one after another.
use Rattle.std.proofs.Common.{◌≡◌, ◌+◌, ◌-◌, ◌<◌, ◌≤◌, ◌∙◌, ℕ, zero, suc, Bool, true, false, cond, ◌&&◌, eqb, List, []}
use Rattle.std.proofs.Common.{◌∷◌, ◌++◌, length, ap, sym, refl, arith}
use Rattle.std.proofs.lemmas.Bool.{eq-eqb, ne_eqb, and_right}
use Rattle.std.proofs.lemmas.List.{length-append, map-id}
use Rattle.std.proofs.lemmas.List.Elements.{filter-append}
use Rattle.std.proofs.lemmas.List.FromFn.{map-range_with_len_more}
use Rattle.std.specs.List.{filter, range_with_len}
use Rattle.colour_graph.specs.EdgeSet.{AreInto, edges_into, is_allowed}
use Rattle.colour_graph.specs.Graph.{Graph, head_colour}

-- whether an edge of the set goes to the colour
abbrev pub goes_to : Graph → List Bool → ℕ → ℕ → Bool
goes_to graph allowed colour edge = is_allowed allowed edge && eqb (head_colour graph edge) colour

-- how many do of those below a place
abbrev pub count_below : Graph → List Bool → ℕ → ℕ → ℕ
count_below graph allowed colour place = length (filter (goes_to graph allowed colour) (range_with_len 0 place))

pub range-more : (place : ℕ) → range_with_len 0 (place + 1) ≡ range_with_len 0 place ++ place ∷ []
range-more place =
    sym (map-id (range_with_len 0 (place + 1)))
    ∙ map-range_with_len_more (λ (edge : ℕ). edge) 0 place place (omega arith)
    ∙ ap (λ front. front ++ place ∷ []) (map-id (range_with_len 0 place))

pub count_below-more : (graph : Graph) (allowed : List Bool) (colour place : ℕ)
    → count_below graph allowed colour (place + 1) ≡ count_below graph allowed colour place
    + cond (goes_to graph allowed colour place) 1 0
count_below-more graph allowed colour place =
    ap (λ edges. length (filter (goes_to graph allowed colour) edges)) (range-more place)
    ∙ ap (λ edges. length edges) (filter-append (goes_to graph allowed colour) (range_with_len 0 place) (place ∷ []))
    ∙ length-append (filter (goes_to graph allowed colour) (range_with_len 0 place))
    (filter (goes_to graph allowed colour) (place ∷ []))
    ∙ ap (λ more. count_below graph allowed colour place + more) (one (goes_to graph allowed colour place))
  where
    one : (goes : Bool) → length (cond goes (place ∷ []) []) ≡ cond goes 1 0
    one true = refl
    one false = refl

-- edges that do not go there add nothing
pub count_below-none : (graph : Graph) (allowed : List Bool) (colour place more : ℕ)
    → ((edge : ℕ) → place ≤ edge → edge < place + more → goes_to graph allowed colour edge ≡ false)
    → count_below graph allowed colour (place + more) ≡ count_below graph allowed colour place
count_below-none graph allowed colour place zero none = ap (λ n. count_below graph allowed colour n) (omega arith)
count_below-none graph allowed colour place (suc more) none =
    ap (λ n. count_below graph allowed colour n) (next place more)
    ∙ count_below-more graph allowed colour (place + more)
    ∙ ap (λ goes. count_below graph allowed colour (place + more) + cond goes 1 0)
    (none (place + more) (omega arith) (omega arith))
    ∙ no_more (count_below graph allowed colour (place + more))
    ∙ count_below-none graph allowed colour place more (λ edge from below. none edge from (omega arith))
  where
    next : (n m : ℕ) → n + suc m ≡ (n + m) + 1
    next n m = omega arith

    no_more : (n : ℕ) → n + 0 ≡ n
    no_more n = omega arith

-- no edge below the first goes there
pub count_below-first : (graph : Graph) (allowed : List Bool) (colour first past : ℕ) → AreInto graph colour first past
    → count_below graph allowed colour first ≡ 0
count_below-first graph allowed colour first past into =
    ap (λ n. count_below graph allowed colour n) (from_zero first) ∙ count_below-none graph allowed colour 0 first none
  where
    from_zero : (n : ℕ) → n ≡ 0 + n
    from_zero n = omega arith

    none : (edge : ℕ) → 0 ≤ edge → edge < 0 + first → goes_to graph allowed colour edge ≡ false
    none edge from below =
        let before : edge < first = omega arith in
        let at : edge < length graph.edges = omega (arith, into.in_order, into.within) in
        let small = (into.smaller edge at).0 before in
        and_right (is_allowed allowed edge) (eqb (head_colour graph edge) colour)
        (ne_eqb (head_colour graph edge) colour (λ same. absurd (omega (arith, small, same))))

-- an edge of the row goes there where it is in the set
pub goes_to-row : (graph : Graph) (allowed : List Bool) (colour first past edge : ℕ) → AreInto graph colour first past
    → first ≤ edge → edge < past
    → goes_to graph allowed colour edge ≡ is_allowed allowed edge
goes_to-row graph allowed colour first past edge into from below =
    let at : edge < length graph.edges = omega (arith, into.within) in
    ap (λ same. is_allowed allowed edge && same)
    (eq-eqb (head_colour graph edge) colour ((into.members edge at).0 (from, below)))
    ∙ and_true (is_allowed allowed edge)
  where
    and_true : (b : Bool) → (b && true) ≡ b
    and_true true = refl
    and_true false = refl

-- no edge past the row goes there
pub count_below-past : (graph : Graph) (allowed : List Bool) (colour first past : ℕ) → AreInto graph colour first past
    → length (edges_into graph allowed colour) ≡ count_below graph allowed colour past
count_below-past graph allowed colour first past into =
    ap (λ n. count_below graph allowed colour n) (whole (length graph.edges) past into.within)
    ∙ count_below-none graph allowed colour past (length graph.edges - past) none
  where
    whole : (n m : ℕ) → m ≤ n → n ≡ m + (n - m)
    whole n m within = omega arith

    none : (edge : ℕ) → past ≤ edge → edge < past + (length graph.edges - past)
        → goes_to graph allowed colour edge ≡ false
    none edge from below =
        let at : edge < length graph.edges = omega arith in
        and_right (is_allowed allowed edge) (eqb (head_colour graph edge) colour)
        (ne_eqb (head_colour graph edge) colour
        (λ same. let inside = ((into.members edge at).1 same).1 in absurd (omega (arith, inside))))
