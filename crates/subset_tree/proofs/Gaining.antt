-- What the edges from a vertex into a colour gain, edge after edge.
use Rattle.std.proofs.Common.{◌≡◌, ◌⊎◌, inl, inr, ◌+◌, ◌-◌, ◌*◌, ◌^◌, ◌<◌, ◌≤◌, ◌↔◌, ℕ, ℤ, pos, negsuc, ◌+ℤ◌, ◌≤ℤ◌}
use Rattle.std.proofs.Common.{Bool, List, [], length, map, get_or, ap, sym, subst, ◌∙◌, arith, rules, SFits, w32}
use Rattle.std.proofs.lemmas.Bool.{cases_eq, cases_lt}
use Rattle.std.proofs.lemmas.Int.{ints}
use Rattle.std.proofs.lemmas.List.{get_or-map, get_or_past, length-map}
use Rattle.colour_graph.specs.declared.edge.Edge.{Edge}
use Rattle.colour_graph.specs.EdgeSet.{AreInto}
use Rattle.colour_graph.specs.Graph.{Graph, HasColours, IsEdge, IsGraph, IsScore, colour_count, colour_of, edge_at}
use Rattle.colour_graph.specs.Graph.{head_colour}
use Rattle.tree_certificate.specs.ColourSet.{place_of}
use Rattle.tree_certificate.specs.TableHolds.{HasRow, number_of, row_at}
use Rattle.subset_tree.specs.inside.Filling.{AreFilledFrom, AreGains, AreGainsBefore, AreModest, IsEnoughBefore}
use Rattle.tree_certificate.specs.Enough.{IsRaised}
use Rattle.tree_certificate.specs.Number.{number_in}
use Rattle.tree_certificate.proofs.SetParts.{place-lt}

-- a row of a table of vectors
pub row_at-map : {X : Type 0} (items : X → List ℤ) (rows : List X) (vertex : ℕ) (row : X) → vertex < length rows
    → row ≡ get_or rows vertex row
    → row_at (map items rows) vertex ≡ items row
row_at-map items rows vertex row within is = get_or-map items rows vertex row [] within ∙ ap items (sym is)

-- an edge goes to a later vertex
pub edge-rises : (graph : Graph) (edge : Edge) → HasColours graph.colours → IsEdge graph edge
    → edge.tail + 1 ≤ edge.head
edge-rises graph edge has is = choose (cases_lt edge.tail edge.head)
  where
    same_colour : edge.tail ≡ edge.head → ⊥
    same_colour same = let equal : colour_of graph edge.tail ≡ colour_of graph edge.head =
        ap (λ v. colour_of graph v) same in omega (arith, equal, is.rising)

    choose : (edge.tail < edge.head) ⊎ (edge.head ≤ edge.tail) → edge.tail + 1 ≤ edge.head
    choose (inl before) = omega (arith, before)
    choose (inr after) = pick (cases_eq edge.tail edge.head)
      where
        pick : (edge.tail ≡ edge.head) ⊎ (edge.tail ≡ edge.head → ⊥) → edge.tail + 1 ≤ edge.head
        pick (inl same) = absurd (same_colour same)
        pick (inr apart) =
            let in_order : colour_of graph edge.head ≤ colour_of graph edge.tail =
            has.in_order edge.head edge.tail 0 (omega (arith, after, apart)) is.tail in
            absurd (omega (arith, in_order, is.rising))

-- Where all gains are nothing, no edge was met.
pub gained-first : (graph : Graph) (rows : List (List ℤ)) (vertex colour first past : ℕ) (gains : List ℤ)
    → AreInto graph colour first past → colour ≤ colour_count graph
    → length gains ≡ 2 ^ (colour_count graph - colour)
    → ((place : ℕ) → place < length gains → number_in gains place ≡ negsuc 999999999)
    → AreGainsBefore graph rows vertex colour first gains
gained-first graph rows vertex colour first past gains into within long clear = record { near = near; exact = exact }
  where
    low : (z : ℤ) (place : ℕ) → z ≡ negsuc 999999999 → (negsuc 999999999 ≤ℤ z) × (z ≤ℤ pos (100000 * (place + 1)))
    low z place is = (omega (arith, ints), omega (arith, ints))

    none : (z : ℤ) (place : ℕ) → z ≡ pos 0 → (negsuc 999999999 ≤ℤ z) × (z ≤ℤ pos (100000 * (place + 1)))
    none z place is = (omega (arith, ints), omega (arith, ints))

    each : (place : ℕ) → (negsuc 999999999 ≤ℤ number_in gains place)
        × (number_in gains place ≤ℤ pos (100000 * (place + 1)))
    each place = choose (cases_lt place (length gains))
      where
        choose : (place < length gains) ⊎ (length gains ≤ place)
            → (negsuc 999999999 ≤ℤ number_in gains place) × (number_in gains place ≤ℤ pos (100000 * (place + 1)))
        choose (inl here) = low (number_in gains place) place (clear place here)
        choose (inr after) = none (number_in gains place) place (get_or_past gains place (pos 0) after)

    near : AreGains gains
    near = record { not_below = λ place. (each place).0; not_above = λ place. (each place).1 }

    exact : (set : List Bool) → colour + length set ≡ colour_count graph → (candidate : ℤ)
        → (number_in gains (place_of set) ≤ℤ candidate) ↔ IsEnoughBefore graph rows vertex colour first set candidate
    exact set at candidate = (
      λ is. record { lowest = rw there at is; each = no_edge },
      λ enough. rw there enough.lowest,
    )
      where
        rest : (count colour size : ℕ) → colour + size ≡ count → size ≡ count - colour
        rest count colour size at = omega arith

        here : place_of set < length gains
        here = rw (long, ← rest (colour_count graph) colour (length set) at) (place-lt set)

        there : number_in gains (place_of set) ≡ negsuc 999999999
        there = clear (place_of set) here

        no_edge : (edge : ℕ) → edge < first → (edge_at graph edge).tail ≡ vertex → head_colour graph edge ≡ colour
            → ((edge_at graph edge).weight +ℤ number_of graph rows (edge_at graph edge).head set) ≤ℤ candidate
        no_edge edge before tail same =
            let smaller : head_colour graph edge < colour =
            (into.smaller edge (omega (arith, before, into.in_order, into.within))).0 before in
            absurd (omega (arith, smaller, same))

-- An edge from another vertex gains nothing here.
pub gained-other : (graph : Graph) (rows : List (List ℤ)) (vertex colour place : ℕ) (gains : List ℤ) (edge : Edge)
    → edge ≡ edge_at graph place → (edge.tail ≡ vertex → ⊥)
    → AreGainsBefore graph rows vertex colour place gains → AreGainsBefore graph rows vertex colour (place + 1) gains
gained-other graph rows vertex colour place gains edge is other before = record { near = before.near; exact = exact }
  where
    exact : (set : List Bool) → colour + length set ≡ colour_count graph → (candidate : ℤ)
        → (number_in gains (place_of set) ≤ℤ candidate)
        ↔ IsEnoughBefore graph rows vertex colour (place + 1) set candidate
    exact set at candidate = (to, from)
      where
        from : IsEnoughBefore graph rows vertex colour (place + 1) set candidate
            → number_in gains (place_of set) ≤ℤ candidate
        from enough = (before.exact set at candidate).1
            (record { lowest = enough.lowest; each = λ e within. enough.each e (omega (arith, within)) })

        to : number_in gains (place_of set) ≤ℤ candidate
            → IsEnoughBefore graph rows vertex colour (place + 1) set candidate
        to low = record { lowest = known.lowest; each = each }
          where
            known : IsEnoughBefore graph rows vertex colour place set candidate
            known = (before.exact set at candidate).0 low

            each : (e : ℕ) → e < place + 1 → (edge_at graph e).tail ≡ vertex → head_colour graph e ≡ colour
                → ((edge_at graph e).weight +ℤ number_of graph rows (edge_at graph e).head set) ≤ℤ candidate
            each e within tail same = choose (cases_eq e place)
              where
                choose : (e ≡ place) ⊎ (e ≡ place → ⊥)
                    → ((edge_at graph e).weight +ℤ number_of graph rows (edge_at graph e).head set) ≤ℤ candidate
                choose (inl here) = absurd
                    (other (ap (λ (x : Edge). x.tail) (is ∙ ap (edge_at graph) (sym here)) ∙ tail))
                choose (inr apart) = known.each e (omega (arith, within, apart)) tail same

-- the number of a head for a set of all colours behind its own
pub number_of-behind : (graph : Graph) (rows : List (List ℤ)) (vertex : ℕ) (numbers : List ℤ) (set : List Bool)
    → row_at rows vertex ≡ numbers
    → colour_of graph vertex + length set ≡ colour_count graph
    → number_of graph rows vertex set ≡ number_in numbers (place_of set)
number_of-behind graph rows vertex numbers set is at =
    ap (λ row. number_in row (2 ^ (colour_count graph - length set - colour_of graph vertex) * place_of set)) is
    ∙ ap (number_in numbers) (alone (colour_count graph - length set - colour_of graph vertex) (place_of set)
    (none (colour_count graph) (length set) (colour_of graph vertex) at))
  where
    none : (count size colour : ℕ) → colour + size ≡ count → count - size - colour ≡ 0
    none count size colour at = omega arith

    alone : (more place : ℕ) → more ≡ 0 → 2 ^ more * place ≡ place
    alone more place is = rw is (omega arith)

-- An edge from the vertex raises the gains.
pub gained-more : (graph : Graph) (rows : List (List ℤ)) (vertex colour place : ℕ) (gains more numbers : List ℤ)
    (edge : Edge) → edge ≡ edge_at graph place → edge.tail ≡ vertex
    → colour_of graph edge.head ≡ colour → row_at rows edge.head ≡ numbers
    → length numbers ≡ 2 ^ (colour_count graph - colour)
    → ((p : ℕ) → p < length numbers → IsRaised (number_in more p) (number_in gains p) edge.weight (number_in numbers p))
    → AreGains more
    → AreGainsBefore graph rows vertex colour place gains → AreGainsBefore graph rows vertex colour (place + 1) more
gained-more graph rows vertex colour place gains more numbers edge is tail_is into row_is long raised near before =
    record { near = near; exact = exact }
  where
    rest : (count colour size : ℕ) → colour + size ≡ count → size ≡ count - colour
    rest count colour size at = omega arith

    exact : (set : List Bool) → colour + length set ≡ colour_count graph → (candidate : ℤ)
        → (number_in more (place_of set) ≤ℤ candidate)
        ↔ IsEnoughBefore graph rows vertex colour (place + 1) set candidate
    exact set at candidate = (to, from)
      where
        within : place_of set < length numbers
        within = rw (long, ← rest (colour_count graph) colour (length set) at) (place-lt set)

        step : IsRaised (number_in more (place_of set)) (number_in gains (place_of set)) edge.weight
            (number_in numbers (place_of set))
        step = raised (place_of set) within

        number_is : number_of graph rows edge.head set ≡ number_in numbers (place_of set)
        number_is = number_of-behind graph rows edge.head numbers set row_is (rw into at)

        Low : Edge → Type 0
        Low e = (e.weight +ℤ number_of graph rows e.head set) ≤ℤ candidate

        from : IsEnoughBefore graph rows vertex colour (place + 1) set candidate
            → number_in more (place_of set) ≤ℤ candidate
        from enough = (step candidate).1 (
          (before.exact set at candidate).1 (record {
            lowest = enough.lowest;
            each = λ e below. enough.each e (omega (arith, below));
          }),
          rw number_is at here,
        )
          where
            here : (edge.weight +ℤ number_of graph rows edge.head set) ≤ℤ candidate
            here = subst Low (sym is) (enough.each place (omega arith) (ap (λ (e : Edge). e.tail) (sym is) ∙ tail_is)
                (ap (λ (e : Edge). colour_of graph e.head) (sym is) ∙ into))

        to : number_in more (place_of set) ≤ℤ candidate
            → IsEnoughBefore graph rows vertex colour (place + 1) set candidate
        to low = record { lowest = known.lowest; each = each }
          where
            known : IsEnoughBefore graph rows vertex colour place set candidate
            known = (before.exact set at candidate).0 (((step candidate).0 low).0)

            here : (edge.weight +ℤ number_of graph rows edge.head set) ≤ℤ candidate
            here = rw number_is (((step candidate).0 low).1)

            each : (e : ℕ) → e < place + 1 → (edge_at graph e).tail ≡ vertex → head_colour graph e ≡ colour
                → ((edge_at graph e).weight +ℤ number_of graph rows (edge_at graph e).head set) ≤ℤ candidate
            each e below tail same = choose (cases_eq e place)
              where
                choose : (e ≡ place) ⊎ (e ≡ place → ⊥)
                    → ((edge_at graph e).weight +ℤ number_of graph rows (edge_at graph e).head set) ≤ℤ candidate
                choose (inl equal) = subst Low (is ∙ ap (edge_at graph) (sym equal)) here
                choose (inr apart) = known.each e (omega (arith, below, apart)) tail same

-- After the last edge into the colour no edge is left.
pub gained-all : (graph : Graph) (rows : List (List ℤ)) (vertex colour first past place : ℕ) (gains : List ℤ)
    → AreInto graph colour first past → past ≤ place
    → place ≤ past → AreGainsBefore graph rows vertex colour place gains
    → AreGainsBefore graph rows vertex colour (length graph.edges) gains
gained-all graph rows vertex colour first past place gains into low high before =
    record { near = before.near; exact = exact }
  where
    exact : (set : List Bool) → colour + length set ≡ colour_count graph → (candidate : ℤ)
        → (number_in gains (place_of set) ≤ℤ candidate)
        ↔ IsEnoughBefore graph rows vertex colour (length graph.edges) set candidate
    exact set at candidate = (to, from)
      where
        from : IsEnoughBefore graph rows vertex colour (length graph.edges) set candidate
            → number_in gains (place_of set) ≤ℤ candidate
        from enough = (before.exact set at candidate).1
            (record {
              lowest = enough.lowest;
              each = λ e within. enough.each e (omega (arith, within, high, into.within));
            })

        to : number_in gains (place_of set) ≤ℤ candidate
            → IsEnoughBefore graph rows vertex colour (length graph.edges) set candidate
        to is_low = record {
          lowest = known.lowest;
          each = λ e within tail same.
              let there = ((into.members e within).1 same).1 in
              known.each e (omega (arith, there, low)) tail same;
        }
          where
            known : IsEnoughBefore graph rows vertex colour place set candidate
            known = (before.exact set at candidate).0 is_low

pub fits-weight : (weight : ℤ) → IsScore weight → SFits w32 weight
fits-weight weight is =
    let low : negsuc 99999 ≤ℤ weight = is.not_below in
    let high : weight ≤ℤ pos 100000 = is.not_above in
    search rules

-- The row of the head of an edge.
pub record IsHeadRow (graph : Graph) (rows : List (List ℤ)) (head colour : ℕ) (numbers : List ℤ) : Type 0 where
  pub into : colour_of graph head ≡ colour
  pub row : row_at rows head ≡ numbers
  pub modest : AreModest numbers
  pub long : length numbers ≡ 2 ^ (colour_count graph - colour)

pub head_row : {X : Type 0} (graph : Graph) (items : X → List ℤ) (vectors : List X) (vertex colour first past place : ℕ)
    (edge : Edge) (found : ℕ) (row : X) (numbers : List ℤ)
    → IsGraph graph → AreFilledFrom graph (map items vectors) (vertex + 1) → AreInto graph colour first past
    → first ≤ place → place < past → edge ≡ edge_at graph place
    → IsEdge graph edge → edge.tail ≡ vertex → found ≡ edge.head → row ≡ get_or vectors found row → numbers ≡ items row
    → IsHeadRow graph (map items vectors) edge.head colour numbers
head_row graph items vectors vertex colour first past place edge found row numbers is filled into low high edge_is
    is_edge tail_is found_is row_is numbers_is =
    record {
      into = into_is;
      row = at_row;
      modest = subst (λ (ns : List ℤ). AreModest ns) at_row whole.1;
      long = subst (λ (ns : List ℤ). length ns ≡ 2 ^ (colour_count graph - colour)) at_row sized;
    }
  where
    into_is : colour_of graph edge.head ≡ colour
    into_is = ap (λ (e : Edge). colour_of graph e.head) edge_is
        ∙ (into.members place (omega (arith, into.within, high))).0 (low, high)

    later : vertex + 1 ≤ edge.head
    later = rw (← tail_is) (edge-rises graph edge is.colours is_edge)

    whole : (HasRow graph (map items vectors) edge.head) × AreModest (row_at (map items vectors) edge.head)
    whole = filled.each edge.head later is_edge.head

    within : edge.head < length vectors
    within = rw length-map at (whole.0.0)

    at_row : row_at (map items vectors) edge.head ≡ numbers
    at_row = row_at-map items vectors edge.head row within (rw found_is at row_is) ∙ sym numbers_is

    sized : length (row_at (map items vectors) edge.head) ≡ 2 ^ (colour_count graph - colour)
    sized = whole.0.1 ∙ ap (λ here. 2 ^ (colour_count graph - here)) into_is
