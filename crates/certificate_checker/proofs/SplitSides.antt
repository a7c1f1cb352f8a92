-- The sides of a split: which edges they have, and how they are made of one set and undone.
use Rattle.std.proofs.Common.{◌≡◌, ◌⊎◌, inl, inr, ◌+◌, ◌-◌, ◌<◌, ◌≤◌, ◌∙◌, ℕ, zero, suc, Bool, true, false, not, ◌&&◌}
use Rattle.std.proofs.Common.{◌||◌, eqb, leb, ltb, cond, List, [], ◌∷◌, ◌++◌, length, get_or, set, ap, sym, refl, arith}
use Rattle.std.proofs.Common.{append_assoc, append-nil}
use Rattle.std.proofs.lemmas.Bool.{and_from, and_parts, and_right, cases_eq, cases_lt, eq-eqb, eqb-true}
use Rattle.std.proofs.lemmas.Bool.{false_from_ne_true, false≢true, le-ltb, leb-true, lt-ltb, ltb-true, ne_eqb}
use Rattle.std.proofs.lemmas.List.{ext_get_or, get_or_default, length-set}
use Rattle.std.proofs.lemmas.List.Elements.{All-contains, All-filter, filter-append, filter_passes}
use Rattle.std.proofs.lemmas.List.Folds.{Any-from_list_any, list_any_at}
use Rattle.std.proofs.lemmas.List.FromFn.{fill_by_all, get_or-map-range_with_len, get_or-range_with_len}
use Rattle.std.proofs.lemmas.List.FromFn.{length-map-range_with_len, length-range_with_len}
use Rattle.std.specs.List.{All, Any, Contains, filter, range_with_len}
use Rattle.colour_graph.specs.EdgeSet.{AreInto, IsSetOf, edges_into, is_allowed, is_named, keeping, leaving, only}
use Rattle.colour_graph.specs.Graph.{Graph, head_colour}
use Rattle.colour_graph.proofs.Choosing.{in_row-is}
use Rattle.colour_graph.proofs.Counting.{count_below-first, goes_to, goes_to-row, range-more}
use Rattle.colour_graph.proofs.Sets.{in_row, is_allowed-keeping, keeping-same, length-keeping, taken_from_row}
use Rattle.tree_certificate.specs.BoundHolds.{IsSplit}
use Rattle.tree_certificate.proofs.Caps.{IsIn-edges_into}
use Rattle.tree_certificate.proofs.Sums.{IsIn}
use Rattle.certificate_checker.specs.inside.Sides.{AreRisingInto, adding}

-- an edge of a graph that is in a set and goes to a colour
pub record IsInto (graph : Graph) (allowed : List Bool) (colour edge : ℕ) : Type 0 where
  pub in_graph : edge < length graph.edges
  pub in_set : is_allowed allowed edge ≡ true
  pub there : head_colour graph edge ≡ colour

pub IsInto-from_contains : (graph : Graph) (allowed : List Bool) (colour edge : ℕ)
    → Contains (edges_into graph allowed colour) edge → IsInto graph allowed colour edge
IsInto-from_contains graph allowed colour edge =
    All-contains (IsInto graph allowed colour) (edges_into graph allowed colour) edge each
  where
    at_each : (e place count : ℕ) → e ≡ 0 + place → place < count → count ≡ length graph.edges
        → goes_to graph allowed colour e ≡ true → IsInto graph allowed colour e
    at_each e place count at few all passes =
        let parts = and_parts (is_allowed allowed e) (eqb (head_colour graph e) colour) passes in
        record { in_graph = omega arith; in_set = parts.0; there = eqb-true (head_colour graph e) colour parts.1 }

    in_range : All (λ e. goes_to graph allowed colour e ≡ true → IsInto graph allowed colour e)
        (range_with_len 0 (length graph.edges))
    in_range k d within =
        let few : k < length graph.edges = omega (arith, length-range_with_len 0 (length graph.edges)) in
        at_each (get_or (range_with_len 0 (length graph.edges)) k d) k (length graph.edges)
        (get_or-range_with_len 0 (length graph.edges) k d few) few refl

    each : All (IsInto graph allowed colour) (edges_into graph allowed colour)
    each k d within =
        All-filter (goes_to graph allowed colour) (λ e. goes_to graph allowed colour e ≡ true
        → IsInto graph allowed colour e) (range_with_len 0 (length graph.edges))
        in_range k d within (filter_passes (goes_to graph allowed colour)
        (range_with_len 0 (length graph.edges)) k d within)

Contains-from_IsIn : (x : ℕ) (xs : List ℕ) → IsIn x xs → Contains xs x
Contains-from_IsIn x [] here = absurd here
Contains-from_IsIn x (first ∷ xs) (inl is) = (0, omega arith, sym is)
Contains-from_IsIn x (first ∷ xs) (inr later) = let rest = Contains-from_IsIn x xs later in
    (suc rest.0, more (rest.0) (length xs) rest.1, rest.2)
  where
    more : (place long : ℕ) → place < long → suc place < suc long
    more place long within = omega arith

pub contains-from_IsInto : (graph : Graph) (allowed : List Bool) (colour edge : ℕ) → IsInto graph allowed colour edge
    → Contains (edges_into graph allowed colour) edge
contains-from_IsInto graph allowed colour edge is =
    Contains-from_IsIn edge (edges_into graph allowed colour)
    (rw (is.there) at (IsIn-edges_into graph allowed edge is.in_graph is.in_set))

-- whether a list names an edge
pub contains-from_named : (part : List ℕ) (edge : ℕ) → is_named part edge ≡ true → Contains part edge
contains-from_named part edge named = at_place (Any-from_list_any (λ e. eqb e edge) part named)
  where
    at_place : Any (λ e. eqb e edge ≡ true) part → Contains part edge
    at_place (place, other, within, there, same) =
        (place, within, get_or_default part place edge other within ∙ there ∙ eqb-true other edge same)

pub named-from_contains : (part : List ℕ) (edge : ℕ) → Contains part edge → is_named part edge ≡ true
named-from_contains part edge (place, within, is) =
    list_any_at (λ e. eqb e edge) part place edge within (eq-eqb (get_or part place edge) edge is)

same_bool : (a b : Bool) → (a ≡ true → b ≡ true) → (b ≡ true → a ≡ true) → a ≡ b
same_bool true b to back = sym (to refl)
same_bool false true to back = absurd (false≢true (back refl))
same_bool false false to back = refl

named-into : (graph : Graph) (allowed : List Bool) (colour edge : ℕ) → edge < length graph.edges
    → is_named (edges_into graph allowed colour) edge ≡ (is_allowed allowed edge && eqb (head_colour graph edge) colour)
named-into graph allowed colour edge within =
    same_bool (is_named (edges_into graph allowed colour) edge)
    (is_allowed allowed edge && eqb (head_colour graph edge) colour) to back
  where
    to : is_named (edges_into graph allowed colour) edge ≡ true
        → (is_allowed allowed edge && eqb (head_colour graph edge) colour) ≡ true
    to named =
        let is = IsInto-from_contains graph allowed colour edge
        (contains-from_named (edges_into graph allowed colour) edge named) in
        and_from (is_allowed allowed edge) (eqb (head_colour graph edge) colour) is.in_set
        (eq-eqb (head_colour graph edge) colour is.there)

    back : (is_allowed allowed edge && eqb (head_colour graph edge) colour) ≡ true
        → is_named (edges_into graph allowed colour) edge ≡ true
    back passes =
        let parts = and_parts (is_allowed allowed edge) (eqb (head_colour graph edge) colour) passes in
        named-from_contains (edges_into graph allowed colour) edge (contains-from_IsInto graph allowed colour edge
        (record { in_graph = within; in_set = parts.0; there = eqb-true (head_colour graph edge) colour parts.1 }))

-- the edges that a split names are of the set, and of the graph
named-in_set : (graph : Graph) (allowed : List Bool) (colour : ℕ) (part : List ℕ) → IsSplit graph allowed colour part
    → (edge : ℕ) → is_named part edge ≡ true
    → is_allowed allowed edge ≡ true
named-in_set graph allowed colour part is edge named =
    (IsInto-from_contains graph allowed colour edge
    (All-contains (λ e. Contains (edges_into graph allowed colour) e) part edge is.members
    (contains-from_named part edge named))).in_set

pub split-in_range : (graph : Graph) (allowed : List Bool) (colour : ℕ) (part : List ℕ) → IsSetOf graph allowed
    → IsSplit graph allowed colour part
    → All (λ edge. edge < length allowed) part
split-in_range graph allowed colour part long is k d within =
    let into = IsInto-from_contains graph allowed colour (get_or part k d) (is.members k d within) in
    omega (arith, long, into.in_graph)

pub into-in_range : (graph : Graph) (allowed : List Bool) (colour long : ℕ) → long ≡ length graph.edges
    → All (λ edge. edge < long) (edges_into graph allowed colour)
into-in_range graph allowed colour long is k d within =
    let into = IsInto-from_contains graph allowed colour (get_or (edges_into graph allowed colour) k d) (
      k,
      within,
      get_or_default (edges_into graph allowed colour) k
          (get_or (edges_into graph allowed colour) k d) d within,
    ) in
    omega (arith, is, into.in_graph)

-- the set with the edges that a part names
is_allowed-adding : (allowed : List Bool) (part : List ℕ) (edge : ℕ) → edge < length allowed
    → is_allowed (adding allowed part) edge ≡ (is_allowed allowed edge || is_named part edge)
is_allowed-adding allowed part edge within =
    get_or-map-range_with_len (λ at. is_allowed allowed at || is_named part at) 0
    (length allowed) edge edge false within (omega arith)

pub length-adding : (allowed : List Bool) (part : List ℕ) → length (adding allowed part) ≡ length allowed
length-adding allowed part = length-map-range_with_len (λ at. is_allowed allowed at || is_named part at) 0
    (length allowed)

pub adding-same : (allowed : List Bool) (part : List ℕ) (new : List Bool) → length new ≡ length allowed
    → ((edge : ℕ) → edge < length allowed → is_allowed new edge ≡ (is_allowed allowed edge || is_named part edge))
    → new ≡ adding allowed part
adding-same allowed part new long each =
    fill_by_all (λ at. is_allowed allowed at || is_named part at) new (length allowed) false long each

pub length-leaving : (allowed : List Bool) (part : List ℕ) → length (leaving allowed part) ≡ length allowed
length-leaving allowed part = length-keeping (λ edge. not (is_named part edge)) allowed

pub length-only : (graph : Graph) (allowed : List Bool) (colour : ℕ) (part : List ℕ)
    → length (only graph allowed colour part) ≡ length allowed
length-only graph allowed colour part = length-keeping
    (λ edge. not (eqb (head_colour graph edge) colour) || is_named part edge) allowed

-- The first side: the part is taken out, then all edges into the colour, and the part is put back.
pub only-made : (graph : Graph) (allowed : List Bool) (colour : ℕ) (part : List ℕ) → IsSplit graph allowed colour part
    → adding (keeping (λ edge. not (eqb (head_colour graph edge) colour)) (leaving allowed part)) part
    ≡ only graph allowed colour part
only-made graph allowed colour part is =
    keeping-same (λ edge. not (eqb (head_colour graph edge) colour) || is_named part edge) allowed (adding middle part)
    (length-adding middle part ∙ middle_long) each
  where
    middle : List Bool
    middle = keeping (λ edge. not (eqb (head_colour graph edge) colour)) (leaving allowed part)

    middle_long : length middle ≡ length allowed
    middle_long = length-keeping (λ edge. not (eqb (head_colour graph edge) colour)) (leaving allowed part)
        ∙ length-leaving allowed part

    regroup : (a n h : Bool) → (n ≡ true → a ≡ true) → (((a && not n) && not h) || n) ≡ (a && (not h || n))
    regroup true true true in_set = refl
    regroup true true false in_set = refl
    regroup true false true in_set = refl
    regroup true false false in_set = refl
    regroup false true h in_set = absurd (false≢true (in_set refl))
    regroup false false h in_set = refl

    each : (edge : ℕ) → edge < length allowed
        → is_allowed (adding middle part) edge
        ≡ (is_allowed allowed edge && (not (eqb (head_colour graph edge) colour) || is_named part edge))
    each edge within =
        is_allowed-adding middle part edge (omega (arith, middle_long))
        ∙ ap (λ here. here || is_named part edge)
        (is_allowed-keeping (λ at. not (eqb (head_colour graph at) colour)) (leaving allowed part) edge
        ∙ ap (λ here. here && not (eqb (head_colour graph edge) colour))
        (is_allowed-keeping (λ at. not (is_named part at)) allowed edge))
        ∙ regroup (is_allowed allowed edge) (is_named part edge) (eqb (head_colour graph edge) colour)
        (named-in_set graph allowed colour part is edge)

-- It is undone by the other edges into the colour.
pub only-undone : (graph : Graph) (allowed : List Bool) (colour : ℕ) (part : List ℕ) → IsSetOf graph allowed
    → adding (only graph allowed colour part) (edges_into graph (leaving allowed part) colour) ≡ allowed
only-undone graph allowed colour part long =
    ext_get_or false (adding side others) allowed (length-adding side others ∙ side_long) each
  where
    side : List Bool
    side = only graph allowed colour part

    others : List ℕ
    others = edges_into graph (leaving allowed part) colour

    side_long : length side ≡ length allowed
    side_long = length-only graph allowed colour part

    regroup : (a n h : Bool) → ((a && (not h || n)) || ((a && not n) && h)) ≡ a
    regroup true true true = refl
    regroup true true false = refl
    regroup true false true = refl
    regroup true false false = refl
    regroup false n h = refl

    each : (edge : ℕ) → edge < length (adding side others)
        → is_allowed (adding side others) edge ≡ is_allowed allowed edge
    each edge within =
        is_allowed-adding side others edge (omega (arith, length-adding side others))
        ∙ ap (λ here. here || is_named others edge)
        (is_allowed-keeping (λ at. not (eqb (head_colour graph at) colour) || is_named part at) allowed edge)
        ∙ ap (λ named. (is_allowed allowed edge && (not (eqb (head_colour graph edge) colour) || is_named part edge)) ||
        named)
        (named-into graph (leaving allowed part) colour edge (omega (arith, length-adding side others, side_long, long))
        ∙ ap (λ here. here && eqb (head_colour graph edge) colour)
        (is_allowed-keeping (λ at. not (is_named part at)) allowed edge))
        ∙ regroup (is_allowed allowed edge) (is_named part edge) (eqb (head_colour graph edge) colour)

-- The second side is undone by the part.
pub leaving-undone : (graph : Graph) (allowed : List Bool) (colour : ℕ) (part : List ℕ)
    → IsSplit graph allowed colour part → adding (leaving allowed part) part ≡ allowed
leaving-undone graph allowed colour part is =
    ext_get_or false (adding side part) allowed (length-adding side part ∙ side_long) each
  where
    side : List Bool
    side = leaving allowed part

    side_long : length side ≡ length allowed
    side_long = length-leaving allowed part

    regroup : (a n : Bool) → (n ≡ true → a ≡ true) → ((a && not n) || n) ≡ a
    regroup true true in_set = refl
    regroup true false in_set = refl
    regroup false true in_set = absurd (false≢true (in_set refl))
    regroup false false in_set = refl

    each : (edge : ℕ) → edge < length (adding side part) → is_allowed (adding side part) edge ≡ is_allowed allowed edge
    each edge within =
        is_allowed-adding side part edge (omega (arith, length-adding side part))
        ∙ ap (λ here. here || is_named part edge) (is_allowed-keeping (λ at. not (is_named part at)) allowed edge)
        ∙ regroup (is_allowed allowed edge) (is_named part edge) (named-in_set graph allowed colour part is edge)

-- The edges of a set into a colour, looked at one after another.
abbrev pub into_below : Graph → List Bool → ℕ → ℕ → List ℕ
into_below graph allowed colour place = filter (goes_to graph allowed colour) (range_with_len 0 place)

no_element : (xs : List ℕ) → length xs ≡ 0 → xs ≡ []
no_element [] none = refl
no_element (x ∷ xs) none = absurd (omega arith)

pub into_below-first : (graph : Graph) (allowed : List Bool) (colour first past : ℕ) → AreInto graph colour first past
    → into_below graph allowed colour first ≡ []
into_below-first graph allowed colour first past into =
    no_element (into_below graph allowed colour first) (count_below-first graph allowed colour first past into)

into_below-more : (graph : Graph) (allowed : List Bool) (colour place : ℕ)
    → into_below graph allowed colour (place + 1)
    ≡ into_below graph allowed colour place ++ cond (goes_to graph allowed colour place) (place ∷ []) []
into_below-more graph allowed colour place =
    ap (filter (goes_to graph allowed colour)) (range-more place)
    ∙ filter-append (goes_to graph allowed colour) (range_with_len 0 place) (place ∷ [])

into_below-with : (graph : Graph) (allowed : List Bool) (colour place : ℕ) → goes_to graph allowed colour place ≡ true
    → into_below graph allowed colour (place + 1) ≡ into_below graph allowed colour place ++ place ∷ []
into_below-with graph allowed colour place goes = into_below-more graph allowed colour place
    ∙ ap (λ b. into_below graph allowed colour place ++ cond b (place ∷ []) []) goes

into_below-without : (graph : Graph) (allowed : List Bool) (colour place : ℕ)
    → goes_to graph allowed colour place ≡ false
    → into_below graph allowed colour (place + 1) ≡ into_below graph allowed colour place
into_below-without graph allowed colour place stays =
    into_below-more graph allowed colour place
    ∙ ap (λ b. into_below graph allowed colour place ++ cond b (place ∷ []) []) stays
    ∙ append-nil (into_below graph allowed colour place)

into_below-none : (graph : Graph) (allowed : List Bool) (colour place more : ℕ)
    → ((edge : ℕ) → place ≤ edge → edge < place + more → goes_to graph allowed colour edge ≡ false)
    → into_below graph allowed colour (place + more) ≡ into_below graph allowed colour place
into_below-none graph allowed colour place zero none = ap (λ n. into_below graph allowed colour n) (omega arith)
into_below-none graph allowed colour place (suc more) none =
    ap (λ n. into_below graph allowed colour n) (next place more)
    ∙ into_below-without graph allowed colour (place + more) (none (place + more) (omega arith) (omega arith))
    ∙ into_below-none graph allowed colour place more (λ edge from below. none edge from (omega arith))
  where
    next : (n m : ℕ) → n + suc m ≡ (n + m) + 1
    next n m = omega arith

into_below-past : (graph : Graph) (allowed : List Bool) (colour first past : ℕ) → AreInto graph colour first past
    → into_below graph allowed colour past ≡ edges_into graph allowed colour
into_below-past graph allowed colour first past into =
    sym (ap (λ n. into_below graph allowed colour n) (whole (length graph.edges) past into.within)
    ∙ into_below-none graph allowed colour past (length graph.edges - past) none)
  where
    whole : (n m : ℕ) → m ≤ n → n ≡ m + (n - m)
    whole n m within = omega arith

    none : (edge : ℕ) → past ≤ edge → edge < past + (length graph.edges - past)
        → goes_to graph allowed colour edge ≡ false
    none edge from below =
        let at : edge < length graph.edges = omega arith in
        and_right (is_allowed allowed edge) (eqb (head_colour graph edge) colour)
        (ne_eqb (head_colour graph edge) colour
        (λ same. let inside = ((into.members edge at).1 same).1 in absurd (omega (arith, inside))))

-- The edges into a colour that stand before one are taken out, and their numbers put behind others.
pub record IsRowTaken (graph : Graph) (allowed now : List Bool) (colour first place : ℕ)
    (old taken : List ℕ) : Type 0 where
  pub long : length now ≡ length allowed
  pub left : (edge : ℕ) → is_allowed now edge ≡ (is_allowed allowed edge && not (in_row first place edge))
  pub taken_is : taken ≡ old ++ into_below graph allowed colour place

pub taken-first : (graph : Graph) (allowed : List Bool) (colour first past : ℕ) (old : List ℕ)
    → AreInto graph colour first past
    → IsRowTaken graph allowed allowed colour first first old old
taken-first graph allowed colour first past old into = record {
  long = refl;
  left = λ edge. and_true (is_allowed allowed edge)
      ∙ ap (λ row. is_allowed allowed edge && not row) (sym (no_row edge));
  taken_is = sym (append-nil old) ∙ ap (λ more. old ++ more)
      (sym (into_below-first graph allowed colour first past into));
}
  where
    and_true : (b : Bool) → b ≡ (b && true)
    and_true true = refl
    and_true false = refl

    no_row : (edge : ℕ) → in_row first first edge ≡ false
    no_row edge = false_from_ne_true (in_row first first edge)
        (λ is. let parts = and_parts (leb first edge) (ltb edge first) is in
        absurd (apart edge (leb-true first edge parts.0) (ltb-true edge first parts.1)))
      where
        apart : (e : ℕ) → first ≤ e → e < first → ⊥
        apart e from below = omega arith

-- the next edge of the row is in the set as before
pub taken-next : (graph : Graph) (allowed now : List Bool) (colour first place : ℕ) (old taken : List ℕ)
    → IsRowTaken graph allowed now colour first place old taken
    → is_allowed now place ≡ is_allowed allowed place
taken-next graph allowed now colour first place old taken known =
    known.left place ∙ ap (λ below. is_allowed allowed place && not (leb first place && below))
    (le-ltb place place (omega arith)) ∙ stays (is_allowed allowed place) (leb first place)
  where
    stays : (a b : Bool) → (a && not (b && false)) ≡ a
    stays true true = refl
    stays true false = refl
    stays false b = refl

pub taken-with : (graph : Graph) (allowed now new : List Bool) (colour first past place : ℕ) (old taken more : List ℕ)
    → IsSetOf graph allowed → AreInto graph colour first past
    → first ≤ place → place < past → is_allowed now place ≡ true → new ≡ set now place false
    → more ≡ taken ++ place ∷ []
    → IsRowTaken graph allowed now colour first place old taken
    → IsRowTaken graph allowed new colour first (place + 1) old more
taken-with graph allowed now new colour first past place old taken more set_is into from below has new_is more_is
    known = record {
      long = ap (λ xs. length xs) new_is ∙ length-set now place false ∙ known.long;
      left = λ edge. ap (λ xs. is_allowed xs edge) new_is
          ∙ taken_from_row allowed now first place edge known.long from in_set known.left;
      taken_is = more_is ∙ ap (λ xs. xs ++ place ∷ []) known.taken_is
          ∙ append_assoc old (into_below graph allowed colour place) (place ∷ [])
          ∙ ap (λ xs. old ++ xs) (sym (into_below-with graph allowed colour place goes));
    }
  where
    in_set : place < length allowed
    in_set = omega (arith, set_is, into.within)

    goes : goes_to graph allowed colour place ≡ true
    goes = goes_to-row graph allowed colour first past place into from below
        ∙ sym (taken-next graph allowed now colour first place old taken known) ∙ has

pub taken-without : (graph : Graph) (allowed now : List Bool) (colour first past place : ℕ) (old taken : List ℕ)
    → IsSetOf graph allowed → AreInto graph colour first past
    → first ≤ place → place < past → is_allowed now place ≡ false
    → IsRowTaken graph allowed now colour first place old taken
    → IsRowTaken graph allowed now colour first (place + 1) old taken
taken-without graph allowed now colour first past place old taken set_is into from below lacks known = record {
  long = known.long;
  left = λ edge. known.left edge ∙ one_more edge (cases_eq edge place);
  taken_is = known.taken_is ∙ ap (λ xs. old ++ xs) (sym (into_below-without graph allowed colour place stays));
}
  where
    here : is_allowed allowed place ≡ false
    here = sym (taken-next graph allowed now colour first place old taken known) ∙ lacks

    stays : goes_to graph allowed colour place ≡ false
    stays = goes_to-row graph allowed colour first past place into from below ∙ here

    one_more : (edge : ℕ) → (edge ≡ place) ⊎ (edge ≡ place → ⊥)
        → (is_allowed allowed edge && not (in_row first place edge))
        ≡ (is_allowed allowed edge && not (in_row first (place + 1) edge))
    one_more edge (inl same) =
        ap (λ b. b && not (in_row first place edge)) (ap (λ e. is_allowed allowed e) same ∙ here)
        ∙ sym (ap (λ b. b && not (in_row first (place + 1) edge)) (ap (λ e. is_allowed allowed e) same ∙ here))
    one_more edge (inr apart) = ap (λ before. is_allowed allowed edge && not (leb first edge && before))
        (choose (cases_lt edge place))
      where
        choose : (edge < place) ⊎ (place ≤ edge) → ltb edge place ≡ ltb edge (place + 1)
        choose (inl less) = lt-ltb edge place less ∙ sym (lt-ltb edge (place + 1) (omega arith))
        choose (inr above) = le-ltb edge place above ∙ sym (le-ltb edge (place + 1) (omega arith))

pub taken-left : (graph : Graph) (allowed now : List Bool) (colour first past : ℕ) (old taken : List ℕ)
    → IsSetOf graph allowed → AreInto graph colour first past
    → IsRowTaken graph allowed now colour first past old taken
    → now ≡ keeping (λ edge. not (eqb (head_colour graph edge) colour)) allowed
taken-left graph allowed now colour first past old taken set_is into known =
    keeping-same (λ edge. not (eqb (head_colour graph edge) colour)) allowed now known.long
    (λ edge within. known.left edge ∙ ap (λ row. is_allowed allowed edge && not row)
    (in_row-is graph colour first past edge into (omega (arith, set_is))))

pub taken-all : (graph : Graph) (allowed now : List Bool) (colour first past : ℕ) (old taken : List ℕ)
    → AreInto graph colour first past
    → IsRowTaken graph allowed now colour first past old taken → taken ≡ old ++ edges_into graph allowed colour
taken-all graph allowed now colour first past old taken into known = known.taken_is
    ∙ ap (λ xs. old ++ xs) (into_below-past graph allowed colour first past into)

-- The first edges that a part names rise and are of a set into a colour: the next one is to be at least so much.
pub record AreRisingBefore (graph : Graph) (allowed : List Bool) (colour first : ℕ) (part : List ℕ)
    (count least : ℕ) : Type 0 where
  pub from : first ≤ least
  pub rising : (one other : ℕ) → one < other → other < count → get_or part one 0 < get_or part other 0
  pub members : (place : ℕ) → place < count → Contains (edges_into graph allowed colour) (get_or part place 0)
  pub below : (place : ℕ) → place < count → get_or part place 0 < least
  pub exact : (edge : ℕ) → first ≤ edge → edge < least → (place : ℕ) × (place < count) × (edge ≤ get_or part place 0)

pub rising-none : (graph : Graph) (allowed : List Bool) (colour first : ℕ) (part : List ℕ)
    → AreRisingBefore graph allowed colour first part 0 first
rising-none graph allowed colour first part = record {
  from = omega arith;
  rising = λ one other before within. absurd (omega arith);
  members = λ place within. absurd (omega arith);
  below = λ place within. absurd (omega arith);
  exact = λ edge from below. absurd (omega arith);
}

pub rising-more : (graph : Graph) (allowed : List Bool) (colour first past : ℕ) (part : List ℕ)
    (count least edge next : ℕ) → AreInto graph colour first past → next ≡ edge + 1
    → edge ≡ get_or part count 0 → (least ≤ edge) × (edge < past) × (is_allowed allowed edge ≡ true)
    → AreRisingBefore graph allowed colour first part count least
    → AreRisingBefore graph allowed colour first part (count + 1) next
rising-more graph allowed colour first past part count least edge next into next_is edge_is
    (above, before, in_set) known = record {
      from = omega (arith, known.from);
      rising = λ one other less within. rises one other less (cases_eq other count) (omega arith);
      members = λ place within. choose place (cases_eq place count) (omega arith);
      below = λ place within. under place (cases_eq place count) (omega arith);
      exact = λ other from less. (count, omega arith, omega arith);
    }
  where
    at : edge < length graph.edges
    at = omega (arith, into.within)

    rises : (one other : ℕ) → one < other → (other ≡ count) ⊎ (other ≡ count → ⊥) → other < count + 1
        → get_or part one 0 < get_or part other 0
    rises one other less (inl same) within =
        let low = known.below one (omega arith) in
        let here : get_or part other 0 ≡ edge = ap (λ k. get_or part k 0) same ∙ sym edge_is in
        omega (arith, low, here)
    rises one other less (inr apart) within = known.rising one other less (omega (arith, within, apart))

    choose : (place : ℕ) → (place ≡ count) ⊎ (place ≡ count → ⊥) → place < count + 1
        → Contains (edges_into graph allowed colour) (get_or part place 0)
    choose place (inl same) within =
        let there : head_colour graph edge ≡ colour = (into.members edge at).0 (omega (arith, known.from), before) in
        rw (ap (λ k. get_or part k 0) same ∙ sym edge_is)
        (contains-from_IsInto graph allowed colour edge (record { in_graph = at; in_set = in_set; there = there }))
    choose place (inr apart) within = known.members place (omega (arith, within, apart))

    under : (place : ℕ) → (place ≡ count) ⊎ (place ≡ count → ⊥) → place < count + 1 → get_or part place 0 < next
    under place (inl same) within =
        let here : get_or part place 0 ≡ edge = ap (λ k. get_or part k 0) same ∙ sym edge_is in
        omega (arith, here)
    under place (inr apart) within = let low = known.below place (omega (arith, within, apart)) in omega (arith, low)

pub rising-broken : (graph : Graph) (allowed : List Bool) (colour first past : ℕ) (part : List ℕ) (count least edge : ℕ)
    → AreInto graph colour first past
    → edge ≡ get_or part count 0 → count < length part
    → ((least ≤ edge) × (edge < past) × (is_allowed allowed edge ≡ true) → ⊥)
    → AreRisingBefore graph allowed colour first part count least → AreRisingInto graph allowed colour part → ⊥
rising-broken graph allowed colour first past part count least edge into edge_is within fails known is =
    fails (above (cases_lt edge least), row.1, here.in_set)
  where
    here : IsInto graph allowed colour edge
    here = IsInto-from_contains graph allowed colour edge (rw (← edge_is) at (is.members count 0 within))

    row : (first ≤ edge) × (edge < past)
    row = (into.members edge here.in_graph).1 here.there

    above : (edge < least) ⊎ (least ≤ edge) → least ≤ edge
    above (inr not_less) = not_less
    above (inl less) = absurd (broken (known.exact edge row.0 less))
      where
        broken : (place : ℕ) × (place < count) × (edge ≤ get_or part place 0) → ⊥
        broken (place, earlier, high) = let rises = is.rising place count 0 earlier within in
            omega (arith, rises, high, edge_is)

pub rising-all : (graph : Graph) (allowed : List Bool) (colour first : ℕ) (part : List ℕ) (count least : ℕ)
    → count ≡ length part
    → AreRisingBefore graph allowed colour first part count least → AreRisingInto graph allowed colour part
rising-all graph allowed colour first part count least all known = record {
  rising = λ one other d less within. pair one other d less within;
  members = λ place d within. rw (get_or_default part place d 0 within) (known.members place (omega arith));
}
  where
    pair : (one other d : ℕ) → one < other → other < length part → get_or part one d < get_or part other d
    pair one other d less within =
        let first_is = get_or_default part one d 0 (omega arith) in
        let other_is = get_or_default part other d 0 within in
        let rises = known.rising one other less (omega arith) in
        omega (arith, first_is, other_is, rises)
