-- Of AreMarks: the vertices that edges reach and the colours that they take, marked one edge after another; and which
-- edges can be added by these marks.
use Rattle.std.proofs.Common.{◌≡◌, ◌≢◌, ◌+◌, ◌<◌, ◌↔◌, ◌∙◌, ◌⊎◌, inl, inr, ℕ, zero, suc, pos, ◌<ℤ◌, Bool, true, false}
use Rattle.std.proofs.Common.{IsTrue, List, [], ◌∷◌, length, get_or, map, set, take, ap, sym, arith}
use Rattle.std.proofs.lemmas.Bool.{cases_Bool, cases_eq, false≢true}
use Rattle.std.proofs.lemmas.List.{get_or-map, get_or-set_other, get_or-set_same, length-map}
use Rattle.std.proofs.lemmas.List.{length-set, map_more}
use Rattle.std.proofs.lemmas.List.Elements.{Contains-append_cases, Contains-append_left, Contains-append_right}
use Rattle.std.specs.List.{All, Contains}
use Rattle.colour_graph.specs.Colourful.{IsReached, at_head, at_root}
use Rattle.colour_graph.specs.Graph.{Graph, colour_of, edge_at, head_colour}
use Rattle.colour_graph.specs.declared.edge.Edge.{Edge}
use Rattle.entry_checker.specs.EntryPlaces.{CanBeAdded}
use Rattle.entry_checker.specs.inside.Marks.{AreMarks, IsTaken, is_marked}

-- one more place is marked
set_mark : (P Q : Type 0) (marks : List Bool) (mark place : ℕ) → mark < length marks
    → (is_marked marks place ≡ true) ↔ P
    → (Q → P ⊎ (place ≡ mark)) → (P → Q) → (place ≡ mark → Q) → (is_marked (set marks mark true) place ≡ true) ↔ Q
set_mark P Q marks mark place within is split old new = (to (cases_eq place mark), from (cases_eq place mark))
  where
    to : (place ≡ mark) ⊎ (place ≡ mark → ⊥) → is_marked (set marks mark true) place ≡ true → Q
    to (inl here) marked = new here
    to (inr apart) marked = old (is.0 (sym (get_or-set_other marks mark place true false apart) ∙ marked))

    from : (place ≡ mark) ⊎ (place ≡ mark → ⊥) → Q → is_marked (set marks mark true) place ≡ true
    from (inl here) holds = ap (λ p. is_marked (set marks mark true) p) here
        ∙ get_or-set_same marks mark true false within
    from (inr apart) holds = get_or-set_other marks mark place true false apart ∙ before (split holds)
      where
        before : P ⊎ (place ≡ mark) → is_marked marks place ≡ true
        before (inl was) = is.1 was
        before (inr here) = absurd (apart here)

-- what one more edge adds to the values of the first ones
value-more : (value : ℕ → ℕ) (edges : List ℕ) (count place : ℕ) → count < length edges
    → Contains (map value (take (count + 1) edges)) place
    → Contains (map value (take count edges)) place ⊎ (place ≡ value (get_or edges count 0))
value-more value edges count place within has =
    choose (Contains-append_cases (map value (take count edges)) (value (get_or edges count 0) ∷ []) place
    (rw (map_more value edges count 0 within) at has))
  where
    last : Contains (value (get_or edges count 0) ∷ []) place → place ≡ value (get_or edges count 0)
    last (zero, at, is) = sym is
    last (suc k, at, is) = absurd (omega arith)

    choose : Contains (map value (take count edges)) place ⊎ Contains (value (get_or edges count 0) ∷ []) place
        → Contains (map value (take count edges)) place ⊎ (place ≡ value (get_or edges count 0))
    choose (inl before) = inl before
    choose (inr here) = inr (last here)

value-before : (value : ℕ → ℕ) (edges : List ℕ) (count place : ℕ) → count < length edges
    → Contains (map value (take count edges)) place
    → Contains (map value (take (count + 1) edges)) place
value-before value edges count place within has =
    rw (map_more value edges count 0 within)
    (Contains-append_left (map value (take count edges)) (value (get_or edges count 0) ∷ [])
    place has)

value-here : (value : ℕ → ℕ) (edges : List ℕ) (count place : ℕ) → count < length edges
    → place ≡ value (get_or edges count 0)
    → Contains (map value (take (count + 1) edges)) place
value-here value edges count place within is =
    rw (map_more value edges count 0 within)
    (Contains-append_right (map value (take count edges)) (value (get_or edges count 0) ∷ []) place
    (0, omega arith, sym is))

pub AreMarks-more : (graph : Graph) (edges : List ℕ) (count head colour : ℕ) (reached taken : List Bool)
    → count < length edges
    → head ≡ (edge_at graph (get_or edges count 0)).head → colour ≡ head_colour graph (get_or edges count 0)
    → head < length reached
    → colour < length taken
    → AreMarks graph (take count edges) reached taken → AreMarks graph (take (count + 1) edges) (set reached head true)
    (set taken colour true)
AreMarks-more graph edges count head colour reached taken within head_is colour_is head_in colour_in are = record
    { vertices = vertices; colours = colours }
  where
    head_value : ℕ → ℕ
    head_value edge = (edge_at graph edge).head

    vertices : (vertex : ℕ) → vertex < length (set reached head true)
        → (is_marked (set reached head true) vertex ≡ true)
        ↔ IsReached graph (take (count + 1) edges) vertex
    vertices vertex at =
        set_mark (IsReached graph (take count edges) vertex)
        (IsReached graph (take (count + 1) edges) vertex) reached head vertex head_in
        (are.vertices vertex (omega (arith, at, length-set reached head true))) split before
        (λ here. at_head (value-here head_value edges count vertex within (here ∙ head_is)))
      where
        split : IsReached graph (take (count + 1) edges) vertex
            → IsReached graph (take count edges) vertex ⊎ (vertex ≡ head)
        split (at_root is) = inl (at_root is)
        split (at_head has) = choose (value-more head_value edges count vertex within has)
          where
            choose : Contains (map head_value (take count edges)) vertex ⊎ (vertex ≡ head_value (get_or edges count 0))
                → IsReached graph (take count edges) vertex ⊎ (vertex ≡ head)
            choose (inl was) = inl (at_head was)
            choose (inr here) = inr (here ∙ sym head_is)

        before : IsReached graph (take count edges) vertex → IsReached graph (take (count + 1) edges) vertex
        before (at_root is) = at_root is
        before (at_head has) = at_head (value-before head_value edges count vertex within has)

    colours : (other : ℕ) → other < length (set taken colour true) → (is_marked (set taken colour true) other ≡ true)
        ↔ IsTaken graph (take (count + 1) edges) other
    colours other at =
        set_mark (IsTaken graph (take count edges) other) (IsTaken graph (take (count + 1) edges) other) taken colour
        other colour_in
        (are.colours other (omega (arith, at, length-set taken colour true))) split
        (value-before (head_colour graph) edges count other within)
        (λ here. value-here (head_colour graph) edges count other within (here ∙ colour_is))
      where
        split : IsTaken graph (take (count + 1) edges) other → IsTaken graph (take count edges) other ⊎ (other ≡ colour)
        split has = choose (value-more (head_colour graph) edges count other within has)
          where
            choose : Contains (map (head_colour graph) (take count edges)) other
                ⊎ (other ≡ head_colour graph (get_or edges count 0))
                → IsTaken graph (take count edges) other ⊎ (other ≡ colour)
            choose (inl was) = inl was
            choose (inr here) = inr (here ∙ sym colour_is)

-- no head has a colour that is not taken
free-taken : (graph : Graph) (edges : List ℕ) (colour : ℕ) → All (λ taken. head_colour graph taken ≢ colour) edges
    ↔ (IsTaken graph edges colour → ⊥)
free-taken graph edges colour = (to, from)
  where
    to : All (λ taken. head_colour graph taken ≢ colour) edges → IsTaken graph edges colour → ⊥
    to free (k, at, is) =
        let within : k < length edges = omega (arith, at, length-map edges (head_colour graph)) in
        free k 0 within (sym (get_or-map (head_colour graph) edges k 0 colour within) ∙ is)

    from : (IsTaken graph edges colour → ⊥) → All (λ taken. head_colour graph taken ≢ colour) edges
    from none k d within = λ same. none (
      k,
      omega (arith, within, length-map edges (head_colour graph)),
      get_or-map (head_colour graph)
          edges k d colour within ∙ same,
    )

-- by the marks, an edge can be added
pub can_by_marks : (graph : Graph) (edges : List ℕ) (reached taken : List Bool) (edge : ℕ)
    → AreMarks graph edges reached taken
    → edge < length graph.edges
    → (edge_at graph edge).tail < length reached → head_colour graph edge < length taken
    → ((is_marked reached (edge_at graph edge).tail ≡ true) × (is_marked taken (head_colour graph edge) ≡ false) ×
    (pos 0 <ℤ (edge_at graph edge).weight))
    ↔ CanBeAdded graph edges edge
can_by_marks graph edges reached taken edge are within tail_in colour_in = (to, from)
  where
    to : (is_marked reached (edge_at graph edge).tail ≡ true) × (is_marked taken (head_colour graph edge) ≡ false) ×
        (pos 0 <ℤ (edge_at graph edge).weight)
        → CanBeAdded graph edges edge
    to (marked, not_taken, gain) = record {
      in_graph = within;
      reached = (are.vertices (edge_at graph edge).tail tail_in).0 marked;
      free = (free-taken graph edges (head_colour graph edge)).1 (λ has. false≢true
          (sym not_taken ∙ (are.colours (head_colour graph edge) colour_in).1 has));
      gain = gain;
    }

    from : CanBeAdded graph edges edge
        → (is_marked reached (edge_at graph edge).tail ≡ true) × (is_marked taken (head_colour graph edge) ≡ false) ×
        (pos 0 <ℤ (edge_at graph edge).weight)
    from can = (
      (are.vertices (edge_at graph edge).tail tail_in).1 can.reached,
      not_taken
          (cases_Bool (is_marked taken (head_colour graph edge))),
      can.gain,
    )
      where
        not_taken : (is_marked taken (head_colour graph edge) ≡ true)
            ⊎ (is_marked taken (head_colour graph edge) ≡ false)
            → is_marked taken (head_colour graph edge) ≡ false
        not_taken (inr is) = is
        not_taken (inl is) = absurd ((free-taken graph edges (head_colour graph edge)).0 can.free
            ((are.colours (head_colour graph edge) colour_in).0 is))

-- the same, as an edge and its colour were read
pub adds_is : (graph : Graph) (edges : List ℕ) (reached taken : List Bool) (place colour : ℕ) (edge : Edge)
    (adds : Bool)
    → AreMarks graph edges reached taken
    → place < length graph.edges → edge ≡ edge_at graph place → colour ≡ colour_of graph edge.head
    → edge.tail < length reached
    → colour < length taken
    → (IsTrue adds ↔ ((is_marked reached edge.tail ≡ true) × (is_marked taken colour ≡ false) × (pos 0 <ℤ edge.weight)))
    → IsTrue adds ↔ CanBeAdded graph edges place
adds_is graph edges reached taken place colour edge adds are within read named tail_in colour_in is =
    (λ yes. can.0 (rw (read, colour_is) at (is.0 yes)), λ held. is.1 (rw (read, colour_is) (can.1 held)))
  where
    colour_is : colour ≡ head_colour graph place
    colour_is = named ∙ ap (λ (e : Edge). colour_of graph e.head) read

    can : ((is_marked reached (edge_at graph place).tail ≡ true) × (is_marked taken (head_colour graph place) ≡ false) ×
        (pos 0 <ℤ (edge_at graph place).weight))
        ↔ CanBeAdded graph edges place
    can = can_by_marks graph edges reached taken place are within (rw (ap (λ (e : Edge). e.tail) read) at tail_in)
        (rw colour_is at colour_in)

-- one more edge that cannot be added
pub none-more : (graph : Graph) (edges : List ℕ) (place : ℕ)
    → ((earlier : ℕ) → earlier < place → CanBeAdded graph edges earlier → ⊥)
    → (CanBeAdded graph edges place → ⊥)
    → (earlier : ℕ) → earlier < place + 1 → CanBeAdded graph edges earlier → ⊥
none-more graph edges place before here earlier within can = choose (cases_eq earlier place)
  where
    choose : (earlier ≡ place) ⊎ (earlier ≡ place → ⊥) → ⊥
    choose (inl same) = here (rw same at can)
    choose (inr apart) = before earlier (omega (arith, within, apart)) can
