-- Of all definitions: worked examples, computed: a graph with a trap, where the heaviest edge from the root is not in
-- the best tree, and the root alone.
use Rattle.std.proofs.Common.{◌≡◌, ◌≢◌, ◌+◌, ◌<◌, ◌≤◌, ◌↔◌, ◌⊎◌, inl, inr, ℕ, zero, suc, ℤ, pos, negsuc, ◌+ℤ◌, ◌≤ℤ◌}
use Rattle.std.proofs.Common.{true, false, List, [], ◌∷◌, refl, arith, sym, ◌∙◌, subst}
use Rattle.std.proofs.lemmas.Int.{ints}
use Rattle.std.specs.List.{All, AllPairs, Contains}
use Rattle.colour_graph.specs.declared.edge.Edge.{Edge}
use Rattle.colour_graph.specs.Graph.{Graph, HasColours, IsEdge, IsScore, colour_count, colour_of, edge_at, head_colour}
use Rattle.colour_graph.specs.Building.{root_alone, with_edge, with_vertex}
use Rattle.colour_graph.specs.Colourful.{IsColourful, IsReached, at_head, at_root, score_of}
use Rattle.colour_graph.specs.EdgeSet.{AreInto, all_edges, colours_of, edges_into, leaving, only}
use Rattle.colour_graph.specs.Bounded.{IsBest, IsBounded}
use Rattle.colour_graph.specs.Maximal.{IsMaximal}
use Rattle.colour_graph.specs.Cap.{cap_of}

abbrev joining : ℕ → ℕ → ℤ → Edge
joining tail head weight = record { tail = tail; head = head; weight = weight }

-- vertices 1 and 2 of colour 1, vertex 3 of colour 2
abbrev trap : Graph
trap = record {
  root_score = pos 0;
  colours = 0 ∷ 1 ∷ 1 ∷ 2 ∷ [];
  edges =
      joining 0 1 (pos 5) ∷ joining 0 2 (pos 4) ∷ joining 0 3 (pos 1) ∷ joining 1 3 (negsuc 0) ∷ joining 2 3 (pos 3)
      ∷ [];
}

abbrev alone : Graph
alone = root_alone (pos 4)

-- the graphs as they are built
trap-built : with_edge (with_edge
    (with_edge (with_edge (with_edge (with_vertex (with_vertex (with_vertex (root_alone (pos 0)) 1) 1) 2)
    (joining 0 1 (pos 5))) (joining 0 2 (pos 4))) (joining 0 3 (pos 1))) (joining 1 3 (negsuc 0)))
    (joining 2 3 (pos 3)) ≡ trap
trap-built = refl

colour_count-trap : colour_count trap ≡ 2
colour_count-trap = refl

colour_count-alone : colour_count alone ≡ 0
colour_count-alone = refl

colours_of-trap : colours_of trap ≡ 1 ∷ 2 ∷ []
colours_of-trap = refl

colours_of-alone : colours_of alone ≡ []
colours_of-alone = refl

edge_at-trap : edge_at trap 4 ≡ joining 2 3 (pos 3)
edge_at-trap = refl

head_colour-trap : head_colour trap 1 ≡ 1
head_colour-trap = refl

near : (score : ℤ) → negsuc 99999 ≤ℤ score → score ≤ℤ pos 100000 → IsScore score
near score not_below not_above = record { not_below = not_below; not_above = not_above }

-- the vertices of both graphs
abbrev colours : List ℕ
colours = 0 ∷ 1 ∷ 1 ∷ 2 ∷ []

others-trap : (vertex : ℕ) → 0 < vertex → vertex < 4 → 0 < colour_of trap vertex
others-trap zero some within = absurd (omega arith)
others-trap (suc zero) some within = omega arith
others-trap (suc (suc zero)) some within = omega arith
others-trap (suc (suc (suc zero))) some within = omega arith
others-trap (suc (suc (suc (suc vertex)))) some within = absurd (omega arith)

in_order-trap : AllPairs (λ first later. first ≤ later) colours
in_order-trap zero later d before within = omega arith
in_order-trap (suc zero) zero d before within = absurd (omega arith)
in_order-trap (suc zero) (suc zero) d before within = absurd (omega arith)
in_order-trap (suc zero) (suc (suc zero)) d before within = omega arith
in_order-trap (suc zero) (suc (suc (suc zero))) d before within = omega arith
in_order-trap (suc zero) (suc (suc (suc (suc later)))) d before within = absurd (omega arith)
in_order-trap (suc (suc first)) zero d before within = absurd (omega arith)
in_order-trap (suc (suc first)) (suc zero) d before within = absurd (omega arith)
in_order-trap (suc (suc first)) (suc (suc zero)) d before within = absurd (omega arith)
in_order-trap (suc (suc zero)) (suc (suc (suc zero))) d before within = omega arith
in_order-trap (suc (suc (suc first))) (suc (suc (suc zero))) d before within = absurd (omega arith)
in_order-trap (suc (suc first)) (suc (suc (suc (suc later)))) d before within = absurd (omega arith)

no_gap-trap : (vertex : ℕ) → vertex + 1 < 4 → colour_of trap (vertex + 1) ≤ colour_of trap vertex + 1
no_gap-trap zero within = omega arith
no_gap-trap (suc zero) within = omega arith
no_gap-trap (suc (suc zero)) within = omega arith
no_gap-trap (suc (suc (suc vertex))) within = absurd (omega arith)

HasColours-trap : HasColours colours
HasColours-trap = record {
  some = omega arith;
  few = omega arith;
  root = refl;
  others = others-trap;
  in_order = in_order-trap;
  no_gap = no_gap-trap;
}

IsEdge-trap : (tail head : ℕ) (weight : ℤ) → tail < 4 → head < 4 → colour_of trap tail < colour_of trap head
    → negsuc 99999 ≤ℤ weight → weight ≤ℤ pos 100000
    → IsEdge trap (joining tail head weight)
IsEdge-trap tail head weight is_tail is_head rising not_below not_above =
    record { tail = is_tail; head = is_head; rising = rising; weight = near weight not_below not_above }

edges-trap : All (IsEdge trap) trap.edges
edges-trap zero d within =
    IsEdge-trap 0 1 (pos 5) (omega arith) (omega arith) (omega arith) (omega (arith, ints)) (omega (arith, ints))
edges-trap (suc zero) d within =
    IsEdge-trap 0 2 (pos 4) (omega arith) (omega arith) (omega arith) (omega (arith, ints)) (omega (arith, ints))
edges-trap (suc (suc zero)) d within =
    IsEdge-trap 0 3 (pos 1) (omega arith) (omega arith) (omega arith) (omega (arith, ints)) (omega (arith, ints))
edges-trap (suc (suc (suc zero))) d within =
    IsEdge-trap 1 3 (negsuc 0) (omega arith) (omega arith) (omega arith) (omega (arith, ints)) (omega (arith, ints))
edges-trap (suc (suc (suc (suc zero)))) d within =
    IsEdge-trap 2 3 (pos 3) (omega arith) (omega arith) (omega arith) (omega (arith, ints)) (omega (arith, ints))
edges-trap (suc (suc (suc (suc (suc edge))))) d within = absurd (omega arith)

-- lists of edges of the trap graph, and their scores
score_of-best : score_of trap (1 ∷ 4 ∷ []) ≡ pos 7
score_of-best = refl

score_of-any_order : score_of trap (4 ∷ 1 ∷ []) ≡ pos 7
score_of-any_order = refl

score_of-none : score_of alone [] ≡ pos 4
score_of-none = refl

cap_of-trap : cap_of trap (all_edges trap) ≡ pos 8
cap_of-trap = refl

cap_of-alone : cap_of alone (all_edges alone) ≡ pos 4
cap_of-alone = refl

-- a losing edge: the root alone scores more
abbrev losing : Graph
losing = with_edge (with_vertex alone 1) (joining 0 1 (negsuc 0))

score_of-losing : score_of losing (0 ∷ []) ≡ pos 3
score_of-losing = refl

-- a colour without an edge of positive weight adds nothing to a cap
cap_of-losing : cap_of losing (true ∷ []) ≡ pos 4
cap_of-losing = refl

edges_into-trap : edges_into trap (all_edges trap) 2 ≡ 2 ∷ 3 ∷ 4 ∷ []
edges_into-trap = refl

-- sets of its edges: those into colour 1 but for one of them, then without the edge from b to c
only-trap : only trap (all_edges trap) 1 (1 ∷ []) ≡ false ∷ true ∷ true ∷ true ∷ true ∷ []
only-trap = refl

leaving-trap : leaving (only trap (all_edges trap) 1 (1 ∷ [])) (4 ∷ []) ≡ false ∷ true ∷ true ∷ true ∷ false ∷ []
leaving-trap = refl

edges_into-fewer : edges_into trap (leaving (only trap (all_edges trap) 1 (1 ∷ [])) (4 ∷ [])) 2 ≡ 2 ∷ 3 ∷ []
edges_into-fewer = refl

cap_of-fewer : cap_of trap (leaving (only trap (all_edges trap) 1 (1 ∷ [])) (4 ∷ [])) ≡ pos 5
cap_of-fewer = refl

-- no edge goes to colour 2 of this graph: both places are behind the edge into colour 1
abbrev gapped : Graph
gapped =
    with_edge (with_edge (with_vertex (with_vertex (with_vertex (root_alone (pos 0)) 1) 2) 3) (joining 0 1 (pos 1)))
    (joining 0 3 (pos 1))

AreInto-gapped : AreInto gapped 2 1 1
AreInto-gapped = record { in_order = omega arith; within = omega arith; members = members; smaller = smaller }
  where
    members : (edge : ℕ) → edge < 2 → ((1 ≤ edge) × (edge < 1)) ↔ (head_colour gapped edge ≡ 2)
    members zero within = (λ between. absurd (omega (arith, between.0)), λ same. absurd (omega (arith, same)))
    members (suc zero) within = (λ between. absurd (omega (arith, between.1)), λ same. absurd (omega (arith, same)))
    members (suc (suc edge)) within = absurd (omega (arith, within))

    smaller : (edge : ℕ) → edge < 2 → (edge < 1) ↔ (head_colour gapped edge < 2)
    smaller zero within = (λ before. omega arith, λ less. omega arith)
    smaller (suc zero) within = (λ before. absurd (omega (arith, before)), λ less. absurd (omega (arith, less)))
    smaller (suc (suc edge)) within = absurd (omega (arith, within))

-- an edge is before or after 2 as its head's colour is 1 or 2
colour_of-trap_edge : (edge : ℕ) → edge < 5
    → ((edge < 2) × (head_colour trap edge ≡ 1)) ⊎ ((1 < edge) × (head_colour trap edge ≡ 2))
colour_of-trap_edge zero within = inl (omega arith, refl)
colour_of-trap_edge (suc zero) within = inl (omega arith, refl)
colour_of-trap_edge (suc (suc zero)) within = inr (omega arith, refl)
colour_of-trap_edge (suc (suc (suc zero))) within = inr (omega arith, refl)
colour_of-trap_edge (suc (suc (suc (suc zero)))) within = inr (omega arith, refl)
colour_of-trap_edge (suc (suc (suc (suc (suc edge))))) within = absurd (omega arith)

-- the best list is colourful
in_range-best : All (λ edge. edge < 5) (1 ∷ 4 ∷ [])
in_range-best zero d within = omega arith
in_range-best (suc zero) d within = omega arith
in_range-best (suc (suc edge)) d within = absurd (omega arith)

apart-best : AllPairs (λ first later. head_colour trap first ≢ head_colour trap later) (1 ∷ 4 ∷ [])
apart-best zero zero d before within = absurd (omega arith)
apart-best zero (suc zero) d before within = λ same. absurd (omega (arith, same))
apart-best zero (suc (suc later)) d before within = absurd (omega arith)
apart-best (suc first) later d before within = absurd (omega arith)

tails-best : All (λ edge. IsReached trap (1 ∷ 4 ∷ []) (edge_at trap edge).tail) (1 ∷ 4 ∷ [])
tails-best zero d within = at_root refl
tails-best (suc zero) d within = at_head (0, omega arith, refl)
tails-best (suc (suc edge)) d within = absurd (omega arith)

IsColourful-best : IsColourful trap (1 ∷ 4 ∷ [])
IsColourful-best = record { in_range = in_range-best; one_of_a_colour = apart-best; tails = tails-best }

-- two heads of one colour are not colourful, and neither is a child without its tail
two_heads_of_one_colour : (rest : List ℕ) → IsColourful trap (0 ∷ 1 ∷ rest) → ⊥
two_heads_of_one_colour rest colourful = colourful.one_of_a_colour 0 1 0 (omega arith) (omega arith) refl

not_a_head : Contains {X = ℕ} (3 ∷ []) 2 → ⊥
not_a_head (zero, within, is) = absurd (omega (arith, is))
not_a_head (suc place, within, is) = absurd (omega arith)

not_reached : IsReached trap (4 ∷ []) 2 → ⊥
not_reached (at_root is) = absurd (omega (arith, is))
not_reached (at_head is) = not_a_head is

child_without_its_tail : IsColourful trap (4 ∷ []) → ⊥
child_without_its_tail colourful = not_reached (colourful.tails 0 0 (omega arith))

-- neither is one edge twice, or one that the graph does not have
one_edge_twice : IsColourful trap (1 ∷ 1 ∷ []) → ⊥
one_edge_twice colourful = colourful.one_of_a_colour 0 1 0 (omega arith) (omega arith) refl

no_edge_of_the_graph : IsColourful trap (5 ∷ []) → ⊥
no_edge_of_the_graph colourful = absurd (omega (arith, colourful.in_range 0 0 (omega arith)))

-- no colourful list scores more than 7: after r to a no edge from b is there
trapped : Contains {X = ℕ} (1 ∷ 3 ∷ []) 2 → ⊥
trapped (zero, within, is) = absurd (omega (arith, is))
trapped (suc zero, within, is) = absurd (omega (arith, is))
trapped (suc (suc place), within, is) = absurd (omega arith)

trapped_back : Contains {X = ℕ} (3 ∷ 1 ∷ []) 2 → ⊥
trapped_back (zero, within, is) = absurd (omega (arith, is))
trapped_back (suc zero, within, is) = absurd (omega (arith, is))
trapped_back (suc (suc place), within, is) = absurd (omega arith)

not_from_b : IsReached trap (0 ∷ 4 ∷ []) 2 → ⊥
not_from_b (at_root is) = absurd (omega (arith, is))
not_from_b (at_head is) = trapped is

not_from_b_back : IsReached trap (4 ∷ 0 ∷ []) 2 → ⊥
not_from_b_back (at_root is) = absurd (omega (arith, is))
not_from_b_back (at_head is) = trapped_back is

pair : (one other : ℕ) → one < 2 → 1 < other → other < 5 → (one ≡ 0 → other ≡ 4 → ⊥)
    → ((edge_at trap one).weight +ℤ (edge_at trap other).weight) ≤ℤ pos 7
pair zero (suc (suc zero)) is_one after within no_trap = omega (arith, ints)
pair zero (suc (suc (suc zero))) is_one after within no_trap = omega (arith, ints)
pair zero (suc (suc (suc (suc zero)))) is_one after within no_trap = absurd (no_trap refl refl)
pair (suc zero) (suc (suc zero)) is_one after within no_trap = omega (arith, ints)
pair (suc zero) (suc (suc (suc zero))) is_one after within no_trap = omega (arith, ints)
pair (suc zero) (suc (suc (suc (suc zero)))) is_one after within no_trap = omega (arith, ints)
pair one zero is_one after within no_trap = absurd (omega arith)
pair one (suc zero) is_one after within no_trap = absurd (omega arith)
pair one (suc (suc (suc (suc (suc other))))) is_one after within no_trap = absurd (omega arith)
pair (suc (suc one)) other is_one after within no_trap = absurd (omega arith)

single : (edge : ℕ) → edge < 5 → (edge_at trap edge).weight ≤ℤ pos 7
single zero within = omega (arith, ints)
single (suc zero) within = omega (arith, ints)
single (suc (suc zero)) within = omega (arith, ints)
single (suc (suc (suc zero))) within = omega (arith, ints)
single (suc (suc (suc (suc zero)))) within = omega (arith, ints)
single (suc (suc (suc (suc (suc edge))))) within = absurd (omega arith)

one_edge : (weight : ℤ) → weight ≤ℤ pos 7 → (pos 0 +ℤ (weight +ℤ pos 0)) ≤ℤ pos 7
one_edge weight light = omega (arith, ints)

two_edges : (weight other : ℤ) → (weight +ℤ other) ≤ℤ pos 7 → (pos 0 +ℤ (weight +ℤ (other +ℤ pos 0))) ≤ℤ pos 7
two_edges weight other light = omega (arith, ints)

two_edges_back : (weight other : ℤ) → (other +ℤ weight) ≤ℤ pos 7 → (pos 0 +ℤ (weight +ℤ (other +ℤ pos 0))) ≤ℤ pos 7
two_edges_back weight other light = omega (arith, ints)

abbrev OneOrTwo : ℕ → Type 0
OneOrTwo edge = ((edge < 2) × (head_colour trap edge ≡ 1)) ⊎ ((1 < edge) × (head_colour trap edge ≡ 2))

of_two : (one other : ℕ) → one < 5 → other < 5 → head_colour trap one ≢ head_colour trap other
    → IsReached trap (one ∷ other ∷ []) (edge_at trap one).tail
    → IsReached trap (one ∷ other ∷ []) (edge_at trap other).tail → OneOrTwo one → OneOrTwo other
    → score_of trap (one ∷ other ∷ []) ≤ℤ pos 7
of_two one other is_one is_other apart tail other_tail (inl first) (inl second) =
    absurd (apart (first.1 ∙ sym second.1))
of_two one other is_one is_other apart tail other_tail (inr first) (inr second) =
    absurd (apart (first.1 ∙ sym second.1))
of_two one other is_one is_other apart tail other_tail (inl first) (inr second) =
    two_edges (edge_at trap one).weight (edge_at trap other).weight (pair one other first.0 second.0 is_other no_trap)
  where
    no_trap : one ≡ 0 → other ≡ 4 → ⊥
    no_trap is_a is_b =
        not_from_b (subst (λ edge. IsReached trap (edge ∷ 4 ∷ []) 2) is_a
        (subst (λ edge. IsReached trap (one ∷ edge ∷ []) (edge_at trap edge).tail) is_b other_tail))
of_two one other is_one is_other apart tail other_tail (inr first) (inl second) =
    two_edges_back (edge_at trap one).weight (edge_at trap other).weight
    (pair other one second.0 first.0 is_one no_trap)
  where
    no_trap : other ≡ 0 → one ≡ 4 → ⊥
    no_trap is_a is_b =
        not_from_b_back (subst (λ edge. IsReached trap (4 ∷ edge ∷ []) 2) is_a
        (subst (λ edge. IsReached trap (edge ∷ other ∷ []) (edge_at trap edge).tail) is_b tail))

not_three : (one other third : ℕ) → head_colour trap one ≢ head_colour trap other
    → head_colour trap one ≢ head_colour trap third → head_colour trap other ≢ head_colour trap third
    → OneOrTwo one → OneOrTwo other → OneOrTwo third → ⊥
not_three one other third a b c (inl first) (inl second) last = absurd (a (first.1 ∙ sym second.1))
not_three one other third a b c (inr first) (inr second) last = absurd (a (first.1 ∙ sym second.1))
not_three one other third a b c (inl first) (inr second) (inl last) = absurd (b (first.1 ∙ sym last.1))
not_three one other third a b c (inl first) (inr second) (inr last) = absurd (c (second.1 ∙ sym last.1))
not_three one other third a b c (inr first) (inl second) (inl last) = absurd (c (second.1 ∙ sym last.1))
not_three one other third a b c (inr first) (inl second) (inr last) = absurd (b (first.1 ∙ sym last.1))

at_most_seven : IsBounded trap (all_edges trap) (pos 7)
at_most_seven [] colourful within = omega (arith, ints)
at_most_seven (one ∷ []) colourful within = one_edge _ (single one (colourful.in_range 0 0 (omega arith)))
at_most_seven (one ∷ other ∷ []) colourful within =
    let is_one : one < 5 = colourful.in_range 0 0 (omega arith) in
    let is_other : other < 5 = colourful.in_range 1 0 (omega arith) in
    of_two one other is_one is_other (colourful.one_of_a_colour 0 1 0 (omega arith) (omega arith))
    (colourful.tails 0 0 (omega arith)) (colourful.tails 1 0 (omega arith))
    (colour_of-trap_edge one is_one) (colour_of-trap_edge other is_other)
at_most_seven (one ∷ other ∷ third ∷ rest) colourful within =
    let is_one : one < 5 = colourful.in_range 0 0 (omega arith) in
    let is_other : other < 5 = colourful.in_range 1 0 (omega arith) in
    let is_third : third < 5 = colourful.in_range 2 0 (omega arith) in
    absurd (not_three one other third (colourful.one_of_a_colour 0 1 0 (omega arith) (omega arith))
    (colourful.one_of_a_colour 0 2 0 (omega arith) (omega arith))
    (colourful.one_of_a_colour 1 2 0 (omega arith) (omega arith)) (colour_of-trap_edge one is_one)
    (colour_of-trap_edge other is_other) (colour_of-trap_edge third is_third))

IsBest-trap : IsBest trap (1 ∷ 4 ∷ [])
IsBest-trap = record { colourful = IsColourful-best; greatest = at_most_seven }

both_colours_taken : (edge : ℕ) → All (λ taken. head_colour trap taken ≢ head_colour trap edge) (1 ∷ 4 ∷ [])
    → OneOrTwo edge → ⊥
both_colours_taken edge free (inl is) = free 0 0 (omega arith) (sym is.1)
both_colours_taken edge free (inr is) = free 1 0 (omega arith) (sym is.1)

IsMaximal-best : IsMaximal trap (1 ∷ 4 ∷ [])
IsMaximal-best edge within reached free = absurd (both_colours_taken edge free (colour_of-trap_edge edge within))

-- no edge at all is not maximal: r to a gains 5
not_maximal : IsMaximal trap [] → ⊥
not_maximal maximal =
    absurd (omega (arith, ints, maximal 0 (omega arith) (at_root refl) (λ place d within. absurd (omega arith))))

-- the root alone
IsColourful-alone : IsColourful alone []
IsColourful-alone = record {
  in_range = λ place d within. absurd (omega arith);
  one_of_a_colour = λ first later d before within. absurd (omega arith);
  tails = λ place d within. absurd (omega arith);
}

none_else : IsBounded alone (all_edges alone) (pos 4)
none_else [] colourful within = omega (arith, ints)
none_else (edge ∷ edges) colourful within = absurd (omega (arith, colourful.in_range 0 0 (omega arith)))

IsBest-alone : IsBest alone []
IsBest-alone = record { colourful = IsColourful-alone; greatest = none_else }

IsMaximal-alone : IsMaximal alone []
IsMaximal-alone edge within reached free = absurd (omega arith)
