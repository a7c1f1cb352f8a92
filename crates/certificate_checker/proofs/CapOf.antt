-- Of cap_of: the greatest weight of the edges into a colour, looked at one after another, and what the colours add up
-- to.
use Rattle.std.proofs.Common.{◌≡◌, ◌+◌, ◌<◌, ◌≤◌, ◌↔◌, ◌∙◌, ◌⊎◌, inl, inr, ℕ, ℤ, pos, ◌+ℤ◌, ◌≤ℤ◌, ◌<ℤ◌, Bool, true}
use Rattle.std.proofs.Common.{false, IsTrue, ◌&&◌, eqb, List, []}
use Rattle.std.proofs.Common.{◌∷◌, ◌++◌, length, cond, get_or, fold, map, ap, sym, refl, arith}
use Rattle.std.proofs.lemmas.Bool.{and_parts, cases_eq, eqb-true, false≢true}
use Rattle.std.proofs.lemmas.Int.{clamps, fold-int_max_bounds, ints}
use Rattle.std.proofs.lemmas.List.Elements.{All-filter, All-head, All-map, All-tail, filter_passes}
use Rattle.std.proofs.lemmas.List.FromFn.{get_or-range_with_len, length-range_with_len, map-range_with_len_more}
use Rattle.std.specs.Cmp.{int_ranks}
use Rattle.std.specs.Int.{int_max}
use Rattle.std.specs.Ordering.{MatchOrdering, int_cmp, is_lt, ord_max}
use Rattle.std.specs.declared.cmp.Ordering.{Ordering}
use Rattle.std.specs.declared.cmp.Ordering.TheVariants.{Less, Equal, Greater}
use Rattle.std.specs.List.{All, range_with_len}
use Rattle.colour_graph.specs.Cap.{greatest}
use Rattle.colour_graph.specs.Colourful.{total, weights_of}
use Rattle.colour_graph.specs.EdgeSet.{AreInto, edges_into, is_allowed}
use Rattle.colour_graph.specs.Graph.{Graph, IsScore, edge_at, head_colour}
use Rattle.tree_certificate.proofs.Caps.{IsIn-edges_into}
use Rattle.tree_certificate.proofs.Members.{All-at, IsIn-map}

-- the greatest weight of the edges of a set into a colour, or 0
abbrev pub best_into : Graph → List Bool → ℕ → ℤ
best_into graph allowed colour = greatest (weights_of graph (edges_into graph allowed colour))

-- no edge of a set into a colour before a place weighs more
pub record IsAbove (graph : Graph) (allowed : List Bool) (colour past : ℕ) (upper : ℤ) : Type 0 where
  pub zero : pos 0 ≤ℤ upper
  pub each : (edge : ℕ) → edge < past → edge < length graph.edges → IsTrue (is_allowed allowed edge)
      → head_colour graph edge ≡ colour
      → (edge_at graph edge).weight ≤ℤ upper

-- the greatest weight of the edges of a set into a colour before a place, or 0
abbrev pub IsGreatest : Graph → List Bool → ℕ → ℕ → ℤ → Type 0
IsGreatest graph allowed colour past most = (upper : ℤ) → (most ≤ℤ upper) ↔ IsAbove graph allowed colour past upper

-- one more edge, which is in the set
pub greatest-more : (graph : Graph) (allowed : List Bool) (colour first past edge : ℕ) (most more : ℤ)
    → AreInto graph colour first past
    → first ≤ edge → edge < past → is_allowed allowed edge ≡ true
    → IsGreatest graph allowed colour edge most
    → ((upper : ℤ) → (more ≤ℤ upper) ↔ ((most ≤ℤ upper) × ((edge_at graph edge).weight ≤ℤ upper)))
    → IsGreatest graph allowed colour (edge + 1) more
greatest-more graph allowed colour first past edge most more into from below in_set so_far both upper = (to, back)
  where
    within : edge < length graph.edges
    within = omega (arith, into.within)

    to : more ≤ℤ upper → IsAbove graph allowed colour (edge + 1) upper
    to low = record { zero = before.zero; each = each }
      where
        before : IsAbove graph allowed colour edge upper
        before = (so_far upper).0 (((both upper).0 low).0)

        each : (other : ℕ) → other < edge + 1 → other < length graph.edges → IsTrue (is_allowed allowed other)
            → head_colour graph other ≡ colour → (edge_at graph other).weight ≤ℤ upper
        each other at in_graph has same = choose (cases_eq other edge)
          where
            choose : (other ≡ edge) ⊎ (other ≡ edge → ⊥) → (edge_at graph other).weight ≤ℤ upper
            choose (inl is) = rw is (((both upper).0 low).1)
            choose (inr apart) = before.each other (omega (arith, at, apart)) in_graph has same

    back : IsAbove graph allowed colour (edge + 1) upper → more ≤ℤ upper
    back above = (both upper).1 (
      (so_far upper).1 (record { zero = above.zero; each = λ other at. above.each other (omega (arith, at)) }),
      above.each edge (omega arith) within in_set ((into.members edge within).0 (from, below)),
    )

-- one more edge, which is not in the set
pub greatest-same : (graph : Graph) (allowed : List Bool) (colour edge : ℕ) (most : ℤ) → is_allowed allowed edge ≡ false
    → IsGreatest graph allowed colour edge most → IsGreatest graph allowed colour (edge + 1) most
greatest-same graph allowed colour edge most out so_far upper = (to, back)
  where
    to : most ≤ℤ upper → IsAbove graph allowed colour (edge + 1) upper
    to low = record { zero = before.zero; each = each }
      where
        before : IsAbove graph allowed colour edge upper
        before = (so_far upper).0 low

        each : (other : ℕ) → other < edge + 1 → other < length graph.edges → IsTrue (is_allowed allowed other)
            → head_colour graph other ≡ colour → (edge_at graph other).weight ≤ℤ upper
        each other at in_graph has same = choose (cases_eq other edge)
          where
            choose : (other ≡ edge) ⊎ (other ≡ edge → ⊥) → (edge_at graph other).weight ≤ℤ upper
            choose (inl is) = absurd (false≢true (sym out ∙ (rw is at has)))
            choose (inr apart) = before.each other (omega (arith, at, apart)) in_graph has same

    back : IsAbove graph allowed colour (edge + 1) upper → most ≤ℤ upper
    back above = (so_far upper).1 (record {
      zero = above.zero;
      each = λ other at. above.each other (omega (arith, at));
    })

-- the greater of two numbers is one of them
pub record IsGreater (most weight more : ℤ) : Type 0 where
  pub both : (upper : ℤ) → (more ≤ℤ upper) ↔ ((most ≤ℤ upper) × (weight ≤ℤ upper))
  pub near : IsScore most → IsScore weight → IsScore more

pub IsGreater-max : (most weight more : ℤ) → more ≡ ord_max int_cmp most weight → IsGreater most weight more
IsGreater-max most weight more is = choose (int_cmp weight most) (int_ranks weight most) is
  where
    first : weight ≤ℤ most → more ≡ most → IsGreater most weight more
    first low same = record {
      both = λ upper. (λ below. (rw (← same) below, joined upper (rw (← same) below)), λ below. rw same below.0);
      near = λ one other. rw same one;
    }
      where
        joined : (upper : ℤ) → most ≤ℤ upper → weight ≤ℤ upper
        joined upper high = omega (arith, ints)

    second : most ≤ℤ weight → more ≡ weight → IsGreater most weight more
    second low same = record {
      both = λ upper. (λ below. (joined upper (rw (← same) below), rw (← same) below), λ below. rw same below.1);
      near = λ one other. rw same other;
    }
      where
        joined : (upper : ℤ) → weight ≤ℤ upper → most ≤ℤ upper
        joined upper high = omega (arith, ints)

    choose : (order : Ordering) → MatchOrdering order (weight <ℤ most) (weight ≡ most) (most <ℤ weight)
        → more ≡ cond (is_lt order) most weight → IsGreater most weight more
    choose Less less same = first (omega (arith, ints)) same
    choose Equal equal same = second (omega (arith, ints)) same
    choose Greater less same = second (omega (arith, ints)) same

-- a bound of 0 and of each number bounds the greatest
pub fold-low : (first upper : ℤ) (ns : List ℤ) → first ≤ℤ upper → All (λ n. n ≤ℤ upper) ns
    → fold int_max first ns ≤ℤ upper
fold-low first upper [] low each = low
fold-low first upper (n ∷ ns) low each =
    fold-low (int_max first n) upper ns (greater first n upper low (All-head (λ m. m ≤ℤ upper) n ns each))
    (All-tail (λ m. m ≤ℤ upper) n ns each)
  where
    greater : (a b c : ℤ) → a ≤ℤ c → b ≤ℤ c → int_max a b ≤ℤ c
    greater a b c one other = omega (arith, ints, clamps)

pub same_number : (a b : ℤ) → a ≤ℤ b → b ≤ℤ a → a ≡ b
same_number a b one other = omega (arith, ints)

pub self : (a : ℤ) → a ≤ℤ a
self a = omega (arith, ints)

pub greatest-last : (graph : Graph) (allowed : List Bool) (colour first past : ℕ) (most : ℤ)
    → AreInto graph colour first past
    → IsGreatest graph allowed colour past most → most ≡ best_into graph allowed colour
greatest-last graph allowed colour first past most into is = same_number most best low high
  where
    edges : List ℕ
    edges = edges_into graph allowed colour

    best : ℤ
    best = greatest (weights_of graph edges)

    bounds : (pos 0 ≤ℤ best) × All (λ weight. weight ≤ℤ best) (weights_of graph edges)
    bounds = fold-int_max_bounds (pos 0) (weights_of graph edges) best refl

    low : most ≤ℤ best
    low = (is best).1 (record { zero = bounds.0; each = each })
      where
        each : (edge : ℕ) → edge < past → edge < length graph.edges → IsTrue (is_allowed allowed edge)
            → head_colour graph edge ≡ colour
            → (edge_at graph edge).weight ≤ℤ best
        each edge below within has same =
            All-at (λ (weight : ℤ). weight ≤ℤ best) (edge_at graph edge).weight (weights_of graph edges) bounds.1
            (IsIn-map (λ edge. (edge_at graph edge).weight) edge edges
            (rw same at (IsIn-edges_into graph allowed edge within has)))

    high : best ≤ℤ most
    high = fold-low (pos 0) most (weights_of graph edges) ((is most).0 (self most)).zero
        (All-map (λ weight. weight ≤ℤ most) (λ edge. (edge_at graph edge).weight) edges each)
      where
        goes : ℕ → Bool
        goes edge = is_allowed allowed edge && eqb (head_colour graph edge) colour

        at_each : (edge place count : ℕ) → edge ≡ 0 + place → place < count → count ≡ length graph.edges
            → goes edge ≡ true
            → (edge_at graph edge).weight ≤ℤ most
        at_each edge place count at few all passes =
            let within : edge < length graph.edges = omega arith in
            let parts = and_parts (is_allowed allowed edge) (eqb (head_colour graph edge) colour) passes in
            let same : head_colour graph edge ≡ colour = eqb-true (head_colour graph edge) colour parts.1 in
            ((is most).0 (self most)).each edge (((into.members edge within).1 same).1) within parts.0 same

        in_range : All (λ edge. goes edge ≡ true → (edge_at graph edge).weight ≤ℤ most)
            (range_with_len 0 (length graph.edges))
        in_range k d within =
            let few : k < length graph.edges = omega (arith, length-range_with_len 0 (length graph.edges)) in
            at_each (get_or (range_with_len 0 (length graph.edges)) k d) k (length graph.edges)
            (get_or-range_with_len 0 (length graph.edges) k d few) few refl

        each : All (λ edge. (edge_at graph edge).weight ≤ℤ most) edges
        each k d within =
            All-filter goes (λ edge. goes edge ≡ true → (edge_at graph edge).weight ≤ℤ most)
            (range_with_len 0 (length graph.edges))
            in_range k d within
            (filter_passes goes (range_with_len 0 (length graph.edges)) k d within)

-- what the first colours add up to, and one more
last_added : (n : ℤ) → n +ℤ pos 0 ≡ pos 0 +ℤ n
last_added n = omega (arith, ints)

regrouped : (a b c : ℤ) → a +ℤ (b +ℤ c) ≡ (a +ℤ b) +ℤ c
regrouped a b c = omega (arith, ints)

pub total-push : (ns : List ℤ) (n : ℤ) → total (ns ++ n ∷ []) ≡ total ns +ℤ n
total-push [] n = last_added n
total-push (first ∷ ns) n = ap (λ rest. first +ℤ rest) (total-push ns n) ∙ regrouped first (total ns) n

pub cap-more : (graph : Graph) (allowed : List Bool) (before : ℕ) (cap most more : ℤ)
    → cap ≡ graph.root_score +ℤ total (map (best_into graph allowed) (range_with_len 1 before))
    → most ≡ best_into graph allowed (before + 1) → more ≡ cap +ℤ most
    → more ≡ graph.root_score +ℤ total (map (best_into graph allowed) (range_with_len 1 (before + 1)))
cap-more graph allowed before cap most more so_far is sum =
    let best : ℕ → ℤ = best_into graph allowed in
    sum ∙ ap (λ n. cap +ℤ n) is ∙ ap (λ n. n +ℤ best (before + 1)) so_far
    ∙ sym (regrouped graph.root_score (total (map best (range_with_len 1 before))) (best (before + 1)))
    ∙ ap (λ n. graph.root_score +ℤ n) (sym (total-push (map best (range_with_len 1 before)) (best (before + 1))))
    ∙ ap (λ ns. graph.root_score +ℤ total ns) (sym (map-range_with_len_more best 1 before (before + 1) (omega arith)))
