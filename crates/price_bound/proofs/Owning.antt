-- Potentials for prices of 0 on a set with at most one edge into each colour. Each colour above one has an owner: the
-- vertex from which its edge is reached with gain, or none. What a vertex gains is what the edges into its colours
-- weigh.
use Rattle.std.proofs.Common.{◌≡◌, ◌≢◌, ◌⊎◌, inl, inr, ◌+◌, ◌-◌, ◌*◌, ◌<◌, ◌≤◌, ℕ, zero, suc, ℤ, pos, ◌+ℤ◌, ◌-ℤ◌, ◌≤ℤ◌}
use Rattle.std.proofs.Common.{◌<ℤ◌, Bool, true, false, cond, eqb, List, [], ◌∷◌, length, get_or, ap, refl, subst, sym}
use Rattle.std.proofs.Common.{◌∙◌, arith}
use Rattle.std.proofs.lemmas.Bool.{cases_eq, cases_lt, eq-eqb, ne_eqb}
use Rattle.std.proofs.lemmas.Int.{by_lt_z, ints}
use Rattle.std.proofs.lemmas.List.{get_or_past}
use Rattle.std.proofs.lemmas.List.FromFn.{length-range_with_len}
use Rattle.std.specs.List.{range_with_len}
use Rattle.colour_graph.specs.declared.edge.Edge.{Edge}
use Rattle.colour_graph.specs.Colourful.{total}
use Rattle.colour_graph.specs.EdgeSet.{edges_into}
use Rattle.colour_graph.specs.Graph.{Graph, IsEdge, IsGraph, colour_count, colour_of, edge_at}
use Rattle.colour_graph.proofs.Order.{colour-le_count}
use Rattle.tree_certificate.specs.BoundHolds.{IsDecided}
use Rattle.tree_certificate.specs.PriceHolds.{edges_between, gain_by, gain_of}
use Rattle.tree_certificate.proofs.Sums.{IsIn, sum_of}
use Rattle.tree_certificate.specs.Number.{number_in}
use Rattle.price_bound.specs.inside.Exact.{AreExactAbove, IsTooHigh, cert_with, gained_above}
use Rattle.price_bound.proofs.Adding.{gained_above-more, map-same}
use Rattle.price_bound.proofs.Edges.{IsInto, colours-few, edges_between-in, edges_into-in, in-edges_between}
use Rattle.price_bound.proofs.Edges.{in-edges_into, range-in, weight_at}
use Rattle.price_bound.proofs.Greatest.{greatest-high, greatest-low}
use Rattle.price_bound.proofs.LowPotentials.{gained_above-last, potential-above}

-- the edge of a set into a colour, if there is one
abbrev pub edge_into : Graph → List Bool → ℕ → ℕ
edge_into graph allowed colour = get_or (edges_into graph allowed colour) 0 0

-- what the edges into the colours above one weigh that a vertex owns
abbrev pub worth : Graph → List Bool → (ℕ → ℕ) → ℕ → ℕ → ℤ
worth graph allowed owner colour vertex =
    sum_of (λ c. cond (eqb (owner c) vertex) (weight_at graph (edge_into graph allowed c)) (pos 0))
    (range_with_len (colour + 1) (colour_count graph - colour))

-- an edge begins at a vertex, or at the head of an edge into another colour that the vertex owns
pub data IsHeld (graph : Graph) (allowed : List Bool) (owner : ℕ → ℕ) (low vertex tail : ℕ) : Type 0 where
  at_vertex : tail ≡ vertex → IsHeld graph allowed owner low vertex tail
  at_owned : (colour : ℕ) → low < colour → colour ≤ colour_count graph → owner colour ≡ vertex
      → (edge_at graph (edge_into graph allowed colour)).head ≡ tail → IsHeld graph allowed owner low vertex tail

-- Each colour above one that a vertex of no greater colour owns has an edge, which is reached from there.
pub record Owners (graph : Graph) (allowed : List Bool) (prices : List ℤ) (potentials : List ℤ) (low : ℕ) : Type 0 where
  pub owner : ℕ → ℕ
  pub sums : (vertex : ℕ) → vertex < length graph.colours → colour_of graph vertex ≤ low
      → gained_above graph allowed (cert_with prices potentials) low vertex ≡ worth graph allowed owner low vertex
  pub edges : (colour vertex : ℕ) → low < colour → colour ≤ colour_count graph → vertex < length graph.colours
      → colour_of graph vertex ≤ low → owner colour ≡ vertex
      → IsInto graph allowed colour (edge_into graph allowed colour)
  pub tails : (colour vertex : ℕ) → low < colour → colour ≤ colour_count graph → vertex < length graph.colours
      → colour_of graph vertex ≤ low → owner colour ≡ vertex
      → IsHeld graph allowed owner low vertex (edge_at graph (edge_into graph allowed colour)).tail

-- before all colours
pub owners-last : (graph : Graph) (allowed : List Bool) (prices potentials : List ℤ)
    → Owners graph allowed prices potentials (colour_count graph)
owners-last graph allowed prices potentials = record {
  owner = λ c. 0;
  sums = λ vertex within own. gained_above-last graph allowed prices potentials vertex (colour_count graph) refl
      ∙ sym (nothing vertex);
  edges = λ colour vertex above counted within own is. absurd (omega (arith, above, counted));
  tails = λ colour vertex above counted within own is. absurd (omega (arith, above, counted));
}
  where
    none : (k : ℕ) → k - k ≡ 0
    none k = omega arith

    nothing : (vertex : ℕ) → worth graph allowed (λ c. 0) (colour_count graph) vertex ≡ pos 0
    nothing vertex = ap (λ m. sum_of (λ c. cond (eqb 0 vertex) (weight_at graph (edge_into graph allowed c)) (pos 0))
        (range_with_len (colour_count graph + 1) m)) (none (colour_count graph))

-- one colour more
worth-more : (graph : Graph) (allowed : List Bool) (owner : ℕ → ℕ) (low vertex : ℕ) → low + 1 ≤ colour_count graph
    → worth graph allowed owner low vertex
    ≡ cond (eqb (owner (low + 1)) vertex) (weight_at graph (edge_into graph allowed (low + 1)))
    (pos 0) +ℤ worth graph allowed owner (low + 1) vertex
worth-more graph allowed owner low vertex counted =
    ap (λ m. sum_of f (range_with_len (low + 1) m)) (count (colour_count graph) low counted)
  where
    f : ℕ → ℤ
    f c = cond (eqb (owner c) vertex) (weight_at graph (edge_into graph allowed c)) (pos 0)

    count : (k b : ℕ) → b + 1 ≤ k → k - b ≡ suc (k - (b + 1))
    count k b is = omega arith

-- Nobody gains by the next colour: nobody owns it.
owners-without : (graph : Graph) (allowed : List Bool) (prices potentials : List ℤ) (low : ℕ)
    → low + 1 ≤ colour_count graph
    → ((v : ℕ) → gain_of graph allowed (cert_with prices potentials) v (low + 1) ≡ pos 0)
    → Owners graph allowed prices potentials (low + 1) → Owners graph allowed prices potentials low
owners-without graph allowed prices potentials low counted none later =
    record { owner = owner; sums = sums; edges = edges; tails = tails }
  where
    owner : ℕ → ℕ
    owner c = cond (eqb c (low + 1)) (length graph.colours) (later.owner c)

    here : owner (low + 1) ≡ length graph.colours
    here = ap (λ b. cond b (length graph.colours) (later.owner (low + 1))) (eq-eqb (low + 1) (low + 1) refl)

    there : (c : ℕ) → c ≢ low + 1 → owner c ≡ later.owner c
    there c apart = ap (λ b. cond b (length graph.colours) (later.owner c)) (ne_eqb c (low + 1) apart)

    same : (vertex : ℕ) → worth graph allowed owner (low + 1) vertex ≡ worth graph allowed later.owner (low + 1) vertex
    same vertex = ap total (map-same (λ c. cond (eqb (owner c) vertex) (weight_at graph (edge_into graph allowed c))
        (pos 0)) (λ c. cond (eqb (later.owner c) vertex) (weight_at graph (edge_into graph allowed c)) (pos 0))
        (range_with_len (low + 1 + 1) (colour_count graph - (low + 1)))
        (λ c is_in. ap (λ o. cond (eqb o vertex) (weight_at graph (edge_into graph allowed c)) (pos 0))
        (there c (λ is. omega (arith, is, (range-in (low + 1 + 1) (colour_count graph - (low + 1)) c is_in).0)))))

    sums : (vertex : ℕ) → vertex < length graph.colours → colour_of graph vertex ≤ low
        → gained_above graph allowed (cert_with prices potentials) low vertex ≡ worth graph allowed owner low vertex
    sums vertex within own =
        gained_above-more graph allowed prices potentials vertex (low + 1) low refl counted
        ∙ ap (λ n. n +ℤ gained_above graph allowed (cert_with prices potentials) (low + 1) vertex) (none vertex)
        ∙ ap (λ n. pos 0 +ℤ n) (later.sums vertex within (omega (arith, own)) ∙ sym (same vertex))
        ∙ ap (λ b. cond b (weight_at graph (edge_into graph allowed (low + 1))) (pos 0) +ℤ worth graph allowed owner
        (low + 1) vertex)
        (sym (ne_eqb (owner (low + 1)) vertex (λ is. omega (arith, is, here, within))))
        ∙ sym (worth-more graph allowed owner low vertex counted)

    above : (colour vertex : ℕ) → low < colour → vertex < length graph.colours → owner colour ≡ vertex
        → (low + 1 < colour) × (later.owner colour ≡ vertex)
    above colour vertex high within is = choose (cases_eq colour (low + 1))
      where
        choose : (colour ≡ low + 1) ⊎ (colour ≡ low + 1 → ⊥) → (low + 1 < colour) × (later.owner colour ≡ vertex)
        choose (inl at) = let owned : owner (low + 1) ≡ vertex = ap owner (sym at) ∙ is in
            absurd (omega (arith, owned, here, within))
        choose (inr apart) = (omega (arith, high, apart), sym (there colour apart) ∙ is)

    edges : (colour vertex : ℕ) → low < colour → colour ≤ colour_count graph → vertex < length graph.colours
        → colour_of graph vertex ≤ low → owner colour ≡ vertex
        → IsInto graph allowed colour (edge_into graph allowed colour)
    edges colour vertex high few within own is =
        let found = above colour vertex high within is in
        later.edges colour vertex found.0 few within (omega (arith, own)) found.1

    kept : (vertex tail : ℕ) → IsHeld graph allowed later.owner (low + 1) vertex tail
        → IsHeld graph allowed owner low vertex tail
    kept vertex tail (at_vertex is) = at_vertex is
    kept vertex tail (at_owned colour high few owned head) =
        at_owned colour (omega (arith, high)) few (there colour (λ is. omega (arith, is, high)) ∙ owned) head

    tails : (colour vertex : ℕ) → low < colour → colour ≤ colour_count graph → vertex < length graph.colours
        → colour_of graph vertex ≤ low → owner colour ≡ vertex
        → IsHeld graph allowed owner low vertex (edge_at graph (edge_into graph allowed colour)).tail
    tails colour vertex high few within own is =
        let found = above colour vertex high within is in
        kept vertex (edge_at graph (edge_into graph allowed colour)).tail
        (later.tails colour vertex found.0 few within (omega (arith, own)) found.1)

-- sums of sums
sum_of-both : (f g h : ℕ → ℤ) (xs : List ℕ) → ((x : ℕ) → IsIn x xs → f x ≡ g x +ℤ h x)
    → sum_of f xs ≡ sum_of g xs +ℤ sum_of h xs
sum_of-both f g h [] each = refl
sum_of-both f g h (x ∷ xs) each =
    ap (λ n. n +ℤ sum_of f xs) (each x (inl refl))
    ∙ ap (λ n. (g x +ℤ h x) +ℤ n) (sum_of-both f g h xs (λ y within. each y (inr within)))
    ∙ regrouped (g x) (h x) (sum_of g xs) (sum_of h xs)
  where
    regrouped : (a b c d : ℤ) → (a +ℤ b) +ℤ (c +ℤ d) ≡ (a +ℤ c) +ℤ (b +ℤ d)
    regrouped a b c d = omega (arith, ints)

-- what a tail owns once its edge's head has passed it all
passed : (owner tail head : ℕ) (weight : ℤ) → tail ≢ head
    → cond (eqb (cond (eqb owner head) tail owner) tail) weight (pos 0)
    ≡ cond (eqb owner tail) weight (pos 0) +ℤ cond (eqb owner head) weight (pos 0)
passed owner tail head weight apart = choose (cases_eq owner head)
  where
    first : (n : ℤ) → n ≡ pos 0 +ℤ n
    first n = omega (arith, ints)

    last : (n : ℤ) → n ≡ n +ℤ pos 0
    last n = omega (arith, ints)

    choose : (owner ≡ head) ⊎ (owner ≡ head → ⊥)
        → cond (eqb (cond (eqb owner head) tail owner) tail) weight (pos 0)
        ≡ cond (eqb owner tail) weight (pos 0) +ℤ cond (eqb owner head) weight (pos 0)
    choose (inl is) = rw (eq-eqb owner head is, ne_eqb owner tail (λ at. apart (sym at ∙ is)), eq-eqb tail tail refl)
        (first weight)
    choose (inr apart_too) = rw (ne_eqb owner head apart_too) (last (cond (eqb owner tail) weight (pos 0)))

-- others own what they owned
others : (owner tail head vertex : ℕ) → vertex ≢ tail → vertex ≢ head
    → eqb (cond (eqb owner head) tail owner) vertex ≡ eqb owner vertex
others owner tail head vertex not_tail not_head = choose (cases_eq owner head)
  where
    choose : (owner ≡ head) ⊎ (owner ≡ head → ⊥) → eqb (cond (eqb owner head) tail owner) vertex ≡ eqb owner vertex
    choose (inl is) = rw (eq-eqb owner head is) (ne_eqb tail vertex (λ at. not_tail (sym at))
        ∙ sym (ne_eqb owner vertex (λ at. not_head (sym at ∙ is))))
    choose (inr apart_too) = rw (ne_eqb owner head apart_too) refl

-- The tail of the edge into the next colour gains by it, and nobody else does: it owns that colour and all that the
-- head owned.
owners-with : (graph : Graph) (allowed : List Bool) (prices potentials : List ℤ) (base low : ℕ) → IsGraph graph
    → low + 1 ≤ colour_count graph
    → AreExactAbove graph allowed (cert_with prices potentials) base → base ≤ low
    → IsInto graph allowed (low + 1) (edge_into graph allowed (low + 1))
    → gain_of graph allowed (cert_with prices potentials) (edge_at graph (edge_into graph allowed (low + 1))).tail
    (low + 1)
    ≡ weight_at graph (edge_into graph allowed (low + 1)) +ℤ number_in potentials
    (edge_at graph (edge_into graph allowed (low + 1))).head
    → ((v : ℕ) → v ≢ (edge_at graph (edge_into graph allowed (low + 1))).tail
    → gain_of graph allowed (cert_with prices potentials) v (low + 1) ≡ pos 0)
    → Owners graph allowed prices potentials (low + 1) → Owners graph allowed prices potentials low
owners-with graph allowed prices potentials base low is counted exact first into gain none later =
    record { owner = owner; sums = sums; edges = edges; tails = tails }
  where
    edge : ℕ
    edge = edge_into graph allowed (low + 1)

    tail : ℕ
    tail = (edge_at graph edge).tail

    head : ℕ
    head = (edge_at graph edge).head

    is_edge : IsEdge graph (edge_at graph edge)
    is_edge = is.edges edge (record { tail = 0; head = 0; weight = pos 0 }) into.within

    head_there : colour_of graph head ≡ low + 1
    head_there = into.there

    tail_low : colour_of graph tail ≤ low
    tail_low = omega (arith, is_edge.rising, head_there)

    apart_from_head : (vertex : ℕ) → colour_of graph vertex ≤ low → vertex ≢ head
    apart_from_head vertex own at = let same : colour_of graph vertex ≡ colour_of graph head =
        ap (λ v. colour_of graph v) at in omega (arith, same, own, head_there)

    given : ℕ → ℕ
    given c = cond (eqb (later.owner c) head) tail (later.owner c)

    owner : ℕ → ℕ
    owner c = cond (eqb c (low + 1)) tail (given c)

    here : owner (low + 1) ≡ tail
    here = ap (λ b. cond b tail (given (low + 1))) (eq-eqb (low + 1) (low + 1) refl)

    there : (c : ℕ) → c ≢ low + 1 → owner c ≡ given c
    there c apart = ap (λ b. cond b tail (given c)) (ne_eqb c (low + 1) apart)

    beyond : (c : ℕ) → IsIn c (range_with_len (low + 1 + 1) (colour_count graph - (low + 1))) → owner c ≡ given c
    beyond c is_in = there c (λ at. omega
        (arith, at, (range-in (low + 1 + 1) (colour_count graph - (low + 1)) c is_in).0))

    weight : ℕ → ℤ
    weight c = weight_at graph (edge_into graph allowed c)

    of_tail : worth graph allowed owner (low + 1) tail
        ≡ worth graph allowed later.owner (low + 1) tail +ℤ worth graph allowed later.owner (low + 1) head
    of_tail = sum_of-both (λ c. cond (eqb (owner c) tail) (weight c) (pos 0))
        (λ c. cond (eqb (later.owner c) tail) (weight c) (pos 0))
        (λ c. cond (eqb (later.owner c) head) (weight c) (pos 0))
        (range_with_len (low + 1 + 1) (colour_count graph - (low + 1)))
        (λ c is_in. ap (λ o. cond (eqb o tail) (weight c) (pos 0)) (beyond c is_in)
        ∙ passed (later.owner c) tail head (weight c) (apart_from_head tail tail_low))

    of_other : (vertex : ℕ) → vertex ≢ tail → vertex ≢ head
        → worth graph allowed owner (low + 1) vertex ≡ worth graph allowed later.owner (low + 1) vertex
    of_other vertex not_tail not_head = ap total
        (map-same (λ c. cond (eqb (owner c) vertex) (weight c) (pos 0))
        (λ c. cond (eqb (later.owner c) vertex) (weight c) (pos 0))
        (range_with_len (low + 1 + 1) (colour_count graph - (low + 1)))
        (λ c is_in. ap (λ o. cond (eqb o vertex) (weight c) (pos 0)) (beyond c is_in)
        ∙ ap (λ b. cond b (weight c) (pos 0)) (others (later.owner c) tail head vertex not_tail not_head)))

    head_gains : number_in potentials head ≡ worth graph allowed later.owner (low + 1) head
    head_gains =
        potential-above graph allowed prices potentials base (low + 1) head is is_edge.head exact (omega (arith, first))
        (omega (arith, head_there))
        ∙ later.sums head is_edge.head (omega (arith, head_there))

    regrouped : (a b c : ℤ) → (a +ℤ c) +ℤ b ≡ a +ℤ (b +ℤ c)
    regrouped a b c = omega (arith, ints)

    nothing : (n : ℤ) → pos 0 +ℤ n ≡ n
    nothing n = omega (arith, ints)

    sums : (vertex : ℕ) → vertex < length graph.colours → colour_of graph vertex ≤ low
        → gained_above graph allowed (cert_with prices potentials) low vertex ≡ worth graph allowed owner low vertex
    sums vertex within own = choose (cases_eq vertex tail)
      where
        split : gained_above graph allowed (cert_with prices potentials) low vertex
            ≡ gain_of graph allowed (cert_with prices potentials) vertex (low + 1) +ℤ worth graph allowed later.owner
            (low + 1) vertex
        split = gained_above-more graph allowed prices potentials vertex (low + 1) low refl counted
            ∙ ap (λ n. gain_of graph allowed (cert_with prices potentials) vertex (low + 1) +ℤ n)
            (later.sums vertex within (omega (arith, own)))

        choose : (vertex ≡ tail) ⊎ (vertex ≡ tail → ⊥)
            → gained_above graph allowed (cert_with prices potentials) low vertex ≡ worth graph allowed owner low vertex
        choose (inl at) =
            split ∙ ap (λ v. gain_of graph allowed (cert_with prices potentials) v
            (low + 1) +ℤ worth graph allowed later.owner (low + 1) v) at
            ∙ ap (λ n. n +ℤ worth graph allowed later.owner (low + 1) tail) (gain
            ∙ ap (λ n. weight (low + 1) +ℤ n) head_gains)
            ∙ regrouped (weight (low + 1)) (worth graph allowed later.owner (low + 1) tail)
            (worth graph allowed later.owner (low + 1) head)
            ∙ ap (λ n. weight (low + 1) +ℤ n) (sym of_tail)
            ∙ ap (λ b. cond b (weight (low + 1)) (pos 0) +ℤ worth graph allowed owner (low + 1) tail)
            (sym (eq-eqb (owner (low + 1)) tail here))
            ∙ sym (worth-more graph allowed owner low tail counted)
            ∙ ap (λ v. worth graph allowed owner low v) (sym at)
        choose (inr not_tail) =
            split ∙ ap (λ n. n +ℤ worth graph allowed later.owner (low + 1) vertex) (none vertex not_tail)
            ∙ ap (λ n. pos 0 +ℤ n) (sym (of_other vertex not_tail (apart_from_head vertex own)))
            ∙ ap (λ b. cond b (weight (low + 1)) (pos 0) +ℤ worth graph allowed owner (low + 1) vertex)
            (sym (ne_eqb (owner (low + 1)) vertex (λ same. not_tail (sym same ∙ here))))
            ∙ sym (worth-more graph allowed owner low vertex counted)

    -- who owned a colour above that the vertex now owns
    before : (colour vertex : ℕ) → colour ≢ low + 1 → owner colour ≡ vertex
        → ((later.owner colour ≡ head) × (vertex ≡ tail)) ⊎ (later.owner colour ≡ vertex)
    before colour vertex apart owned = choose (cases_eq (later.owner colour) head)
      where
        choose : (later.owner colour ≡ head) ⊎ (later.owner colour ≡ head → ⊥)
            → ((later.owner colour ≡ head) × (vertex ≡ tail)) ⊎ (later.owner colour ≡ vertex)
        choose (inl at) = inl (
          at,
          sym owned ∙ there colour apart
              ∙ ap (λ b. cond b tail (later.owner colour)) (eq-eqb (later.owner colour) head at),
        )
        choose (inr at_other) = inr (sym
            (ap (λ b. cond b tail (later.owner colour)) (ne_eqb (later.owner colour) head at_other))
            ∙ sym (there colour apart) ∙ owned)

    edges : (colour vertex : ℕ) → low < colour → colour ≤ colour_count graph → vertex < length graph.colours
        → colour_of graph vertex ≤ low → owner colour ≡ vertex
        → IsInto graph allowed colour (edge_into graph allowed colour)
    edges colour vertex high few within own owned = choose (cases_eq colour (low + 1))
      where
        choose : (colour ≡ low + 1) ⊎ (colour ≡ low + 1 → ⊥)
            → IsInto graph allowed colour (edge_into graph allowed colour)
        choose (inl at) = subst (λ (c : ℕ). IsInto graph allowed c (edge_into graph allowed c)) (sym at) into
        choose (inr apart) = pick (before colour vertex apart owned)
          where
            pick : ((later.owner colour ≡ head) × (vertex ≡ tail)) ⊎ (later.owner colour ≡ vertex)
                → IsInto graph allowed colour (edge_into graph allowed colour)
            pick (inl (at_head, at_tail)) =
                later.edges colour head (omega (arith, high, apart)) few is_edge.head
                (omega (arith, head_there)) at_head
            pick (inr at) = later.edges colour vertex (omega (arith, high, apart)) few within (omega (arith, own)) at

    -- from the head that passed on what it owned
    of_head : (from : ℕ) → IsHeld graph allowed later.owner (low + 1) head from
        → IsHeld graph allowed owner low tail from
    of_head from (at_vertex at) = at_owned (low + 1) (omega arith) counted here (sym at)
    of_head from (at_owned colour high few owned at) =
        at_owned colour (omega (arith, high)) few
        (there colour (λ same. omega (arith, same, high))
        ∙ ap (λ b. cond b tail (later.owner colour)) (eq-eqb (later.owner colour) head owned)) at

    of_kept : (vertex from : ℕ) → vertex ≢ head → IsHeld graph allowed later.owner (low + 1) vertex from
        → IsHeld graph allowed owner low vertex from
    of_kept vertex from not_head (at_vertex at) = at_vertex at
    of_kept vertex from not_head (at_owned colour high few owned at) =
        at_owned colour (omega (arith, high)) few
        (there colour (λ same. omega (arith, same, high))
        ∙ ap (λ b. cond b tail (later.owner colour))
        (ne_eqb (later.owner colour) head (λ same. not_head (sym owned ∙ same))) ∙ owned) at

    tails : (colour vertex : ℕ) → low < colour → colour ≤ colour_count graph → vertex < length graph.colours
        → colour_of graph vertex ≤ low → owner colour ≡ vertex
        → IsHeld graph allowed owner low vertex (edge_at graph (edge_into graph allowed colour)).tail
    tails colour vertex high few within own owned = choose (cases_eq colour (low + 1))
      where
        choose : (colour ≡ low + 1) ⊎ (colour ≡ low + 1 → ⊥)
            → IsHeld graph allowed owner low vertex (edge_at graph (edge_into graph allowed colour)).tail
        choose (inl at) = at_vertex (ap (λ c. (edge_at graph (edge_into graph allowed c)).tail) at ∙ sym here
            ∙ ap owner (sym at) ∙ owned)
        choose (inr apart) = pick (before colour vertex apart owned)
          where
            pick : ((later.owner colour ≡ head) × (vertex ≡ tail)) ⊎ (later.owner colour ≡ vertex)
                → IsHeld graph allowed owner low vertex (edge_at graph (edge_into graph allowed colour)).tail
            pick (inl (at_head, at_tail)) =
                subst (λ (v : ℕ). IsHeld graph allowed owner low v
                (edge_at graph (edge_into graph allowed colour)).tail) (sym at_tail)
                (of_head (edge_at graph (edge_into graph allowed colour)).tail
                (later.tails colour head (omega (arith, high, apart)) few is_edge.head
                (omega (arith, head_there)) at_head))
            pick (inr at) =
                of_kept vertex (edge_at graph (edge_into graph allowed colour)).tail (apart_from_head vertex own)
                (later.tails colour vertex (omega (arith, high, apart)) few within (omega (arith, own)) at)

-- what a vertex gains by a colour, by the gains of the edges between them
same_number : (a b : ℤ) → a ≤ℤ b → b ≤ℤ a → a ≡ b
same_number a b one other = omega (arith, ints)

gain-none : (graph : Graph) (allowed : List Bool) (prices potentials : List ℤ) (vertex colour : ℕ)
    → ((edge : ℕ) → IsIn edge (edges_between graph allowed vertex colour)
    → gain_by graph (cert_with prices potentials) colour edge ≤ℤ pos 0)
    → gain_of graph allowed (cert_with prices potentials) vertex colour ≡ pos 0
gain-none graph allowed prices potentials vertex colour low =
    same_number (gain_of graph allowed (cert_with prices potentials) vertex colour) (pos 0)
    (greatest-low (gain_by graph (cert_with prices potentials) colour) (pos 0)
    (edges_between graph allowed vertex colour) (omega (arith, ints)) low)
    (greatest-high (gain_by graph (cert_with prices potentials) colour) (edges_between graph allowed vertex colour)).0

gain-one : (graph : Graph) (allowed : List Bool) (prices potentials : List ℤ) (vertex colour one : ℕ) (gain : ℤ)
    → pos 0 <ℤ gain → IsIn one (edges_between graph allowed vertex colour)
    → gain_by graph (cert_with prices potentials) colour one ≡ gain
    → ((edge : ℕ) → IsIn edge (edges_between graph allowed vertex colour)
    → gain_by graph (cert_with prices potentials) colour edge ≡ gain)
    → gain_of graph allowed (cert_with prices potentials) vertex colour ≡ gain
gain-one graph allowed prices potentials vertex colour one gain some is_in is each =
    same_number (gain_of graph allowed (cert_with prices potentials) vertex colour) gain
    (greatest-low (gain_by graph (cert_with prices potentials) colour) gain (edges_between graph allowed vertex colour)
    (omega (arith, ints)) (λ edge at. rw (each edge at) (self gain)))
    (rw is at ((greatest-high (gain_by graph (cert_with prices potentials) colour)
    (edges_between graph allowed vertex colour)).1 one is_in))
  where
    self : (n : ℤ) → n ≤ℤ n
    self n = omega (arith, ints)

-- a colour has no edge or one
empty_or_one : (xs : List ℕ) → length xs ≤ 1 → (xs ≡ []) ⊎ (xs ≡ get_or xs 0 0 ∷ [])
empty_or_one [] few = inl refl
empty_or_one (x ∷ []) few = inr refl
empty_or_one (x ∷ y ∷ xs) few = absurd (omega arith)

free_gain : (weight price potential : ℤ) → price ≡ pos 0 → (weight -ℤ price) +ℤ potential ≡ weight +ℤ potential
free_gain weight price potential is = omega (arith, ints)

owners-more : (graph : Graph) (allowed : List Bool) (prices potentials : List ℤ) (base low : ℕ) → IsGraph graph
    → IsDecided graph allowed → ((place : ℕ) → number_in prices place ≡ pos 0)
    → low + 1 ≤ colour_count graph → AreExactAbove graph allowed (cert_with prices potentials) base → base ≤ low
    → Owners graph allowed prices potentials (low + 1) → Owners graph allowed prices potentials low
owners-more graph allowed prices potentials base low is decided free counted exact first later =
    choose (empty_or_one (edges_into graph allowed (low + 1)) (decided (low + 1) (omega arith) counted))
  where
    edge : ℕ
    edge = edge_into graph allowed (low + 1)

    gain : ℤ
    gain = weight_at graph edge +ℤ number_in potentials (edge_at graph edge).head

    choose : (edges_into graph allowed (low + 1) ≡ []) ⊎ (edges_into graph allowed (low + 1) ≡ edge ∷ [])
        → Owners graph allowed prices potentials low
    choose (inl empty) = owners-without graph allowed prices potentials low counted
        (λ v. gain-none graph allowed prices potentials v (low + 1) (λ e at. absurd (no_edge v e at))) later
      where
        no_edge : (v e : ℕ) → IsIn e (edges_between graph allowed v (low + 1)) → ⊥
        no_edge v e at = subst (λ (es : List ℕ). IsIn e es) empty
            (in-edges_into graph allowed (low + 1) e (edges_between-in graph allowed v (low + 1) e at).into)
    choose (inr single) = by_lt_z (pos 0) gain positive not_positive
      where
        into : IsInto graph allowed (low + 1) edge
        into = edges_into-in graph allowed (low + 1) edge
            (subst (λ (es : List ℕ). IsIn edge es) (sym single) (inl refl))

        is_it : (v e : ℕ) → IsIn e (edges_between graph allowed v (low + 1)) → e ≡ edge
        is_it v e at = pick (subst (λ (es : List ℕ). IsIn e es) single
            (in-edges_into graph allowed (low + 1) e (edges_between-in graph allowed v (low + 1) e at).into))
          where
            pick : (e ≡ edge) ⊎ ⊥ → e ≡ edge
            pick (inl same) = same
            pick (inr none) = absurd none

        gain_is : gain_by graph (cert_with prices potentials) (low + 1) edge ≡ gain
        gain_is = free_gain (weight_at graph edge) (number_in prices (low + 1 - 1))
            (number_in potentials (edge_at graph edge).head) (free (low + 1 - 1))

        each : (v e : ℕ) → IsIn e (edges_between graph allowed v (low + 1))
            → gain_by graph (cert_with prices potentials) (low + 1) e ≡ gain
        each v e at = ap (λ n. gain_by graph (cert_with prices potentials) (low + 1) n) (is_it v e at) ∙ gain_is

        not_positive : gain ≤ℤ pos 0 → Owners graph allowed prices potentials low
        not_positive low_gain = owners-without graph allowed prices potentials low counted
            (λ v. gain-none graph allowed prices potentials v (low + 1) (λ e at. rw (each v e at) low_gain)) later

        positive : pos 0 <ℤ gain → Owners graph allowed prices potentials low
        positive high_gain = owners-with graph allowed prices potentials base low is counted exact first into
            (gain-one graph allowed prices potentials (edge_at graph edge).tail (low + 1) edge gain high_gain
            (in-edges_between graph allowed (edge_at graph edge).tail (low + 1) edge
            (record { into = into; tail = refl })) gain_is (each (edge_at graph edge).tail))
            (λ v apart. gain-none graph allowed prices potentials v (low + 1)
            (λ e at. absurd (apart (sym (edges_between-in graph allowed v (low + 1) e at).tail
            ∙ ap (λ n. (edge_at graph n).tail) (is_it v e at)))))
            later

pub owners-at : (graph : Graph) (allowed : List Bool) (prices potentials : List ℤ) (base low more : ℕ) → IsGraph graph
    → IsDecided graph allowed → ((place : ℕ) → number_in prices place ≡ pos 0)
    → AreExactAbove graph allowed (cert_with prices potentials) base → base ≤ low → low + more ≡ colour_count graph
    → Owners graph allowed prices potentials low
owners-at graph allowed prices potentials base low zero is decided free exact first last =
    subst (λ (c : ℕ). Owners graph allowed prices potentials c) (ended low (colour_count graph) last)
    (owners-last graph allowed prices potentials)
  where
    ended : (c k : ℕ) → c + 0 ≡ k → k ≡ c
    ended c k is' = omega arith
owners-at graph allowed prices potentials base low (suc more) is decided free exact first last =
    owners-more graph allowed prices potentials base low is decided free (omega (arith, last)) exact first
    (owners-at graph allowed prices potentials base (low + 1) more is decided free exact (omega arith)
    (omega (arith, last)))

-- so no potential is too great for a certificate
sum-bounded : (f : ℕ → ℤ) (xs : List ℕ) → ((x : ℕ) → f x ≤ℤ pos 100000) → sum_of f xs ≤ℤ pos (100000 * length xs)
sum-bounded f [] each = omega (arith, ints)
sum-bounded f (x ∷ xs) each = both (f x) (sum_of f xs) (length xs) (each x) (sum-bounded f xs each)
  where
    both : (a b : ℤ) (n : ℕ) → a ≤ℤ pos 100000 → b ≤ℤ pos (100000 * n) → (a +ℤ b) ≤ℤ pos (100000 * suc n)
    both a b n one rest = omega (arith, ints)

weight-low : (graph : Graph) → IsGraph graph → (edge : ℕ) → weight_at graph edge ≤ℤ pos 100000
weight-low graph is edge = choose (cases_lt edge (length graph.edges))
  where
    choose : (edge < length graph.edges) ⊎ (length graph.edges ≤ edge) → weight_at graph edge ≤ℤ pos 100000
    choose (inl within) = (is.edges edge (record { tail = 0; head = 0; weight = pos 0 }) within).weight.not_above
    choose (inr past) = subst (λ (e : Edge). e.weight ≤ℤ pos 100000)
        (sym (get_or_past graph.edges edge (record { tail = 0; head = 0; weight = pos 0 }) past)) (omega (arith, ints))

worth-low : (graph : Graph) (allowed : List Bool) (owner : ℕ → ℕ) (low vertex : ℕ) → IsGraph graph
    → worth graph allowed owner low vertex ≤ℤ pos (100000 * (colour_count graph - low))
worth-low graph allowed owner low vertex is =
    subst (λ (n : ℕ). worth graph allowed owner low vertex ≤ℤ pos (100000 * n))
    (length-range_with_len (low + 1) (colour_count graph - low))
    (sum-bounded (λ c. cond (eqb (owner c) vertex) (weight_at graph (edge_into graph allowed c)) (pos 0))
    (range_with_len (low + 1) (colour_count graph - low))
    (λ c. each (eqb (owner c) vertex) (weight_at graph (edge_into graph allowed c))
    (weight-low graph is (edge_into graph allowed c))))
  where
    each : (b : Bool) (n : ℤ) → n ≤ℤ pos 100000 → cond b n (pos 0) ≤ℤ pos 100000
    each true n low' = low'
    each false n low' = omega (arith, ints)

pub not_high-decided : (graph : Graph) (allowed : List Bool) (prices : List ℤ) → IsGraph graph
    → length graph.colours ≤ 512 → IsDecided graph allowed
    → ((place : ℕ) → number_in prices place ≡ pos 0) → IsTooHigh graph allowed prices → ⊥
not_high-decided graph allowed prices is few decided free high =
    choose (cases_lt high.colour (colour_of graph high.vertex))
  where
    counted : colour_count graph < 512
    counted = omega (arith, colours-few graph is.colours, few)

    low_at : (low : ℕ) → high.colour ≤ low → colour_of graph high.vertex ≤ low → low ≤ colour_count graph
        → number_in high.potentials high.vertex
        ≡ gained_above graph allowed (cert_with prices high.potentials) low high.vertex → ⊥
    low_at low first own last sum =
        let owners = owners-at graph allowed prices high.potentials high.colour low
        (colour_count graph - low) is decided free high.exact first (omega (arith, last)) in
        too_low (number_in high.potentials high.vertex) (colour_count graph - low) (omega (arith, counted))
        (rw (sum ∙ owners.sums high.vertex high.within own) (worth-low graph allowed owners.owner low high.vertex is))
        high.high
      where
        too_low : (n : ℤ) (count : ℕ) → count ≤ 512 → n ≤ℤ pos (100000 * count) → pos 1000000000000000 <ℤ n → ⊥
        too_low n count small low' above = omega (arith, ints)

    choose : (high.colour < colour_of graph high.vertex) ⊎ (colour_of graph high.vertex ≤ high.colour) → ⊥
    choose (inl above) =
        low_at (colour_of graph high.vertex) (omega (arith, above)) (omega arith)
        (colour-le_count graph is.colours high.vertex high.within)
        (potential-above graph allowed prices high.potentials high.colour
        (colour_of graph high.vertex) high.vertex is high.within high.exact (omega (arith, above)) (omega arith))
    choose (inr below) = low_at high.colour (omega arith) below high.counted (high.exact high.vertex high.within)
