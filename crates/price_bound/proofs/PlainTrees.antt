-- Of IsTreeScore: where no two edges of a set go to one colour, the edges into the colours that the root owns are a
-- tree, and the potential of the root for prices of 0 is what they weigh.
use Rattle.std.proofs.Common.{◌≡◌, ◌≢◌, ◌⊎◌, inl, inr, ◌+◌, ◌-◌, ◌<◌, ◌≤◌, ℕ, zero, suc, ℤ, pos, ◌+ℤ◌, Bool, true}
use Rattle.std.proofs.Common.{false, IsTrue, cond, eqb, List, [], ◌∷◌, filter, length, map, get_or, ap, refl, subst}
use Rattle.std.proofs.Common.{sym, ◌∙◌, arith}
use Rattle.std.proofs.lemmas.Bool.{cases_Bool, eq-eqb, eqb-true}
use Rattle.std.proofs.lemmas.Int.{ints}
use Rattle.std.proofs.lemmas.List.{get_or-map, length-map}
use Rattle.std.proofs.lemmas.List.Elements.{All-map}
use Rattle.std.proofs.lemmas.List.FromFn.{get_or-range_with_len, length-range_with_len}
use Rattle.std.proofs.lemmas.List.Kept.{AllPairs-filter}
use Rattle.std.specs.List.{All, AllPairs, Contains, range_with_len}
use Rattle.colour_graph.specs.Colourful.{IsReached, at_head, at_root, heads_of, score_of, total}
use Rattle.colour_graph.specs.EdgeSet.{colours_of, is_allowed}
use Rattle.colour_graph.specs.Graph.{Graph, IsGraph, colour_count, colour_of, edge_at, head_colour}
use Rattle.tree_certificate.specs.BoundHolds.{IsDecided}
use Rattle.tree_certificate.specs.PriceHolds.{price_total}
use Rattle.tree_certificate.proofs.Members.{IsIn-filter, IsIn-map, IsIn-range}
use Rattle.tree_certificate.proofs.Sums.{IsIn, sum_of}
use Rattle.price_bound.specs.Plain.{IsTreeScore}
use Rattle.tree_certificate.specs.Number.{number_in}
use Rattle.price_bound.specs.inside.Exact.{AreExactAbove, cert_with}
use Rattle.price_bound.proofs.Edges.{IsInto, filter-in, range-in, weight_at}
use Rattle.price_bound.proofs.Owning.{IsHeld, Owners, at_owned, at_vertex, edge_into, owners-at}

-- lists by their members
All-from : (P : ℕ → Type 0) (xs : List ℕ) → ((x : ℕ) → IsIn x xs → P x) → All P xs
All-from P [] each = λ k d within. absurd (omega arith)
All-from P (x ∷ xs) each = at (each x (inl refl)) (All-from P xs (λ y within. each y (inr within)))
  where
    at : P x → All P xs → All P (x ∷ xs)
    at here rest zero d within = here
    at here rest (suc k) d within = rest k d (omega arith)

Contains-in : (x : ℕ) (xs : List ℕ) → IsIn x xs → Contains xs x
Contains-in x [] within = absurd within
Contains-in x (first ∷ xs) (inl is) = (zero, omega arith, sym is)
Contains-in x (first ∷ xs) (inr later) = let found = Contains-in x xs later in
    (suc found.0, omega (arith, found.1), found.2)

range-rises : (from count : ℕ) → AllPairs (λ first later. first < later) (range_with_len from count)
range-rises from count i j d before within =
    let few : j < count = omega (arith, within, length-range_with_len from count) in
    rises (get_or (range_with_len from count) i d) (get_or (range_with_len from count) j d)
    (get_or-range_with_len from count i d (omega (arith, few, before))) (get_or-range_with_len from count j d few)
  where
    rises : (a b : ℕ) → a ≡ from + i → b ≡ from + j → a < b
    rises a b one other = omega arith

-- edges into colours in rising order
apart : (key f : ℕ → ℕ) (xs : List ℕ) → AllPairs (λ first later. first < later) xs → All (λ x. key (f x) ≡ x) xs
    → AllPairs (λ first later. key first ≢ key later) (map f xs)
apart key f xs rising each i j d before within same =
    let inside : j < length xs = omega (arith, within, length-map xs f) in
    let first : key (get_or (map f xs) i d) ≡ get_or xs i 0 = ap key (get_or-map f xs i 0 d (omega arith))
    ∙ each i 0 (omega arith) in
    let later : key (get_or (map f xs) j d) ≡ get_or xs j 0 = ap key (get_or-map f xs j 0 d inside) ∙ each j 0 inside in
    let less : get_or xs i 0 < get_or xs j 0 = rising i j 0 before inside in
    omega (arith, first, later, less, same)

-- what the chosen ones add up to
total-chosen : (test : ℕ → Bool) (f : ℕ → ℕ) (weight : ℕ → ℤ) (xs : List ℕ)
    → total (map weight (map f (filter test xs))) ≡ sum_of (λ x. cond (test x) (weight (f x)) (pos 0)) xs
total-chosen test f weight [] = refl
total-chosen test f weight (x ∷ xs) = choose (cases_Bool (test x)) (total-chosen test f weight xs)
  where
    nothing : (n : ℤ) → n ≡ pos 0 +ℤ n
    nothing n = omega (arith, ints)

    choose : (test x ≡ true) ⊎ (test x ≡ false)
        → total (map weight (map f (filter test xs))) ≡ sum_of (λ y. cond (test y) (weight (f y)) (pos 0)) xs
        → total (map weight (map f (cond (test x) (x ∷ filter test xs) (filter test xs))))
        ≡ cond (test x) (weight (f x)) (pos 0) +ℤ sum_of (λ y. cond (test y) (weight (f y)) (pos 0)) xs
    choose (inl passes) rest = rw passes (ap (λ n. weight (f x) +ℤ n) rest)
    choose (inr fails) rest = rw fails (rest ∙ nothing (sum_of (λ y. cond (test y) (weight (f y)) (pos 0)) xs))

minus_zero : (n : ℕ) → n - 0 ≡ n
minus_zero n = omega arith

pub tree-plain : (graph : Graph) (allowed : List Bool) (prices potentials : List ℤ) → IsGraph graph
    → IsDecided graph allowed → ((place : ℕ) → number_in prices place ≡ pos 0)
    → total prices ≡ pos 0 → AreExactAbove graph allowed (cert_with prices potentials) 0
    → IsTreeScore graph allowed (price_total graph (cert_with prices potentials))
tree-plain graph allowed prices potentials is decided free no_price exact = record {
  edges = edges;
  colourful = record { in_range = in_range; one_of_a_colour = one_of_a_colour; tails = tails };
  in_set = All-map (λ edge. IsTrue (is_allowed allowed edge)) (edge_into graph allowed) chosen
      (All-from (λ c. IsTrue (is_allowed allowed (edge_into graph allowed c))) chosen
      (λ c is_in. (into c is_in).in_set));
  reached = reached;
}
  where
    owners : Owners graph allowed prices potentials 0
    owners = owners-at graph allowed prices potentials 0 0 (colour_count graph) is decided free exact (omega arith)
        (omega arith)

    root_low : colour_of graph 0 ≤ 0
    root_low = omega (arith, is.colours.root)

    test : ℕ → Bool
    test c = eqb (owners.owner c) 0

    chosen : List ℕ
    chosen = filter test (colours_of graph)

    edges : List ℕ
    edges = map (edge_into graph allowed) chosen

    facts : (c : ℕ) → IsIn c chosen → (0 < c) × (c ≤ colour_count graph) × (owners.owner c ≡ 0)
    facts c is_in =
        let kept = filter-in test c (colours_of graph) is_in in
        let counted = range-in 1 (colour_count graph) c kept.0 in
        (omega (arith, counted.0), omega (arith, counted.1), eqb-true (owners.owner c) 0 kept.1)

    into : (c : ℕ) → IsIn c chosen → IsInto graph allowed c (edge_into graph allowed c)
    into c is_in = let fact = facts c is_in in owners.edges c 0 fact.0 fact.1 is.colours.some root_low fact.2

    in_range : All (λ edge. edge < length graph.edges) edges
    in_range = All-map (λ edge. edge < length graph.edges) (edge_into graph allowed) chosen
        (All-from (λ c. edge_into graph allowed c < length graph.edges) chosen (λ c is_in. (into c is_in).within))

    one_of_a_colour : AllPairs (λ first later. head_colour graph first ≢ head_colour graph later) edges
    one_of_a_colour = apart (head_colour graph) (edge_into graph allowed) chosen
        (AllPairs-filter (λ first later. first < later) test (colours_of graph) (range-rises 1 (colour_count graph)))
        (All-from (λ c. head_colour graph (edge_into graph allowed c) ≡ c) chosen (λ c is_in. (into c is_in).there))

    reach : (c tail : ℕ) → IsHeld graph allowed owners.owner 0 0 tail → IsReached graph edges tail
    reach c tail (at_vertex root) = at_root root
    reach c tail (at_owned colour above few owned head) =
        at_head (subst (λ (v : ℕ). Contains (heads_of graph edges) v) head
        (Contains-in (edge_at graph (edge_into graph allowed colour)).head (heads_of graph edges)
        (IsIn-map (λ edge. (edge_at graph edge).head) (edge_into graph allowed colour) edges
        (IsIn-map (edge_into graph allowed) colour chosen
        (IsIn-filter test colour (colours_of graph)
        (IsIn-range 1 (colour - 1) (colour_count graph) colour (omega (arith, above, few)) (omega (arith, above)))
        (eq-eqb (owners.owner colour) 0 owned))))))

    tails : All (λ edge. IsReached graph edges (edge_at graph edge).tail) edges
    tails = All-map (λ edge. IsReached graph edges (edge_at graph edge).tail) (edge_into graph allowed) chosen
        (All-from (λ c. IsReached graph edges (edge_at graph (edge_into graph allowed c)).tail) chosen
        (λ c is_in. let fact = facts c is_in in
        reach c (edge_at graph (edge_into graph allowed c)).tail
        (owners.tails c 0 fact.0 fact.1 is.colours.some root_low fact.2)))

    root_potential : number_in potentials 0
        ≡ sum_of (λ c. cond (test c) (weight_at graph (edge_into graph allowed c)) (pos 0)) (colours_of graph)
    root_potential = exact 0 is.colours.some ∙ owners.sums 0 is.colours.some root_low
        ∙ ap (λ m. sum_of (λ c. cond (test c) (weight_at graph (edge_into graph allowed c)) (pos 0))
        (range_with_len 1 m)) (minus_zero (colour_count graph))

    nothing : (n : ℤ) → n ≡ n +ℤ pos 0
    nothing n = omega (arith, ints)

    reached : score_of graph edges ≡ price_total graph (cert_with prices potentials)
    reached =
        ap (λ n. graph.root_score +ℤ n) (total-chosen test (edge_into graph allowed) (weight_at graph)
        (colours_of graph) ∙ sym root_potential ∙ nothing (number_in potentials 0)
        ∙ ap (λ n. number_in potentials 0 +ℤ n) (sym no_price))
