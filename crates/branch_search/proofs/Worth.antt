-- Of IsBestInto: where a set has at most one edge into each colour and the prices are 0, what a tree weighs and what
-- its vertices gain by the colours that are still to come never falls.
use Rattle.std.proofs.Common.{◌≡◌, ◌≢◌, ◌⊎◌, inl, inr, ◌<◌, ◌≤◌, ◌+◌, ◌-◌, ℕ, suc, ℤ, pos, ◌+ℤ◌, ◌-ℤ◌, ◌≤ℤ◌, ◌<ℤ◌}
use Rattle.std.proofs.Common.{Bool, true, List, [], ◌∷◌, ◌++◌, length, get_or, ap, sym, subst, refl, ◌∙◌}
use Rattle.std.proofs.Common.{Some, None, arith}
use Rattle.std.proofs.lemmas.Bool.{cases_eq, cases_lt}
use Rattle.std.proofs.lemmas.Int.{by_lt_z, ints}
use Rattle.std.proofs.lemmas.List.{get_or-map, get_or_past, length-map}
use Rattle.std.proofs.lemmas.List.Elements.{All-head, All-tail}
use Rattle.std.specs.List.{All, AllPairs, range_with_len}
use Rattle.colour_graph.specs.Colourful.{IsColourful, IsReached, at_head, at_root, heads_of, score_of, total}
use Rattle.colour_graph.specs.EdgeSet.{edges_into, is_allowed}
use Rattle.colour_graph.specs.Graph.{Graph, IsGraph, colour_count, colour_of, edge_at, head_colour}
use Rattle.tree_certificate.specs.BoundHolds.{IsDecided}
use Rattle.tree_certificate.specs.BoundValue.{PriceValue}
use Rattle.tree_certificate.specs.PriceHolds.{edges_between, gain_by, gain_of, potential_of, price_of}
use Rattle.tree_certificate.specs.PriceHolds.{price_total}
use Rattle.tree_certificate.proofs.Sums.{Different, IsIn, sum_of, sum_of-zero}
use Rattle.price_bound.specs.Plain.{IsPlain}
use Rattle.price_bound.specs.inside.Exact.{AreExactAbove, gained_above}
use Rattle.price_bound.proofs.Adding.{gained_above-more}
use Rattle.price_bound.proofs.Edges.{edges_between-in, in-edges_into}
use Rattle.price_bound.proofs.Greatest.{greatest-high, greatest-low}
use Rattle.price_bound.proofs.LowPotentials.{gained_above-last, potential-above}
use Rattle.branch_search.specs.inside.Choosing.{AreMarks, IsBestInto, IsCandidate, IsTreeTo, is_marked}
use Rattle.branch_search.proofs.Pushing.{map-push, place-in, score_of-push, sum_of-push}
use Rattle.branch_search.proofs.TreeSteps.{edge-is}

-- the root and the heads
abbrev reached_by : Graph → List ℕ → List ℕ
reached_by graph edges = 0 ∷ heads_of graph edges

-- what a list of edges weighs, and what its vertices gain by the colours above one
abbrev pub worth : Graph → List Bool → PriceValue → ℕ → List ℕ → ℤ
worth graph allowed cert colour edges =
    score_of graph edges +ℤ sum_of (gained_above graph allowed cert colour) (reached_by graph edges)

abbrev pub IsWorth : Graph → List Bool → PriceValue → ℕ → List ℕ → Type 0
IsWorth graph allowed cert colour edges =
    IsDecided graph allowed → IsPlain graph allowed cert
    → price_total graph cert ≤ℤ worth graph allowed cert colour edges

minus_zero : (n : ℕ) → n ≡ n - 0
minus_zero n = omega arith

pub AreExact-plain : (graph : Graph) (allowed : List Bool) (cert : PriceValue) → IsPlain graph allowed cert
    → AreExactAbove graph allowed cert 0
AreExact-plain graph allowed cert plain vertex within =
    plain.potentials vertex within
    ∙ ap (λ (count : ℕ). sum_of (gain_of graph allowed cert vertex) (range_with_len 1 count))
    (minus_zero (colour_count graph))

total-none : (ns : List ℤ) → All (λ n. n ≡ pos 0) ns → total ns ≡ pos 0
total-none [] each = refl
total-none (n ∷ ns) each =
    ap (λ a. a +ℤ total ns) (All-head (λ (m : ℤ). m ≡ pos 0) n ns each)
    ∙ ap (λ a. pos 0 +ℤ a) (total-none ns (All-tail (λ (m : ℤ). m ≡ pos 0) n ns each))

-- the root alone
pub IsWorth-none : (graph : Graph) (allowed : List Bool) (cert : PriceValue) → IsGraph graph
    → IsWorth graph allowed cert 0 []
IsWorth-none graph allowed cert is decided plain =
    joined graph.root_score (potential_of cert 0) (gained_above graph allowed cert 0 0) (total cert.prices)
    (AreExact-plain graph allowed cert plain 0 is.colours.some) (total-none cert.prices plain.prices)
  where
    joined : (root potential gained prices : ℤ) → potential ≡ gained → prices ≡ pos 0
        → (root +ℤ (potential +ℤ prices)) ≤ℤ ((root +ℤ pos 0) +ℤ (gained +ℤ pos 0))
    joined root potential gained prices is' none = rw (is', none) (omega (arith, ints))

-- the vertices of a tree are reached, are of the graph, and differ
pub member-reached : (graph : Graph) (edges : List ℕ) (vertex : ℕ) → IsIn vertex (reached_by graph edges)
    → IsReached graph edges vertex
member-reached graph edges vertex (inl is) = at_root is
member-reached graph edges vertex (inr later) = at_head (place-in vertex (heads_of graph edges) later)

-- the edge of a head
edge-of : (graph : Graph) (edges : List ℕ) (vertex : ℕ) → IsIn vertex (heads_of graph edges)
    → (place : ℕ) × (place < length edges) × ((edge_at graph (get_or edges place 0)).head ≡ vertex)
edge-of graph edges vertex is_in = found (place-in vertex (heads_of graph edges) is_in)
  where
    found : (place : ℕ) × (place < length (heads_of graph edges))
        × (get_or (heads_of graph edges) place vertex ≡ vertex)
        → (place : ℕ) × (place < length edges) × ((edge_at graph (get_or edges place 0)).head ≡ vertex)
    found (place, within, is) =
        let inside : place < length edges = omega (arith, within, length-map edges (λ e. (edge_at graph e).head)) in
        (place, inside, sym (get_or-map (λ e. (edge_at graph e).head) edges place 0 vertex inside) ∙ is)

member-within : (graph : Graph) (edges : List ℕ) (vertex : ℕ) → IsGraph graph → IsColourful graph edges
    → IsIn vertex (reached_by graph edges) → vertex < length graph.colours
member-within graph edges vertex is colourful (inl root) = omega (arith, root, is.colours.some)
member-within graph edges vertex is colourful (inr later) = found (edge-of graph edges vertex later)
  where
    found : (place : ℕ) × (place < length edges) × ((edge_at graph (get_or edges place 0)).head ≡ vertex)
        → vertex < length graph.colours
    found (place, within, there) =
        subst (λ (v : ℕ). v < length graph.colours) there
        (edge-is graph (get_or edges place 0) is (colourful.in_range place 0 within)).head

heads-apart : (graph : Graph) (edges : List ℕ)
    → AllPairs (λ first later. head_colour graph first ≢ head_colour graph later) edges
    → Different (λ (v : ℕ). v) (heads_of graph edges)
heads-apart graph [] pairs = tt
heads-apart graph (edge ∷ edges) pairs =
    (first, heads-apart graph edges (λ i j d before within. pairs (suc i) (suc j) d (omega arith) (omega arith)))
  where
    first : (vertex : ℕ) → IsIn vertex (heads_of graph edges) → vertex ≢ (edge_at graph edge).head
    first vertex is_in same = found (edge-of graph edges vertex is_in)
      where
        found : (place : ℕ) × (place < length edges) × ((edge_at graph (get_or edges place 0)).head ≡ vertex) → ⊥
        found (place, within, there) =
            pairs 0 (suc place) 0 (omega arith) (omega (arith, within))
            (ap (λ v. colour_of graph v) (sym (there ∙ same)))

vertices-apart : (graph : Graph) (edges : List ℕ) → IsGraph graph → IsColourful graph edges
    → Different (λ (v : ℕ). v) (reached_by graph edges)
vertices-apart graph edges is colourful = (root, heads-apart graph edges colourful.one_of_a_colour)
  where
    root : (vertex : ℕ) → IsIn vertex (heads_of graph edges) → vertex ≢ 0
    root vertex is_in same = found (edge-of graph edges vertex is_in)
      where
        found : (place : ℕ) × (place < length edges) × ((edge_at graph (get_or edges place 0)).head ≡ vertex) → ⊥
        found (place, within, there) =
            let rises : colour_of graph (edge_at graph (get_or edges place 0)).tail
            < colour_of graph (edge_at graph (get_or edges place 0)).head =
            (edge-is graph (get_or edges place 0) is (colourful.in_range place 0 within)).rising in
            let low : colour_of graph (edge_at graph (get_or edges place 0)).head ≡ 0 =
            ap (λ v. colour_of graph v) (there ∙ same) ∙ is.colours.root in
            omega (arith, rises, low)

-- sums
added : (a b c d : ℤ) → a ≤ℤ b → c ≤ℤ d → (a +ℤ c) ≤ℤ (b +ℤ d)
added a b c d one other = omega (arith, ints)

split-sum : (h f g : ℕ → ℤ) (xs : List ℕ) → ((x : ℕ) → IsIn x xs → h x ≡ (f x +ℤ g x))
    → sum_of h xs ≡ (sum_of f xs +ℤ sum_of g xs)
split-sum h f g [] each = refl
split-sum h f g (x ∷ xs) each =
    regrouped (h x) (f x) (g x) (sum_of h xs) (sum_of f xs) (sum_of g xs) (each x (inl refl))
    (split-sum h f g xs (λ y within. each y (inr within)))
  where
    regrouped : (a b c d e k : ℤ) → a ≡ (b +ℤ c) → d ≡ (e +ℤ k) → (a +ℤ d) ≡ ((b +ℤ e) +ℤ (c +ℤ k))
    regrouped a b c d e k one other = rw (one, other) (omega (arith, ints))

sum-not_below : (f : ℕ → ℤ) (xs : List ℕ) → ((x : ℕ) → pos 0 ≤ℤ f x) → pos 0 ≤ℤ sum_of f xs
sum-not_below f [] each = omega (arith, ints)
sum-not_below f (x ∷ xs) each = added (pos 0) (f x) (pos 0) (sum_of f xs) (each x) (sum-not_below f xs each)

-- where one alone is above 0
no_more : (f : ℕ → ℤ) (gain : ℤ) (one : ℕ) (xs : List ℕ) → pos 0 ≤ℤ gain → Different (λ (v : ℕ). v) xs
    → ((x : ℕ) → IsIn x xs → f x ≤ℤ gain)
    → ((x : ℕ) → IsIn x xs → x ≢ one → f x ≤ℤ pos 0) → sum_of f xs ≤ℤ gain
no_more f gain one [] low apart each others = low
no_more f gain one (x ∷ xs) low apart each others =
    choose (cases_eq x one)
    (no_more f gain one xs low apart.1 (λ y within. each y (inr within)) (λ y within. others y (inr within)))
  where
    first : (a b : ℤ) → a ≤ℤ gain → b ≤ℤ pos 0 → (a +ℤ b) ≤ℤ gain
    first a b most none = omega (arith, ints)

    later : (a b : ℤ) → a ≤ℤ pos 0 → b ≤ℤ gain → (a +ℤ b) ≤ℤ gain
    later a b none most = omega (arith, ints)

    choose : (x ≡ one) ⊎ (x ≡ one → ⊥) → sum_of f xs ≤ℤ gain → sum_of f (x ∷ xs) ≤ℤ gain
    choose (inl is) rest =
        first (f x) (sum_of f xs) (each x (inl refl))
        (sum_of-zero f xs (λ y within. others y (inr within) (λ same. apart.0 y within (same ∙ sym is))))
    choose (inr different) rest = later (f x) (sum_of f xs) (others x (inl refl) different) rest

one_member : (x : ℕ) (xs : List ℕ) → length xs ≤ 1 → IsIn x xs → x ≡ get_or xs 0 0
one_member x [] few within = absurd within
one_member x (y ∷ xs) few (inl is) = is
one_member x (y ∷ []) few (inr later) = absurd later
one_member x (y ∷ z ∷ xs) few (inr later) = absurd (omega (arith, few))

module _ (graph : Graph) (allowed : List Bool) (cert : PriceValue) (marks : List Bool) (before colour : ℕ)
    (edges : List ℕ) (is : IsGraph graph) (next : colour ≡ before + 1) (counted : colour ≤ colour_count graph)
    (tree : IsTreeTo graph before edges) (marked : AreMarks graph edges marks)
  where
    abbrev gains : ℕ → ℤ
    gains vertex = gain_of graph allowed cert vertex colour

    -- an edge from a vertex of the tree that gains something is a candidate
    candidate-is : (vertex edge : ℕ) → IsIn vertex (reached_by graph edges)
        → IsIn edge (edges_between graph allowed vertex colour) → pos 0 <ℤ gain_by graph cert colour edge
        → IsCandidate graph allowed cert marks colour edge
    candidate-is vertex edge member is_in more =
        let between = edges_between-in graph allowed vertex colour edge is_in in
        record {
          within = between.into.within;
          into = between.into.there;
          reached = subst (λ (v : ℕ). is_marked marks v ≡ true) (sym between.tail)
              ((marked.exact vertex).1 (member-reached graph edges vertex member));
          useful = inr (between.into.in_set, more);
        }

    old-sum : sum_of (gained_above graph allowed cert before) (reached_by graph edges)
        ≡ (sum_of gains (reached_by graph edges)
        +ℤ sum_of (gained_above graph allowed cert colour) (reached_by graph edges))
    old-sum =
        split-sum (gained_above graph allowed cert before) gains (gained_above graph allowed cert colour)
        (reached_by graph edges)
        (λ vertex within. gained_above-more graph allowed cert.prices cert.potentials vertex colour before (sym next)
        counted)

    pub IsWorth-left : IsBestInto graph allowed cert marks colour None → IsWorth graph allowed cert before edges
        → IsWorth graph allowed cert colour edges
    IsWorth-left none worth-before decided plain =
        joined (price_total graph cert) (score_of graph edges)
        (sum_of (gained_above graph allowed cert before) (reached_by graph edges))
        (sum_of gains (reached_by graph edges))
        (sum_of (gained_above graph allowed cert colour) (reached_by graph edges)) (worth-before decided plain) old-sum
        (sum_of-zero gains (reached_by graph edges) nothing)
      where
        joined : (all score old gained new : ℤ) → all ≤ℤ (score +ℤ old) → old ≡ (gained +ℤ new) → gained ≤ℤ pos 0
            → all ≤ℤ (score +ℤ new)
        joined all score old gained new one is' other = omega (arith, ints, one, is', other)

        nothing : (vertex : ℕ) → IsIn vertex (reached_by graph edges) → gains vertex ≤ℤ pos 0
        nothing vertex member =
            greatest-low (gain_by graph cert colour) (pos 0) (edges_between graph allowed vertex colour)
            (omega (arith, ints))
            (λ edge is_in. by_lt_z (pos 0) (gain_by graph cert colour edge)
            (λ more. absurd (none edge (edges_between-in graph allowed vertex colour edge is_in).into.within
            (candidate-is vertex edge member is_in more)))
            (λ most. most))

    price-none : IsPlain graph allowed cert → price_of cert colour ≡ pos 0
    price-none plain = choose (cases_lt (colour - 1) (length cert.prices))
      where
        choose : (colour - 1 < length cert.prices) ⊎ (length cert.prices ≤ colour - 1) → price_of cert colour ≡ pos 0
        choose (inl within) = plain.prices (colour - 1) (pos 0) within
        choose (inr past) = get_or_past cert.prices (colour - 1) (pos 0) past

    pub IsWorth-taken : (edge : ℕ) → IsBestInto graph allowed cert marks colour (Some edge)
        → IsWorth graph allowed cert before edges → IsWorth graph allowed cert colour (edges ++ edge ∷ [])
    IsWorth-taken edge best worth-before decided plain =
        subst (λ (n : ℤ). price_total graph cert ≤ℤ n) (sym new-worth)
        (joined (price_total graph cert) (score_of graph edges)
        (sum_of (gained_above graph allowed cert before) (reached_by graph edges))
        (sum_of gains (reached_by graph edges))
        (later 0) (sum_of later (heads_of graph edges)) (edge_at graph edge).weight (price_of cert colour)
        (potential_of cert head) (later head) (worth-before decided plain) old-sum gained (price-none plain) head-gains)
      where
        head : ℕ
        head = (edge_at graph edge).head

        later : ℕ → ℤ
        later = gained_above graph allowed cert colour

        head-within : head < length graph.colours
        head-within = (edge-is graph edge is best.0.within).head

        into : head_colour graph edge ≡ colour
        into = best.0.into

        head-gains : potential_of cert head ≡ later head
        head-gains =
            potential-above graph allowed cert.prices cert.potentials 0 colour head is head-within
            (AreExact-plain graph allowed cert plain) (omega arith) (omega (arith, into))

        not_below : (vertex c : ℕ) → pos 0 ≤ℤ gain_of graph allowed cert vertex c
        not_below vertex c =
            (greatest-high (gain_by graph cert c) (edges_between graph allowed vertex c)).0

        head-low : pos 0 ≤ℤ later head
        head-low = sum-not_below (gain_of graph allowed cert head)
            (range_with_len (colour + 1) (colour_count graph - colour)) (not_below head)

        positive : pos 0 ≤ℤ gain_by graph cert colour edge
        positive = choose best.0.useful
          where
            by_weight : (weight price potential gained' : ℤ) → pos 0 <ℤ weight → price ≡ pos 0 → potential ≡ gained'
                → pos 0 ≤ℤ gained' → pos 0 ≤ℤ ((weight -ℤ price) +ℤ potential)
            by_weight weight price potential gained' more none same low = rw (none, same) (omega (arith, ints))

            by_gain : (n : ℤ) → pos 0 <ℤ n → pos 0 ≤ℤ n
            by_gain n more = omega (arith, ints)

            choose : (pos 0 <ℤ (edge_at graph edge).weight)
                ⊎ ((is_allowed allowed edge ≡ true) × (pos 0 <ℤ gain_by graph cert colour edge))
                → pos 0 ≤ℤ gain_by graph cert colour edge
            choose (inl weighs) =
                by_weight (edge_at graph edge).weight (price_of cert colour) (potential_of cert head) (later head)
                weighs
                (price-none plain) head-gains head-low
            choose (inr both) = by_gain (gain_by graph cert colour edge) both.1

        one : ℕ
        one = (edge_at graph (get_or (edges_into graph allowed colour) 0 0)).tail

        most : (vertex : ℕ) → IsIn vertex (reached_by graph edges) → gains vertex ≤ℤ gain_by graph cert colour edge
        most vertex member =
            greatest-low (gain_by graph cert colour) (gain_by graph cert colour edge)
            (edges_between graph allowed vertex colour) positive each
          where
            over : (n m : ℤ) → n ≤ℤ pos 0 → pos 0 ≤ℤ m → n ≤ℤ m
            over n m low high = omega (arith, ints)

            each : (other : ℕ) → IsIn other (edges_between graph allowed vertex colour)
                → gain_by graph cert colour other ≤ℤ gain_by graph cert colour edge
            each other is_in = by_lt_z (pos 0) (gain_by graph cert colour other)
                (λ more. best.1 other (edges_between-in graph allowed vertex colour other is_in).into.within
                (candidate-is vertex other member is_in more))
                (λ low. over (gain_by graph cert colour other) (gain_by graph cert colour edge) low positive)

        others : (vertex : ℕ) → IsIn vertex (reached_by graph edges) → vertex ≢ one → gains vertex ≤ℤ pos 0
        others vertex member apart =
            greatest-low (gain_by graph cert colour) (pos 0) (edges_between graph allowed vertex colour)
            (omega (arith, ints)) (λ other is_in. absurd (apart (tail-is other is_in)))
          where
            tail-is : (other : ℕ) → IsIn other (edges_between graph allowed vertex colour) → vertex ≡ one
            tail-is other is_in =
                let between = edges_between-in graph allowed vertex colour other is_in in
                let same : other ≡ get_or (edges_into graph allowed colour) 0 0 =
                one_member other (edges_into graph allowed colour)
                (decided colour (omega (arith, next)) counted)
                (in-edges_into graph allowed colour other between.into) in
                sym between.tail ∙ ap (λ e. (edge_at graph e).tail) same

        gained : sum_of gains (reached_by graph edges) ≤ℤ gain_by graph cert colour edge
        gained = no_more gains (gain_by graph cert colour edge) one (reached_by graph edges) positive
            (vertices-apart graph edges is tree.colourful) most others

        new-worth : worth graph allowed cert colour (edges ++ edge ∷ [])
            ≡ ((score_of graph edges +ℤ (edge_at graph edge).weight)
            +ℤ (later 0 +ℤ (sum_of later (heads_of graph edges) +ℤ later head)))
        new-worth =
            ap (λ n. n +ℤ sum_of later (reached_by graph (edges ++ edge ∷ []))) (score_of-push graph edges edge)
            ∙ ap (λ n. (score_of graph edges +ℤ (edge_at graph edge).weight) +ℤ (later 0 +ℤ n))
            (ap (sum_of later) (map-push (λ e. (edge_at graph e).head) edges edge)
            ∙ sum_of-push later head (heads_of graph edges))

        joined : (all score old gained' root rest weight price potential at_head' : ℤ) → all ≤ℤ (score +ℤ old)
            → old ≡ (gained' +ℤ (root +ℤ rest)) → gained' ≤ℤ ((weight -ℤ price) +ℤ potential) → price ≡ pos 0
            → potential ≡ at_head' → all ≤ℤ ((score +ℤ weight) +ℤ (root +ℤ (rest +ℤ at_head')))
        joined all score old gained' root rest weight price potential at_head' below is' most' none same =
            omega (arith, ints, below, is', most', none, same)

-- after all colours the tree's score is at least what the prices say
pub IsWorth-all : (graph : Graph) (allowed : List Bool) (cert : PriceValue) (colour : ℕ) (edges : List ℕ) (score : ℤ)
    → colour ≡ colour_count graph → score ≡ score_of graph edges → IsWorth graph allowed cert colour edges
    → IsDecided graph allowed → IsPlain graph allowed cert → price_total graph cert ≤ℤ score
IsWorth-all graph allowed cert colour edges score all same is decided plain =
    joined (price_total graph cert) (score_of graph edges) score
    (sum_of (gained_above graph allowed cert colour) (reached_by graph edges)) (is decided plain) same
    (sum_of-zero (gained_above graph allowed cert colour) (reached_by graph edges)
    (λ vertex within. none (gained_above graph allowed cert colour vertex)
    (gained_above-last graph allowed cert.prices cert.potentials vertex colour all)))
  where
    none : (n : ℤ) → n ≡ pos 0 → n ≤ℤ pos 0
    none n is' = rw is' (omega (arith, ints))

    joined : (all' score' score'' rest : ℤ) → all' ≤ℤ (score' +ℤ rest) → score'' ≡ score' → rest ≤ℤ pos 0
        → all' ≤ℤ score''
    joined all' score' score'' rest below is' low = omega (arith, ints, below, is', low)
