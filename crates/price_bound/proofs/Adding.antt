-- Of AreExactAbove: potentials stay exact where what each vertex gains by the next smaller colour is added.
use Rattle.std.proofs.Common.{◌≡◌, ◌+◌, ◌-◌, ◌<◌, ◌≤◌, inl, inr, ℕ, suc, ℤ, pos, ◌+ℤ◌, ◌-ℤ◌, Bool, List, [], ◌∷◌}
use Rattle.std.proofs.Common.{length, map, ap, refl, sym, ◌∙◌, arith}
use Rattle.std.proofs.lemmas.Int.{ints}
use Rattle.std.specs.List.{range_with_len}
use Rattle.colour_graph.specs.Cap.{greatest}
use Rattle.colour_graph.specs.Colourful.{total}
use Rattle.colour_graph.specs.Graph.{Graph, IsGraph, colour_count, colour_of, edge_at, head_colour}
use Rattle.tree_certificate.specs.PriceHolds.{edges_between, gain_by, gain_of}
use Rattle.tree_certificate.proofs.Sums.{IsIn}
use Rattle.tree_certificate.specs.Number.{number_in}
use Rattle.price_bound.specs.inside.Exact.{AreExactAbove, cert_with, gain_at, gain_with, gained_above}
use Rattle.price_bound.proofs.Edges.{IsBetween, edges_between-in, range-in}

pub map-same : {X : Type 0} (f g : X → ℤ) (xs : List X) → ((x : X) → IsIn x xs → f x ≡ g x) → map f xs ≡ map g xs
map-same f g [] each = refl
map-same f g (x ∷ xs) each = rw (each x (inl refl), map-same f g xs (λ y within. each y (inr within))) refl

empty_from : (xs : List ℕ) → ((x : ℕ) → IsIn x xs → ⊥) → xs ≡ []
empty_from [] none = refl
empty_from (x ∷ xs) none = absurd (none x (inl refl))

-- an edge of a graph goes to a greater colour
pub between-rises : (graph : Graph) (allowed : List Bool) (vertex colour edge : ℕ) → IsGraph graph
    → IsBetween graph allowed vertex colour edge → colour_of graph vertex < colour
between-rises graph allowed vertex colour edge is between =
    let rising = (is.edges edge (record { tail = 0; head = 0; weight = pos 0 }) between.into.within).rising in
    let tail : colour_of graph (edge_at graph edge).tail ≡ colour_of graph vertex =
    ap (λ v. colour_of graph v) between.tail in
    let there : head_colour graph edge ≡ colour = between.into.there in
    omega (arith, rising, tail, there)

-- a vertex gains nothing by a colour that is not greater than its own
pub gain_at-none : (graph : Graph) (allowed : List Bool) (colour : ℕ) (price : ℤ) (potentials : List ℤ) (vertex : ℕ)
    → IsGraph graph → colour ≤ colour_of graph vertex
    → gain_at graph allowed colour price potentials vertex ≡ pos 0
gain_at-none graph allowed colour price potentials vertex is low =
    ap (λ (edges : List ℕ). greatest (map (gain_with graph price potentials) edges))
    (empty_from (edges_between graph allowed vertex colour) none)
  where
    none : (edge : ℕ) → IsIn edge (edges_between graph allowed vertex colour) → ⊥
    none edge is_in =
        let rises = between-rises graph allowed vertex colour edge is
        (edges_between-in graph allowed vertex colour edge is_in) in
        omega (arith, rises, low)

-- What is gained by a colour depends on the potentials of that colour alone.
pub gain_of-same : (graph : Graph) (allowed : List Bool) (prices old new : List ℤ) (least vertex colour : ℕ)
    → IsGraph graph → least ≤ colour
    → ((v : ℕ) → v < length graph.colours → least ≤ colour_of graph v → number_in new v ≡ number_in old v)
    → gain_of graph allowed (cert_with prices new) vertex colour
    ≡ gain_of graph allowed (cert_with prices old) vertex colour
gain_of-same graph allowed prices old new least vertex colour is low same =
    ap (λ (gains : List ℤ). greatest gains)
    (map-same (gain_by graph (cert_with prices new) colour) (gain_by graph (cert_with prices old) colour)
    (edges_between graph allowed vertex colour) each)
  where
    each : (edge : ℕ) → IsIn edge (edges_between graph allowed vertex colour)
        → gain_by graph (cert_with prices new) colour edge ≡ gain_by graph (cert_with prices old) colour edge
    each edge is_in =
        let between = edges_between-in graph allowed vertex colour edge is_in in
        let head = (is.edges edge (record { tail = 0; head = 0; weight = pos 0 }) between.into.within).head in
        let there : head_colour graph edge ≡ colour = between.into.there in
        ap (λ n. ((edge_at graph edge).weight -ℤ number_in prices (colour - 1)) +ℤ n)
        (same (edge_at graph edge).head head (omega (arith, there, low)))

-- the same of all colours above one
pub gained_above-same : (graph : Graph) (allowed : List Bool) (prices old new : List ℤ) (vertex colour : ℕ)
    → IsGraph graph
    → ((v : ℕ) → v < length graph.colours → colour < colour_of graph v → number_in new v ≡ number_in old v)
    → gained_above graph allowed (cert_with prices new) colour vertex
    ≡ gained_above graph allowed (cert_with prices old) colour vertex
gained_above-same graph allowed prices old new vertex colour is same =
    ap total (map-same (gain_of graph allowed (cert_with prices new) vertex)
    (gain_of graph allowed (cert_with prices old) vertex) (range_with_len (colour + 1) (colour_count graph - colour))
    each)
  where
    each : (c : ℕ) → IsIn c (range_with_len (colour + 1) (colour_count graph - colour))
        → gain_of graph allowed (cert_with prices new) vertex c ≡ gain_of graph allowed (cert_with prices old) vertex c
    each c is_in =
        gain_of-same graph allowed prices old new (colour + 1) vertex c is
        (range-in (colour + 1) (colour_count graph - colour) c is_in).0
        (λ v within high. same v within (omega (arith, high)))

-- one colour more
pub gained_above-more : (graph : Graph) (allowed : List Bool) (prices potentials : List ℤ) (vertex colour before : ℕ)
    → before + 1 ≡ colour → colour ≤ colour_count graph
    → gained_above graph allowed (cert_with prices potentials) before vertex
    ≡ gain_of graph allowed (cert_with prices potentials) vertex colour +ℤ gained_above graph allowed
    (cert_with prices potentials) colour vertex
gained_above-more graph allowed prices potentials vertex colour before next counted =
    ap (λ c. total (map gain (range_with_len c (colour_count graph - before)))) next
    ∙ ap (λ m. total (map gain (range_with_len colour m))) (count (colour_count graph) colour before next counted)
  where
    gain : ℕ → ℤ
    gain c = gain_of graph allowed (cert_with prices potentials) vertex c

    count : (k c b : ℕ) → b + 1 ≡ c → c ≤ k → k - b ≡ suc (k - c)
    count k c b is low = omega arith

pub exact-first : (graph : Graph) (allowed : List Bool) (prices potentials : List ℤ)
    → ((place : ℕ) → number_in potentials place ≡ pos 0)
    → AreExactAbove graph allowed (cert_with prices potentials) (colour_count graph)
exact-first graph allowed prices potentials clear vertex within =
    clear vertex ∙ ap (λ m. total (map (gain_of graph allowed (cert_with prices potentials) vertex)
    (range_with_len (colour_count graph + 1) m))) (none (colour_count graph))
  where
    none : (k : ℕ) → 0 ≡ k - k
    none k = omega arith

turned : (a b : ℤ) → a +ℤ b ≡ b +ℤ a
turned a b = omega (arith, ints)

with_nothing : (a : ℤ) → a +ℤ pos 0 ≡ a
with_nothing a = omega (arith, ints)

pub exact-more : (graph : Graph) (allowed : List Bool) (prices old new : List ℤ) (colour before : ℕ) → IsGraph graph
    → before + 1 ≡ colour → colour ≤ colour_count graph
    → ((v : ℕ) → v < length graph.colours
    → number_in new v ≡ number_in old v +ℤ gain_at graph allowed colour (number_in prices before) old v)
    → AreExactAbove graph allowed (cert_with prices old) colour
    → AreExactAbove graph allowed (cert_with prices new) before
exact-more graph allowed prices old new colour before is next counted added exact vertex within =
    added vertex within
    ∙ ap (λ n. n +ℤ gain_at graph allowed colour (number_in prices before) old vertex) (exact vertex within
    ∙ sym (gained_above-same graph allowed prices old new vertex colour is above))
    ∙ ap (λ n. gained_above graph allowed (cert_with prices new) colour vertex +ℤ n) gain_is
    ∙ turned (gained_above graph allowed (cert_with prices new) colour vertex)
    (gain_of graph allowed (cert_with prices new) vertex colour)
    ∙ sym (gained_above-more graph allowed prices new vertex colour before next counted)
  where
    not_below : (v : ℕ) → v < length graph.colours → colour ≤ colour_of graph v → number_in new v ≡ number_in old v
    not_below v inside low =
        added v inside ∙ ap (λ n. number_in old v +ℤ n)
        (gain_at-none graph allowed colour (number_in prices before) old v is low) ∙ with_nothing (number_in old v)

    above : (v : ℕ) → v < length graph.colours → colour < colour_of graph v → number_in new v ≡ number_in old v
    above v inside high = not_below v inside (omega (arith, high))

    place : (b c : ℕ) → b + 1 ≡ c → b ≡ c - 1
    place b c is' = omega arith

    gain_is : gain_at graph allowed colour (number_in prices before) old vertex
        ≡ gain_of graph allowed (cert_with prices new) vertex colour
    gain_is =
        ap (λ p. gain_at graph allowed colour (number_in prices p) old vertex) (place before colour next)
        ∙ sym (gain_of-same graph allowed prices old new colour vertex colour is (omega arith) not_below)
