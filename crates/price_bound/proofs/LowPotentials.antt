-- Of AreExactAbove: what the potentials of the greatest colours are does not depend on smaller colours, and for few
-- colours and prices that are not below 0 no potential is great.
use Rattle.std.proofs.Common.{◌≡◌, ◌+◌, ◌-◌, ◌<◌, ◌≤◌, ℕ, zero, suc, ℤ, pos, ◌+ℤ◌, ◌-ℤ◌, ◌≤ℤ◌, ◌<ℤ◌, ◌*◌, ◌^◌, Bool}
use Rattle.std.proofs.Common.{List, length, map, ap, pow-suc, refl, subst, sym, ◌∙◌, arith}
use Rattle.std.proofs.lemmas.Int.{ints}
use Rattle.std.proofs.lemmas.Nat.{pow_pos}
use Rattle.std.specs.List.{range_with_len}
use Rattle.colour_graph.specs.Colourful.{total}
use Rattle.colour_graph.specs.Graph.{Graph, IsGraph, colour_count, colour_of, edge_at, head_colour}
use Rattle.colour_graph.proofs.Order.{colour-le_count}
use Rattle.tree_certificate.specs.PriceHolds.{edges_between, gain_by, gain_of}
use Rattle.tree_certificate.proofs.Sums.{IsIn}
use Rattle.tree_certificate.proofs.SetParts.{powers-le}
use Rattle.tree_certificate.specs.Number.{number_in}
use Rattle.price_bound.specs.inside.Exact.{AreExactAbove, IsTooHigh, cert_with, gained_above}
use Rattle.price_bound.proofs.Adding.{gain_at-none, gained_above-more}
use Rattle.price_bound.proofs.Edges.{edges_between-in}
use Rattle.price_bound.proofs.Greatest.{greatest-low}

nothing_first : (n : ℤ) → pos 0 +ℤ n ≡ n
nothing_first n = omega (arith, ints)

-- by no colour from one on up to its own does a vertex gain anything
pub above-own : (graph : Graph) (allowed : List Bool) (prices potentials : List ℤ) (vertex colour more : ℕ)
    → IsGraph graph → vertex < length graph.colours
    → colour + more ≡ colour_of graph vertex
    → gained_above graph allowed (cert_with prices potentials) colour vertex
    ≡ gained_above graph allowed (cert_with prices potentials) (colour_of graph vertex) vertex
above-own graph allowed prices potentials vertex colour zero is within own =
    ap (λ c. gained_above graph allowed (cert_with prices potentials) c vertex)
    (same colour (colour_of graph vertex) own)
  where
    same : (c d : ℕ) → c + 0 ≡ d → c ≡ d
    same c d is' = omega arith
above-own graph allowed prices potentials vertex colour (suc more) is within own =
    gained_above-more graph allowed prices potentials vertex (colour + 1) colour refl counted
    ∙ ap (λ n. n +ℤ gained_above graph allowed (cert_with prices potentials) (colour + 1) vertex)
    (gain_at-none graph allowed (colour + 1) (number_in prices (colour + 1 - 1)) potentials vertex is
    (omega (arith, own)))
    ∙ nothing_first (gained_above graph allowed (cert_with prices potentials) (colour + 1) vertex)
    ∙ above-own graph allowed prices potentials vertex (colour + 1) more is within (omega (arith, own))
  where
    counted : colour + 1 ≤ colour_count graph
    counted = omega (arith, own, colour-le_count graph is.colours vertex within)

-- the potential of a vertex of a colour above the one down to which potentials are exact
pub potential-above : (graph : Graph) (allowed : List Bool) (prices potentials : List ℤ) (low colour vertex : ℕ)
    → IsGraph graph → vertex < length graph.colours
    → AreExactAbove graph allowed (cert_with prices potentials) low → low ≤ colour → colour ≤ colour_of graph vertex
    → number_in potentials vertex ≡ gained_above graph allowed (cert_with prices potentials) colour vertex
potential-above graph allowed prices potentials low colour vertex is within exact first own =
    exact vertex within
    ∙ above-own graph allowed prices potentials vertex low (colour_of graph vertex - low) is within (omega arith)
    ∙ sym (above-own graph allowed prices potentials vertex colour (colour_of graph vertex - colour) is within
    (omega arith))

-- above the last colour nothing is gained
pub gained_above-last : (graph : Graph) (allowed : List Bool) (prices potentials : List ℤ) (vertex colour : ℕ)
    → colour ≡ colour_count graph
    → gained_above graph allowed (cert_with prices potentials) colour vertex ≡ pos 0
gained_above-last graph allowed prices potentials vertex colour last =
    ap (λ m. total (map (gain_of graph allowed (cert_with prices potentials) vertex) (range_with_len (colour + 1) m)))
    (none (colour_count graph) colour last)
  where
    none : (k c : ℕ) → c ≡ k → k - c ≡ 0
    none k c is = omega arith

-- what is gained by one colour more
gained : (weight price potential : ℤ) (most : ℕ) → weight ≤ℤ pos 100000 → pos 0 ≤ℤ price → potential ≤ℤ pos most
    → ((weight -ℤ price) +ℤ potential) ≤ℤ pos (most + 100000)
gained weight price potential most low price_low high = omega (arith, ints)

added : (a b : ℤ) (most : ℕ) → a ≤ℤ pos (most + 100000) → b ≤ℤ pos most → (a +ℤ b) ≤ℤ pos (most + (most + 100000))
added a b most one other = omega (arith, ints)

low-more : (graph : Graph) (allowed : List Bool) (prices potentials : List ℤ) (low colour most vertex : ℕ)
    → IsGraph graph → ((place : ℕ) → pos 0 ≤ℤ number_in prices place)
    → AreExactAbove graph allowed (cert_with prices potentials) low → low ≤ colour → colour + 1 ≤ colour_count graph
    → ((v : ℕ) → gained_above graph allowed (cert_with prices potentials) (colour + 1) v ≤ℤ pos most)
    → gained_above graph allowed (cert_with prices potentials) colour vertex ≤ℤ pos (most + (most + 100000))
low-more graph allowed prices potentials low colour most vertex is not_below exact first counted rest =
    rw (gained_above-more graph allowed prices potentials vertex (colour + 1) colour refl counted)
    (added (gain_of graph allowed (cert_with prices potentials) vertex (colour + 1))
    (gained_above graph allowed (cert_with prices potentials) (colour + 1) vertex) most here (rest vertex))
  where
    each : (edge : ℕ) → IsIn edge (edges_between graph allowed vertex (colour + 1))
        → gain_by graph (cert_with prices potentials) (colour + 1) edge ≤ℤ pos (most + 100000)
    each edge is_in =
        let into = (edges_between-in graph allowed vertex (colour + 1) edge is_in).into in
        let is_edge = is.edges edge (record { tail = 0; head = 0; weight = pos 0 }) into.within in
        let there : head_colour graph edge ≡ colour + 1 = into.there in
        gained (edge_at graph edge).weight (number_in prices (colour + 1 - 1))
        (number_in potentials (edge_at graph edge).head) most is_edge.weight.not_above (not_below (colour + 1 - 1))
        (rw (potential-above graph allowed prices potentials low (colour + 1)
        (edge_at graph edge).head is is_edge.head exact (omega arith) (omega (arith, there)))
        (rest (edge_at graph edge).head))

    here : gain_of graph allowed (cert_with prices potentials) vertex (colour + 1) ≤ℤ pos (most + 100000)
    here = greatest-low (gain_by graph (cert_with prices potentials) (colour + 1)) (pos (most + 100000))
        (edges_between graph allowed vertex (colour + 1)) (omega (arith, ints)) each

doubled : (p q : ℕ) → 1 ≤ p → q ≡ p * 2 → 100000 * (p - 1) + (100000 * (p - 1) + 100000) ≡ 100000 * (q - 1)
doubled p q some is = omega arith

-- what is gained by so many last colours
pub gained_above-low : (graph : Graph) (allowed : List Bool) (prices potentials : List ℤ) (low colour more vertex : ℕ)
    → IsGraph graph → ((place : ℕ) → pos 0 ≤ℤ number_in prices place)
    → AreExactAbove graph allowed (cert_with prices potentials) low → low ≤ colour → colour + more ≡ colour_count graph
    → gained_above graph allowed (cert_with prices potentials) colour vertex ≤ℤ pos (100000 * (2 ^ more - 1))
gained_above-low graph allowed prices potentials low colour zero vertex is not_below exact first last =
    rw (gained_above-last graph allowed prices potentials vertex colour (omega (arith, last))) (omega (arith, ints))
gained_above-low graph allowed prices potentials low colour (suc more) vertex is not_below exact first last =
    subst (λ (most : ℕ). gained_above graph allowed (cert_with prices potentials) colour vertex ≤ℤ pos most)
    (doubled (2 ^ more) (2 ^ suc more) (pow_pos more) (pow-suc 2 more))
    (low-more graph allowed prices potentials low colour (100000 * (2 ^ more - 1)) vertex is not_below exact first
    (omega (arith, last))
    (λ v. gained_above-low graph allowed prices potentials low (colour + 1) more v is not_below exact (omega arith)
    (omega (arith, last))))

-- so for few colours no potential is too great for a certificate
pub not_high-few : (graph : Graph) (allowed : List Bool) (prices : List ℤ) → IsGraph graph → colour_count graph ≤ 12
    → ((place : ℕ) → pos 0 ≤ℤ number_in prices place)
    → IsTooHigh graph allowed prices → ⊥
not_high-few graph allowed prices is few not_below high =
    too_low (number_in high.potentials high.vertex) (2 ^ (colour_count graph - high.colour))
    (powers-le (colour_count graph - high.colour) (omega arith))
    (rw (high.exact high.vertex high.within)
    (gained_above-low graph allowed prices high.potentials high.colour high.colour
    (colour_count graph - high.colour) high.vertex is not_below high.exact (omega arith)
    (omega (arith, high.counted))))
    high.high
  where
    too_low : (n : ℤ) (p : ℕ) → p ≤ 4096 → n ≤ℤ pos (100000 * (p - 1)) → pos 1000000000000000 <ℤ n → ⊥
    too_low n p small low above = omega (arith, ints)
