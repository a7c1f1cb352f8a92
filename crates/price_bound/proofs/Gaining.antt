-- Of gain_at: what each vertex gains by a colour, edge after edge.
use Rattle.std.proofs.Common.{◌≡◌, ◌≢◌, ◌+◌, ◌<◌, ℕ, ℤ, pos, Bool, true, List, length, slice_set, sym, arith}
use Rattle.colour_graph.specs.EdgeSet.{AreInto, is_allowed}
use Rattle.colour_graph.specs.Graph.{Graph, edge_at}
use Rattle.tree_certificate.specs.PriceHolds.{edges_between}
use Rattle.tree_certificate.proofs.Sums.{IsIn}
use Rattle.tree_certificate.specs.Number.{number_in}
use Rattle.price_bound.specs.inside.Exact.{IsGreater, gain_at, gain_with}
use Rattle.price_bound.proofs.Edges.{IsBetween, IsInto, edges_between-in, in-edges_between}
use Rattle.price_bound.proofs.Greatest.{IsGreatest, greatest-is, greatest-none, greatest-with, greatest-without}
use Rattle.price_bound.proofs.Numbers.{set-at}

-- what the vertices gain by the edges before a place
abbrev pub AreGainsBefore : Graph → List Bool → ℕ → ℤ → List ℤ → ℕ → List ℤ → Type 0
AreGainsBefore graph allowed colour price potentials past gains = (vertex : ℕ) → vertex < length graph.colours
    → IsGreatest (IsBetween graph allowed vertex colour) (gain_with graph price potentials) past
    (number_in gains vertex)

pub gains-first : (graph : Graph) (allowed : List Bool) (colour first past : ℕ) (price : ℤ) (potentials gains : List ℤ)
    → AreInto graph colour first past
    → ((place : ℕ) → number_in gains place ≡ pos 0) → AreGainsBefore graph allowed colour price potentials first gains
gains-first graph allowed colour first past price potentials gains into clear vertex within =
    rw (clear vertex) (greatest-none (IsBetween graph allowed vertex colour)
    (gain_with graph price potentials) first none)
  where
    none : (edge : ℕ) → edge < first → IsBetween graph allowed vertex colour edge → ⊥
    none edge before is =
        let small = (into.smaller edge is.into.within).0 before in
        let there = is.into.there in
        omega (arith, small, there)

pub gains-with : (graph : Graph) (allowed : List Bool) (colour edge : ℕ) (price more : ℤ) (potentials gains : List ℤ)
    → IsInto graph allowed colour edge
    → (edge_at graph edge).tail < length gains
    → IsGreater more (number_in gains (edge_at graph edge).tail) (gain_with graph price potentials edge)
    → AreGainsBefore graph allowed colour price potentials edge gains
    → AreGainsBefore graph allowed colour price potentials (edge + 1) (slice_set gains (edge_at graph edge).tail more)
gains-with graph allowed colour edge price more potentials gains is within greater before vertex inside =
    set-at (λ v n. IsGreatest (IsBetween graph allowed vertex colour) (gain_with graph price potentials) (edge + 1) n)
    gains (edge_at graph edge).tail vertex more within here there
  where
    here : vertex ≡ (edge_at graph edge).tail
        → IsGreatest (IsBetween graph allowed vertex colour) (gain_with graph price potentials) (edge + 1) more
    here same =
        greatest-with (IsBetween graph allowed vertex colour) (gain_with graph price potentials) edge
        (number_in gains vertex) more (record { into = is; tail = sym same })
        (before vertex inside) (rw same greater)

    there : vertex ≢ (edge_at graph edge).tail
        → IsGreatest (IsBetween graph allowed vertex colour) (gain_with graph price potentials) (edge + 1)
        (number_in gains vertex)
    there apart =
        greatest-without (IsBetween graph allowed vertex colour) (gain_with graph price potentials) edge
        (number_in gains vertex) (λ between. apart (sym between.tail))
        (before vertex inside)

pub gains-without : (graph : Graph) (allowed : List Bool) (colour edge : ℕ) (price : ℤ) (potentials gains : List ℤ)
    → (is_allowed allowed edge ≡ true → ⊥)
    → AreGainsBefore graph allowed colour price potentials edge gains
    → AreGainsBefore graph allowed colour price potentials (edge + 1) gains
gains-without graph allowed colour edge price potentials gains out before vertex inside =
    greatest-without (IsBetween graph allowed vertex colour) (gain_with graph price potentials) edge
    (number_in gains vertex) (λ between. out between.into.in_set) (before vertex inside)

pub gains-last : (graph : Graph) (allowed : List Bool) (colour first past : ℕ) (price : ℤ) (potentials gains : List ℤ)
    → AreInto graph colour first past
    → AreGainsBefore graph allowed colour price potentials past gains
    → (vertex : ℕ) → vertex < length graph.colours
    → number_in gains vertex ≡ gain_at graph allowed colour price potentials vertex
gains-last graph allowed colour first past price potentials gains into before vertex inside =
    greatest-is (IsBetween graph allowed vertex colour) (gain_with graph price potentials) past
    (edges_between graph allowed vertex colour) (number_in gains vertex) counted
    (λ edge below between. in-edges_between graph allowed vertex colour edge between) (before vertex inside)
  where
    counted : (edge : ℕ) → IsIn edge (edges_between graph allowed vertex colour)
        → (edge < past) × IsBetween graph allowed vertex colour edge
    counted edge is_in =
        let between = edges_between-in graph allowed vertex colour edge is_in in
        (((into.members edge between.into.within).1 between.into.there).1, between)
