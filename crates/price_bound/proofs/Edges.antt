-- Of edges_into and edges_between: which edges they list.
use Rattle.std.proofs.Common.{◌≡◌, ◌+◌, ◌-◌, ◌<◌, ◌≤◌, ◌⊎◌, inl, inr, ℕ, zero, suc, ℤ, Bool, true, false, ◌&&◌, eqb}
use Rattle.std.proofs.Common.{List, [], ◌∷◌, filter, length, ap, subst, ◌∙◌, arith}
use Rattle.std.proofs.lemmas.Bool.{and_parts, cases_Bool, cond-false, cond-true, eq-eqb, eqb-true}
use Rattle.std.specs.List.{range_with_len}
use Rattle.colour_graph.specs.EdgeSet.{edges_into, is_allowed}
use Rattle.colour_graph.specs.Graph.{Graph, HasColours, colour_count, edge_at, head_colour}
use Rattle.colour_graph.proofs.Order.{colour-le_vertex}
use Rattle.tree_certificate.specs.PriceHolds.{edges_between}
use Rattle.tree_certificate.proofs.Caps.{IsIn-edges_into}
use Rattle.tree_certificate.proofs.Members.{IsIn-filter}
use Rattle.tree_certificate.proofs.Sums.{IsIn}

-- the members of a filtered list, and of a range
pub filter-in : {X : Type 0} (test : X → Bool) (x : X) (xs : List X) → IsIn x (filter test xs)
    → IsIn x xs × (test x ≡ true)
filter-in test x [] within = absurd within
filter-in {X} test x (first ∷ xs) within = choose (cases_Bool (test first)) (filter-in test x xs)
  where
    choose : (test first ≡ true) ⊎ (test first ≡ false) → (IsIn x (filter test xs) → IsIn x xs × (test x ≡ true))
        → IsIn x (first ∷ xs) × (test x ≡ true)
    choose (inl keeps) later = pick (subst (λ (kept : List X). IsIn x kept)
        (cond-true (test first) (first ∷ filter test xs) (filter test xs) keeps) within)
      where
        pick : (x ≡ first) ⊎ IsIn x (filter test xs) → IsIn x (first ∷ xs) × (test x ≡ true)
        pick (inl is) = (inl is, ap test is ∙ keeps)
        pick (inr more) = (inr (later more).0, (later more).1)
    choose (inr drops) later =
        let more = later (subst (λ (kept : List X). IsIn x kept)
        (cond-false (test first) (first ∷ filter test xs) (filter test xs) drops) within) in
        (inr more.0, more.1)

pub range-in : (from count number : ℕ) → IsIn number (range_with_len from count)
    → (from ≤ number) × (number < from + count)
range-in from zero number within = absurd within
range-in from (suc count) number (inl is) = (omega arith, omega arith)
range-in from (suc count) number (inr later) = let more = range-in (from + 1) count number later in
    (omega (arith, more.0), omega (arith, more.1))

-- an edge of a set into a colour
pub record IsInto (graph : Graph) (allowed : List Bool) (colour edge : ℕ) : Type 0 where
  pub within : edge < length graph.edges
  pub in_set : is_allowed allowed edge ≡ true
  pub there : head_colour graph edge ≡ colour

pub edges_into-in : (graph : Graph) (allowed : List Bool) (colour edge : ℕ)
    → IsIn edge (edges_into graph allowed colour) → IsInto graph allowed colour edge
edges_into-in graph allowed colour edge is_in =
    let kept = filter-in (λ e. is_allowed allowed e && eqb (head_colour graph e) colour) edge
    (range_with_len 0 (length graph.edges)) is_in in
    let parts = and_parts (is_allowed allowed edge) (eqb (head_colour graph edge) colour) kept.1 in
    record {
      within = omega (arith, (range-in 0 (length graph.edges) edge kept.0).1);
      in_set = parts.0;
      there = eqb-true (head_colour graph edge) colour parts.1;
    }

pub in-edges_into : (graph : Graph) (allowed : List Bool) (colour edge : ℕ) → IsInto graph allowed colour edge
    → IsIn edge (edges_into graph allowed colour)
in-edges_into graph allowed colour edge is =
    subst (λ (c : ℕ). IsIn edge (edges_into graph allowed c)) is.there
    (IsIn-edges_into graph allowed edge is.within is.in_set)

-- an edge of a set from a vertex into a colour
pub record IsBetween (graph : Graph) (allowed : List Bool) (vertex colour edge : ℕ) : Type 0 where
  pub into : IsInto graph allowed colour edge
  pub tail : (edge_at graph edge).tail ≡ vertex

pub edges_between-in : (graph : Graph) (allowed : List Bool) (vertex colour edge : ℕ)
    → IsIn edge (edges_between graph allowed vertex colour) → IsBetween graph allowed vertex colour edge
edges_between-in graph allowed vertex colour edge is_in =
    let kept = filter-in (λ e. eqb (edge_at graph e).tail vertex) edge (edges_into graph allowed colour) is_in in
    record {
      into = edges_into-in graph allowed colour edge kept.0;
      tail = eqb-true (edge_at graph edge).tail vertex kept.1;
    }

pub in-edges_between : (graph : Graph) (allowed : List Bool) (vertex colour edge : ℕ)
    → IsBetween graph allowed vertex colour edge → IsIn edge (edges_between graph allowed vertex colour)
in-edges_between graph allowed vertex colour edge is =
    IsIn-filter (λ e. eqb (edge_at graph e).tail vertex) edge (edges_into graph allowed colour)
    (in-edges_into graph allowed colour edge is.into) (eq-eqb (edge_at graph edge).tail vertex is.tail)

-- colours beside the root's are fewer than vertices
pub colours-few : (graph : Graph) → HasColours graph.colours → colour_count graph < length graph.colours
colours-few graph has =
    let low = colour-le_vertex graph has (length graph.colours - 1) (omega (arith, has.some)) in
    omega (arith, low, has.some)

abbrev pub weight_at : Graph → ℕ → ℤ
weight_at graph edge = (edge_at graph edge).weight
