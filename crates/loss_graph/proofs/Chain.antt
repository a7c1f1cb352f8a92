-- Of vertices_of and peaks_of: vertices follow one another, colour by colour.
use Rattle.std.proofs.Common.{◌≡◌, ◌+◌, ◌-◌, ◌<◌, ◌≤◌, ◌∙◌, inl, inr, ℕ, zero, suc, Bool, true, false, cond, List, []}
use Rattle.std.proofs.Common.{◌∷◌, ◌++◌, length, map, refl, arith}
use Rattle.std.proofs.lemmas.Bool.{ltb-true}
use Rattle.std.specs.List.{AllByRecursion, enumerate_from, filter, flat_map, range_with_len}
use Rattle.element_table.specs.FormulaList.{FormulaListValue}
use Rattle.loss_graph.specs.Lists.{list_at}
use Rattle.loss_graph.specs.Vertices.{has_part, parts_in, peaks_of, vertex_at, vertex_in, vertices_of_colour}
use Rattle.loss_graph.specs.declared.vertex.Vertex.{Vertex}
use Rattle.loss_graph.specs.inside.Placed.{ComesBefore}

pub record Follows (before vertex : Vertex) : Type 0 where
  pub order : ComesBefore before vertex
  pub gap : vertex.colour ≤ before.colour + 1

-- each vertex follows the one before it, and a fact holds of each
abbrev pub IsChain : (Vertex → Type 0) → Vertex → List Vertex → Type 0
IsChain fact before [] = Unit {0}
IsChain fact before (vertex ∷ vertices) = Follows before vertex × fact vertex × IsChain fact vertex vertices

-- the numbers of lists that have a part, strictly rising after a number
abbrev pub AreColours : List ℕ → List FormulaListValue → ℕ → List ℕ → Type 0
AreColours root lists last [] = Unit {0}
AreColours root lists last (peak ∷ peaks) =
    (last < peak) × (peak < length lists) × (0 < length (parts_in root (list_at lists peak)))
    × AreColours root lists peak peaks

same_colour : (colour peak : ℕ) (one other : List ℕ) → Follows (vertex_in colour peak one) (vertex_in colour peak other)
same_colour colour peak one other = record { order = inl (refl, refl); gap = omega arith }

group_chain : (fact : Vertex → Type 0) (colour peak : ℕ) (parts : List (List ℕ)) (before : Vertex) (rest : List Vertex)
    → AllByRecursion (λ formula. fact (vertex_in colour peak formula)) parts
    → ((formula : List ℕ) → Follows before (vertex_in colour peak formula))
    → ((formula : List ℕ) → IsChain fact (vertex_in colour peak formula) rest) → 0 < length parts
    → IsChain fact before (map (vertex_in colour peak) parts ++ rest)
group_chain fact colour peak [] before rest facts follows after some = absurd (omega arith)
group_chain fact colour peak (formula ∷ []) before rest facts follows after some =
    (follows formula, facts.0, after formula)
group_chain fact colour peak (formula ∷ next ∷ parts) before rest facts follows after some = (
  follows formula,
  facts.0,
  group_chain fact colour peak (next ∷ parts) (vertex_in colour peak formula) rest facts.1
      (same_colour colour peak formula) after (omega arith),
)

pub chain_of : (root : List ℕ) (lists : List FormulaListValue) (fact : Vertex → Type 0)
    → ((colour peak : ℕ) → 0 < colour → 0 < peak → peak < length lists
    → AllByRecursion (λ formula. fact (vertex_in colour peak formula)) (parts_in root (list_at lists peak)))
    → (peaks : List ℕ) (colour : ℕ) (before : Vertex) → before.colour + 1 ≡ colour
    → AreColours root lists before.peak peaks
    → IsChain fact before (flat_map (vertices_of_colour root lists) (enumerate_from colour peaks))
chain_of root lists fact each [] colour before next are = tt
chain_of root lists fact each (peak ∷ peaks) colour before next are =
    group_chain fact colour peak (parts_in root (list_at lists peak)) before
    (flat_map (vertices_of_colour root lists) (enumerate_from (colour + 1) peaks))
    (each colour peak (omega arith) (omega (arith, are.0)) are.1)
    (λ formula. record { order = inr (are.0, omega arith); gap = omega arith })
    (λ formula. chain_of root lists fact each peaks (colour + 1) (vertex_in colour peak formula) refl are.3)
    are.2

ComesBefore-trans : (one middle later : Vertex) → ComesBefore one middle → ComesBefore middle later
    → ComesBefore one later
ComesBefore-trans one middle later (inl a) (inl b) = inl (a.0 ∙ b.0, a.1 ∙ b.1)
ComesBefore-trans one middle later (inl a) (inr b) = inr (omega (arith, a.0, b.0), omega (arith, a.1, b.1))
ComesBefore-trans one middle later (inr a) (inl b) = inr (omega (arith, a.0, b.0), omega (arith, a.1, b.1))
ComesBefore-trans one middle later (inr a) (inr b) = inr (omega (arith, a.0, b.0), omega (arith, a.1, b.1))

pub chain-fact : (fact : Vertex → Type 0) (before : Vertex) (vertices : List Vertex) → IsChain fact before vertices
    → (place : ℕ) → place < length vertices → fact (vertex_at vertices place)
chain-fact fact before [] chain place within = absurd (omega arith)
chain-fact fact before (vertex ∷ vertices) chain zero within = chain.1
chain-fact fact before (vertex ∷ vertices) chain (suc place) within =
    chain-fact fact vertex vertices chain.2 place (omega arith)

chain-first : (fact : Vertex → Type 0) (before : Vertex) (vertices : List Vertex) → IsChain fact before vertices
    → (place : ℕ) → place < length vertices
    → ComesBefore before (vertex_at vertices place)
chain-first fact before [] chain place within = absurd (omega arith)
chain-first fact before (vertex ∷ vertices) chain zero within = chain.0.order
chain-first fact before (vertex ∷ vertices) chain (suc place) within =
    ComesBefore-trans before vertex (vertex_at vertices place) chain.0.order
    (chain-first fact vertex vertices chain.2 place (omega arith))

pub chain-pairs : (fact : Vertex → Type 0) (before : Vertex) (vertices : List Vertex) → IsChain fact before vertices
    → (one later : ℕ) → one < later → later < length (before ∷ vertices)
    → ComesBefore (vertex_at (before ∷ vertices) one) (vertex_at (before ∷ vertices) later)
chain-pairs fact before vertices chain zero zero in_order within = absurd (omega arith)
chain-pairs fact before vertices chain zero (suc later) in_order within =
    chain-first fact before vertices chain later (omega arith)
chain-pairs fact before vertices chain (suc one) zero in_order within = absurd (omega arith)
chain-pairs fact before [] chain (suc one) (suc later) in_order within = absurd (omega arith)
chain-pairs fact before (vertex ∷ vertices) chain (suc one) (suc later) in_order within =
    chain-pairs fact vertex vertices chain.2 one later (omega arith) (omega arith)

pub chain-next : (fact : Vertex → Type 0) (before : Vertex) (vertices : List Vertex) → IsChain fact before vertices
    → (place : ℕ) → place < length vertices
    → (vertex_at vertices place).colour ≤ (vertex_at (before ∷ vertices) place).colour + 1
chain-next fact before [] chain place within = absurd (omega arith)
chain-next fact before (vertex ∷ vertices) chain zero within = chain.0.gap
chain-next fact before (vertex ∷ vertices) chain (suc place) within =
    chain-next fact vertex vertices chain.2 place (omega arith)

-- the lists that have a part rise
AreColours-range : (root : List ℕ) (lists : List FormulaListValue) (last from long : ℕ) → last < from
    → from + long ≤ length lists
    → AreColours root lists last (filter (λ number. has_part root (list_at lists number)) (range_with_len from long))
AreColours-range root lists last from zero below within = tt
AreColours-range root lists last from (suc long) below within =
    choose (has_part root (list_at lists from)) refl
    (AreColours-range root lists from (from + 1) long (omega arith) (omega arith))
    (AreColours-range root lists last (from + 1) long (omega arith) (omega arith))
  where
    choose : (has : Bool) → has_part root (list_at lists from) ≡ has
        → AreColours root lists from
        (filter (λ number. has_part root (list_at lists number)) (range_with_len (from + 1) long))
        → AreColours root lists last
        (filter (λ number. has_part root (list_at lists number)) (range_with_len (from + 1) long))
        → AreColours root lists last
        (cond (has_part root (list_at lists from))
        (from ∷ filter (λ number. has_part root (list_at lists number)) (range_with_len (from + 1) long))
        (filter (λ number. has_part root (list_at lists number)) (range_with_len (from + 1) long)))
    choose true is after other =
        rw is (below, omega arith, ltb-true 0 (length (parts_in root (list_at lists from))) is, after)
    choose false is after other = rw is other

pub AreColours-peaks : (root : List ℕ) (lists : List FormulaListValue) → 0 < length lists
    → AreColours root lists 0 (peaks_of root lists)
AreColours-peaks root lists some = AreColours-range root lists 0 1 (length lists - 1) (omega arith) (omega arith)

-- the last colour is the number of colours
last_colour : (fact : Vertex → Type 0) (colour peak : ℕ) (parts : List (List ℕ)) (before : Vertex) (rest : List Vertex)
    (last : ℕ) → 0 < length parts
    → ((formula : List ℕ) → (vertex_at (vertex_in colour peak formula ∷ rest) (length rest)).colour ≡ last)
    → (vertex_at (before ∷ (map (vertex_in colour peak) parts ++ rest))
    (length (map (vertex_in colour peak) parts ++ rest))).colour ≡ last
last_colour fact colour peak [] before rest last some after = absurd (omega arith)
last_colour fact colour peak (formula ∷ []) before rest last some after = after formula
last_colour fact colour peak (formula ∷ next ∷ parts) before rest last some after =
    last_colour fact colour peak (next ∷ parts) (vertex_in colour peak formula) rest last (omega arith) after

pub last_of : (root : List ℕ) (lists : List FormulaListValue) (fact : Vertex → Type 0) (peaks : List ℕ) (colour : ℕ)
    (before : Vertex) → before.colour + 1 ≡ colour → AreColours root lists before.peak peaks
    → (vertex_at (before ∷ flat_map (vertices_of_colour root lists) (enumerate_from colour peaks))
    (length (flat_map (vertices_of_colour root lists) (enumerate_from colour peaks)))).colour + 1
    ≡ colour + length peaks
last_of root lists fact [] colour before next are = omega arith
last_of root lists fact (peak ∷ peaks) colour before next are =
    omega (
      arith,
      last_colour fact colour peak (parts_in root (list_at lists peak)) before
          (flat_map (vertices_of_colour root lists) (enumerate_from (colour + 1) peaks))
          (colour + length peaks) are.2
          (λ formula. omega (
            arith,
            last_of root lists fact peaks (colour + 1) (vertex_in colour peak formula) refl
                are.3,
          )),
    )
