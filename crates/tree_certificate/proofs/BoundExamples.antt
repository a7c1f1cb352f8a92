-- Worked examples, computed: prices and a split of a graph with a trap, where the heaviest edge from the root, of
-- weight
-- 5, is not in the best tree, which has a score of 7.
use Rattle.std.proofs.Common.{◌≡◌, ◌<◌, ℕ, zero, suc, ℤ, pos, negsuc, ◌≤ℤ◌, Bool, true, false, List, [], ◌∷◌, refl}
use Rattle.std.proofs.Common.{arith}
use Rattle.std.proofs.lemmas.Int.{ints}
use Rattle.std.specs.List.{All, AllPairs, Contains}
use Rattle.colour_graph.specs.declared.edge.Edge.{Edge}
use Rattle.colour_graph.specs.EdgeSet.{all_edges, edges_into, leaving, only}
use Rattle.colour_graph.specs.Graph.{Graph}
use Rattle.tree_certificate.specs.BoundHolds.{BoundHolds, IsDecided, IsSplit, depth_of, splits_of}
use Rattle.tree_certificate.specs.BoundValue.{BoundValue, PriceValue, priced, split}
use Rattle.tree_certificate.specs.PriceHolds.{AreNotNegative, FitsPrices, PriceHolds, gain_of, needed_of, potential_of}
use Rattle.tree_certificate.specs.PriceHolds.{price_total}

abbrev joining : ℕ → ℕ → ℤ → Edge
joining tail head weight = record { tail = tail; head = head; weight = weight }

-- vertices 1 and 2 of colour 1, vertex 3 of colour 2
abbrev trap : Graph
trap = record {
  root_score = pos 0;
  colours = 0 ∷ 1 ∷ 1 ∷ 2 ∷ [];
  edges = joining 0 1 (pos 5) ∷ joining 0 2 (pos 4) ∷ joining 0 3 (pos 1) ∷ joining 1 3 (negsuc 0) ∷ joining 2 3
      (pos 3) ∷ [];
}

-- prices of both colours, and potentials of the root and vertex 2: the others, which gain nothing, have 0
abbrev costing : ℕ → ℕ → ℕ → ℕ → PriceValue
costing one two of_root of_second =
    record { prices = pos one ∷ pos two ∷ []; potentials = pos of_root ∷ pos 0 ∷ pos of_second ∷ pos 0 ∷ [] }

as_many : {one two of_root of_second : ℕ} → FitsPrices trap (costing one two of_root of_second)
as_many = record { price_count = refl; potential_count = refl }

not_below_0 : (one two of_root of_second : ℕ) → AreNotNegative (costing one two of_root of_second).prices
not_below_0 one two of_root of_second zero d within = omega (arith, ints)
not_below_0 one two of_root of_second (suc zero) d within = omega (arith, ints)
not_below_0 one two of_root of_second (suc (suc colour)) d within = absurd (omega arith)

-- Prices of 4 and 3 and no potentials hold where the heaviest edge is left out: nothing gains.
abbrev without_heaviest : List Bool
without_heaviest = false ∷ true ∷ true ∷ true ∷ true ∷ []

no_potentials : (vertex : ℕ) → vertex < 4 → needed_of trap without_heaviest (costing 4 3 0 0) vertex ≤ℤ potential_of
    (costing 4 3 0 0) vertex
no_potentials zero within = omega (arith, ints)
no_potentials (suc zero) within = omega (arith, ints)
no_potentials (suc (suc zero)) within = omega (arith, ints)
no_potentials (suc (suc (suc zero))) within = omega (arith, ints)
no_potentials (suc (suc (suc (suc vertex)))) within = absurd (omega arith)

PriceHolds-without_heaviest : PriceHolds trap without_heaviest (costing 4 3 0 0)
PriceHolds-without_heaviest =
    record { fits = as_many; prices = not_below_0 4 3 0 0; potentials = no_potentials }

price_total-without_heaviest : price_total trap (costing 4 3 0 0) ≡ pos 7
price_total-without_heaviest = refl

-- On all edges they do not: the heaviest gains 1.
needed_of-all : needed_of trap (all_edges trap) (costing 4 3 0 0) 0 ≡ pos 1
needed_of-all = refl

not_on_all : PriceHolds trap (all_edges trap) (costing 4 3 0 0) → ⊥
not_on_all holds = absurd (omega (arith, ints, holds.potentials 0 (omega arith)))

-- Prices of 0 and 1 hold on all edges with potentials of 6 for the root and 2 for vertex 2, and say 7.
gain_of-root : gain_of trap (all_edges trap) (costing 0 1 6 2) 0 1 ≡ pos 6
gain_of-root = refl

gain_of-lost : gain_of trap (all_edges trap) (costing 0 1 6 2) 1 2 ≡ pos 0
gain_of-lost = refl

potentials_of_all : (vertex : ℕ) → vertex < 4 → needed_of trap (all_edges trap) (costing 0 1 6 2) vertex ≤ℤ potential_of
    (costing 0 1 6 2) vertex
potentials_of_all zero within = omega (arith, ints)
potentials_of_all (suc zero) within = omega (arith, ints)
potentials_of_all (suc (suc zero)) within = omega (arith, ints)
potentials_of_all (suc (suc (suc zero))) within = omega (arith, ints)
potentials_of_all (suc (suc (suc (suc vertex)))) within = absurd (omega arith)

PriceHolds-all : PriceHolds trap (all_edges trap) (costing 0 1 6 2)
PriceHolds-all = record { fits = as_many; prices = not_below_0 0 1 6 2; potentials = potentials_of_all }

BoundHolds-all : BoundHolds trap (all_edges trap) (priced (costing 0 1 6 2)) (pos 7)
BoundHolds-all = (PriceHolds-all, omega (arith, ints))

price_total-all : price_total trap (costing 0 1 6 2) ≡ pos 7
price_total-all = refl

not_for_less : BoundHolds trap (all_edges trap) (priced (costing 0 1 6 2)) (pos 6) → ⊥
not_for_less holds = absurd (omega (arith, ints, holds.1))

-- With no prices the root needs 8 and vertex 2 needs 3.
needed_of-root : needed_of trap (all_edges trap) (costing 0 0 8 3) 0 ≡ pos 8
needed_of-root = refl

needed_of-second : needed_of trap (all_edges trap) (costing 0 0 8 3) 2 ≡ pos 3
needed_of-second = refl

too_low : (second : ℕ) → second < 3 → (of_root : ℕ) → PriceHolds trap (all_edges trap) (costing 0 0 of_root second) → ⊥
too_low second low of_root holds = absurd (omega (arith, ints, low, holds.potentials 2 (omega arith)))

-- A split by the edge to vertex 2: on its side the prices of 4 and 3 hold, and without it potentials of 6 and 3.
abbrev sides : BoundValue
sides = split 1 (1 ∷ []) (priced (costing 4 3 0 0)) (priced (costing 0 0 6 3))

only-second : only trap (all_edges trap) 1 (1 ∷ []) ≡ without_heaviest
only-second = refl

abbrev without_second : List Bool
without_second = true ∷ false ∷ true ∷ true ∷ true ∷ []

leaving-second : leaving (all_edges trap) (1 ∷ []) ≡ without_second
leaving-second = refl

splits_of-sides : splits_of sides ≡ 1
splits_of-sides = refl

depth_of-sides : depth_of sides ≡ 1
depth_of-sides = refl

edges_into-first : edges_into trap (all_edges trap) 1 ≡ 0 ∷ 1 ∷ []
edges_into-first = refl

rising-second : AllPairs (λ first later. first < later) (1 ∷ [])
rising-second first zero d before within = absurd (omega arith)
rising-second first (suc later) d before within = absurd (omega arith)

members-second : All (λ edge. Contains (edges_into trap (all_edges trap) 1) edge) (1 ∷ [])
members-second zero d within = (1, omega arith, refl)
members-second (suc place) d within = absurd (omega arith)

IsSplit-second : IsSplit trap (all_edges trap) 1 (1 ∷ [])
IsSplit-second = record {
  among = (omega arith, omega arith);
  rising = rising-second;
  members = members-second;
  some = omega arith;
  proper = omega arith;
}

potentials_of_rest : (vertex : ℕ) → vertex < 4 → needed_of trap without_second (costing 0 0 6 3) vertex ≤ℤ potential_of
    (costing 0 0 6 3) vertex
potentials_of_rest zero within = omega (arith, ints)
potentials_of_rest (suc zero) within = omega (arith, ints)
potentials_of_rest (suc (suc zero)) within = omega (arith, ints)
potentials_of_rest (suc (suc (suc zero))) within = omega (arith, ints)
potentials_of_rest (suc (suc (suc (suc vertex)))) within = absurd (omega arith)

PriceHolds-without_second : PriceHolds trap without_second (costing 0 0 6 3)
PriceHolds-without_second =
    record { fits = as_many; prices = not_below_0 0 0 6 3; potentials = potentials_of_rest }

BoundHolds-sides : BoundHolds trap (all_edges trap) sides (pos 7)
BoundHolds-sides = (
  IsSplit-second,
  (PriceHolds-without_heaviest, omega (arith, ints)),
  (PriceHolds-without_second, omega (arith, ints)),
)

-- All edges into a colour are no part of a split, and neither is none of them.
all_named : IsSplit trap (all_edges trap) 1 (0 ∷ 1 ∷ []) → ⊥
all_named is = absurd (omega (arith, is.proper))

none_named : (allowed : List Bool) (colour : ℕ) → IsSplit trap allowed colour [] → ⊥
none_named allowed colour is = absurd (omega (arith, is.some))

-- One edge into each colour decides a set; three into colour 2 do not.
IsDecided-one_each : IsDecided trap (false ∷ true ∷ false ∷ false ∷ true ∷ [])
IsDecided-one_each zero some within = absurd (omega arith)
IsDecided-one_each (suc zero) some within = omega arith
IsDecided-one_each (suc (suc zero)) some within = omega arith
IsDecided-one_each (suc (suc (suc colour))) some within = absurd (omega arith)

not_decided : IsDecided trap without_heaviest → ⊥
not_decided decided = absurd (omega (arith, decided 2 (omega arith) (omega arith)))
