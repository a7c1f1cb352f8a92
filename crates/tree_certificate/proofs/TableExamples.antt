-- A worked example, computed: the table of a graph with one edge.
use Rattle.std.proofs.Common.{◌≡◌, ◌+◌, ◌<◌, ℕ, zero, suc, ℤ, pos, ◌+ℤ◌, ◌≤ℤ◌, Bool, true, List, [], ◌∷◌, length, refl}
use Rattle.std.proofs.Common.{arith}
use Rattle.std.proofs.lemmas.Int.{ints}
use Rattle.colour_graph.specs.Graph.{Graph, edge_at, head_colour}
use Rattle.tree_certificate.specs.CertHolds.{CertHolds}
use Rattle.tree_certificate.specs.ColourSet.{IsPartOf, without}
use Rattle.tree_certificate.specs.TableHolds.{HasRow, IsHighAt, IsHighEnough, TableHolds, number_of, place_in}
use Rattle.tree_certificate.specs.TableHolds.{row_length, table_total}
use Rattle.tree_certificate.specs.Value.{a_table}

-- an edge of weight 52 from the root to a vertex of colour 1
abbrev one_edge : Graph
one_edge = record {
  root_score = pos 10;
  colours = 0 ∷ 1 ∷ [];
  edges = record { tail = 0; head = 1; weight = pos 52 } ∷ [];
}

abbrev rows : ℤ → List (List ℤ)
rows number = (pos 0 ∷ number ∷ []) ∷ (pos 0 ∷ []) ∷ []

HasRow-one_edge : (vertex : ℕ) → vertex < 2 → HasRow one_edge (rows (pos 52)) vertex
HasRow-one_edge zero within = (omega arith, refl)
HasRow-one_edge (suc zero) within = (omega arith, refl)
HasRow-one_edge (suc (suc vertex)) within = absurd (omega arith)

-- the root's number for colour 1
IsHighEnough-one_edge : IsHighEnough one_edge (rows (pos 52)) 0 [] (pos 52)
IsHighEnough-one_edge = record { left_out = omega (arith, ints); taken = taken }
  where
    taken : (edge : ℕ) → edge < 1 → (edge_at one_edge edge).tail ≡ 0 → head_colour one_edge edge + 0 ≡ 1
        → (part : List Bool) → IsPartOf part []
        → (((edge_at one_edge edge).weight +ℤ number_of one_edge (rows (pos 52)) (edge_at one_edge edge).head part) +ℤ
        number_of one_edge (rows (pos 52)) 0 (without [] part)) ≤ℤ pos 52
    taken zero within at_tail at_head [] is_part = omega (arith, ints)
    taken zero within at_tail at_head (here ∷ part) is_part = absurd is_part
    taken (suc edge) within at_tail at_head part is_part = absurd (omega arith)

high-root : (set : List Bool) → 0 + length set < 1 → place_in one_edge 0 (true ∷ set) ≡ 1
    → IsHighEnough one_edge (rows (pos 52)) 0 set (pos 52)
high-root [] room at = IsHighEnough-one_edge
high-root (here ∷ set) room at = absurd (omega arith)

not_at_first : (set : List Bool) → 0 + length set < 1 → place_in one_edge 0 (true ∷ set) ≡ 0 → ⊥
not_at_first [] room at = absurd (omega (arith, at))
not_at_first (here ∷ set) room at = absurd (omega arith)

IsHighAt-one_edge : (vertex place : ℕ) → vertex < 2 → place < row_length one_edge vertex
    → IsHighAt one_edge (rows (pos 52)) vertex place
IsHighAt-one_edge zero zero within in_row = record {
  empty = λ at. omega (arith, ints);
  high =
      λ set room at. absurd (not_at_first set room at);
}
IsHighAt-one_edge zero (suc zero) within in_row = record { empty = λ at. absurd (omega (arith, at)); high = high-root }
IsHighAt-one_edge zero (suc (suc place)) within in_row = absurd (omega arith)
IsHighAt-one_edge (suc zero) zero within in_row = record {
  empty = λ at. omega (arith, ints);
  high =
      λ set room at. absurd (omega (arith, room));
}
IsHighAt-one_edge (suc zero) (suc place) within in_row = absurd (omega arith)
IsHighAt-one_edge (suc (suc vertex)) place within in_row = absurd (omega arith)

TableHolds-one_edge : TableHolds one_edge (rows (pos 52)) (pos 62)
TableHolds-one_edge = record {
  fits = record { colours = omega arith; count = refl; each = HasRow-one_edge };
  high = IsHighAt-one_edge;
  total = omega (arith, ints);
}

-- the best tree is the edge, with a score of 62
CertHolds-one_edge : CertHolds one_edge (a_table (rows (pos 52))) (pos 62)
CertHolds-one_edge = TableHolds-one_edge

total_is : table_total one_edge (rows (pos 52)) ≡ pos 62
total_is = refl

not_for_less : CertHolds one_edge (a_table (rows (pos 52))) (pos 61) → ⊥
not_for_less holds = absurd (omega (arith, ints, holds.total))

-- a number that is too low for the edge
too_low : (upper : ℤ) → CertHolds one_edge (a_table (rows (pos 51))) upper → ⊥
too_low upper holds = absurd (omega (
  arith,
  ints,
  ((holds.high 0 1 (omega arith) (omega arith)).high [] (omega arith)
      refl).taken 0 (omega arith) refl refl [] tt,
))
