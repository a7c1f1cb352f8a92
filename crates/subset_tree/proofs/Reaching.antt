-- What edges and parts of sets reach in a table of exact numbers.
use Rattle.std.proofs.Common.{◌≡◌, ◌+◌, ◌-◌, ◌*◌, ◌<◌, ℕ, suc, ℤ, pos, ◌+ℤ◌, ◌-ℤ◌, ◌≤ℤ◌, ◌<ℤ◌, Bool, true, List, ◌∷◌}
use Rattle.std.proofs.Common.{length, ap, ap₂, sym, subst, ◌∙◌, arith}
use Rattle.std.proofs.lemmas.Int.{by_lt_z, ints}
use Rattle.colour_graph.specs.declared.edge.Edge.{Edge}
use Rattle.colour_graph.specs.Graph.{Graph, IsEdge, colour_count, colour_of, edge_at, head_colour}
use Rattle.tree_certificate.specs.ColourSet.{IsPartOf, place_of, without}
use Rattle.tree_certificate.specs.TableHolds.{IsHighEnough, number_of}
use Rattle.subset_tree.specs.inside.Exact.{IsExact}
use Rattle.subset_tree.specs.inside.Rebuilding.{IsMissed, sum_with}
use Rattle.subset_tree.proofs.Places.{length-without, place-without}

-- what a read of the number of a vertex for a place says
abbrev pub IsNumberAt : Graph → List (List ℤ) → ℕ → ℕ → ℕ → ℤ → Type 0
IsNumberAt graph rows vertex colour place number =
    (set : List Bool) → place_of set ≡ place → colour + length set ≡ colour_count graph
    → number ≡ number_of graph rows vertex set

-- The sum that is read is that of the edge and the part.
pub sum_is : (graph : Graph) (rows : List (List ℤ)) (edge : ℕ) (there : Edge) (colour rest place : ℕ)
    (set part : List Bool) (below beside : ℤ) → there ≡ edge_at graph edge
    → IsNumberAt graph rows there.head colour place below
    → IsNumberAt graph rows there.tail colour (rest - place) beside
    → place_of set ≡ rest → colour + length set ≡ colour_count graph → IsPartOf part set → length part ≡ length set
    → place_of part ≡ place
    → ((there.weight +ℤ below) +ℤ beside) ≡ sum_with graph rows set edge part
sum_is graph rows edge there colour rest place set part below beside is at_head at_tail at long is_part part_long
    part_at =
    subst IsSum is
    (ap₂ (λ (a b : ℤ). (there.weight +ℤ a) +ℤ b) (at_head part part_at (ap (λ n. colour + n) part_long ∙ long))
    (at_tail (without set part) (left (place_of (without set part)) (place_of part) (place_of set) place rest
    (place-without part set is_part) part_at at)
    (ap (λ n. colour + n) (length-without part set is_part) ∙ long)))
  where
    IsSum : Edge → Type 0
    IsSum e = ((there.weight +ℤ below) +ℤ beside)
        ≡ ((e.weight +ℤ number_of graph rows e.head part) +ℤ number_of graph rows e.tail (without set part))

    left : (others own all place rest : ℕ) → others + own ≡ all → own ≡ place → all ≡ rest → others ≡ rest - place
    left others own all place rest sum own_is all_is = omega arith

-- The number that is read is the tail's for the edge's colour and the set.
pub number_is : (graph : Graph) (rows : List (List ℤ)) (edge : ℕ) (there : Edge) (colour rest : ℕ) (set : List Bool)
    (number : ℤ) → there ≡ edge_at graph edge → 0 < colour
    → IsNumberAt graph rows there.tail (colour - 1) (1 + 2 * rest) number → place_of set ≡ rest
    → colour + length set ≡ colour_count graph
    → number ≡ number_of graph rows (edge_at graph edge).tail (true ∷ set)
number_is graph rows edge there colour rest set number is some at_tail at long =
    at_tail (true ∷ set) (ap (λ n. 1 + 2 * n) at) (before colour (length set) (colour_count graph) some long)
    ∙ ap (λ (e : Edge). number_of graph rows e.tail (true ∷ set)) is
  where
    before : (colour size count : ℕ) → 0 < colour → colour + size ≡ count → (colour - 1) + suc size ≡ count
    before colour size count some long = omega arith

-- An edge goes to no root.
pub some_colour : (graph : Graph) (edge colour : ℕ) (there : Edge) → there ≡ edge_at graph edge → IsEdge graph there
    → head_colour graph edge ≡ colour → 0 < colour
some_colour graph edge colour there is is_edge same =
    let heads : colour_of graph there.head ≡ head_colour graph edge = ap (λ (e : Edge). colour_of graph e.head) is in
    omega (arith, is_edge.rising, heads, same)

less : (a b : ℤ) → a ≤ℤ b → (a ≡ b → ⊥) → a ≤ℤ (b -ℤ pos 1)
less a b most apart = by_lt_z a b (λ lower. below a b lower) (λ higher. absurd (apart (same a b most higher)))
  where
    below : (a b : ℤ) → a <ℤ b → a ≤ℤ (b -ℤ pos 1)
    below a b lower = omega (arith, ints)

    same : (a b : ℤ) → a ≤ℤ b → b ≤ℤ a → a ≡ b
    same a b one other = omega (arith, ints)

refl-le : (a : ℤ) → a ≤ℤ a
refl-le a = omega (arith, ints)

not_less : (a : ℤ) → a ≤ℤ (a -ℤ pos 1) → ⊥
not_less a most = omega (arith, ints)

-- An exact number is reached: without its least colour, or by an edge into it.
pub one_reaches : (graph : Graph) (rows : List (List ℤ)) (vertex : ℕ) (set : List Bool) → IsExact graph rows
    → vertex < length graph.colours → colour_of graph vertex + length set < colour_count graph
    → (number_of graph rows vertex set ≡ number_of graph rows vertex (true ∷ set) → ⊥)
    → ((edge : ℕ) → edge < length graph.edges → (edge_at graph edge).tail ≡ vertex
    → head_colour graph edge + length set ≡ colour_count graph → IsMissed graph rows set edge) → ⊥
one_reaches graph rows vertex set exact within room not_left_out missed =
    not_less number ((exact.exact vertex set within room (number -ℤ pos 1)).1 (record {
      left_out = less (number_of graph rows vertex set) number high.left_out not_left_out;
      taken = λ edge inside tail head part is_part.
          less (sum_at edge part) number (high.taken edge inside tail head part is_part)
          (λ reached. missed edge inside tail head part is_part
          (ap (λ v. ((edge_at graph edge).weight +ℤ number_of graph rows (edge_at graph edge).head part) +ℤ number_of
          graph rows v (without set part)) tail
          ∙ reached ∙ ap (λ v. number_of graph rows v (true ∷ set)) (sym tail)));
    }))
  where
    number : ℤ
    number = number_of graph rows vertex (true ∷ set)

    high : IsHighEnough graph rows vertex set number
    high = (exact.exact vertex set within room number).0 (refl-le number)

    sum_at : ℕ → List Bool → ℤ
    sum_at edge part = ((edge_at graph edge).weight +ℤ number_of graph rows (edge_at graph edge).head part) +ℤ number_of
        graph rows vertex (without set part)

pub before_more : (colour size count : ℕ) → 0 < colour → colour + size ≡ count → (colour - 1) + suc size ≡ count
before_more colour size count some long = omega arith

-- an edge's colour, by what stands behind it
pub colour_behind : (graph : Graph) (edge colour size : ℕ) → head_colour graph edge + size ≡ colour_count graph
    → colour + size ≡ colour_count graph → head_colour graph edge ≡ colour
colour_behind graph edge colour size one other = omega arith
