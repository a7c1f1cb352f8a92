-- Of Stands: a bound whose splits are halves is not deep. Each colour has a number of halvings that leave one edge.
use Rattle.std.proofs.Common.{◌≡◌, ◌⊎◌, inl, inr, ◌<◌, ◌≤◌, ◌+◌, ◌-◌, ◌*◌, ◌^◌, ℕ, zero, suc, ℤ, Bool, List, [], ◌∷◌}
use Rattle.std.proofs.Common.{length}
use Rattle.std.proofs.Common.{get_or, max, pow-suc, replicate, set, ap, sym, subst, ◌∙◌, arith}
use Rattle.std.proofs.lemmas.Bool.{cases_eq}
use Rattle.std.proofs.lemmas.List.{get_or-set_other, get_or-set_same, length-set}
use Rattle.colour_graph.specs.EdgeSet.{edges_into, leaving, only}
use Rattle.colour_graph.specs.Graph.{Graph, colour_count}
use Rattle.tree_certificate.specs.BoundHolds.{IsSplit, depth_of}
use Rattle.branch_search.specs.inside.Growing.{Grown, IsHalf, Stands, bound_in, fork, leaf}
use Rattle.branch_search.proofs.Sides.{edges_into-less, sides-count, split-only}
use Rattle.branch_search.proofs.Smaller.{IsSmaller, leaving-smaller, only-smaller}

abbrev pub levels : List ℕ → ℕ
levels [] = 0
levels (n ∷ ns) = n + levels ns

levels-set : (ns : List ℕ) (place less : ℕ) → place < length ns → get_or ns place 0 ≡ suc less
    → levels (set ns place less) + 1 ≡ levels ns
levels-set [] place less within is = absurd (omega arith)
levels-set (n ∷ ns) zero less within is = omega (arith, is)
levels-set (n ∷ ns) (suc place) less within is =
    let rest = levels-set ns place less (omega arith) is in omega (arith, rest)

pub levels-replicate : (count n : ℕ) → levels (replicate count n) ≡ count * n
levels-replicate zero n = omega arith
levels-replicate (suc count) n = let rest = levels-replicate count n in omega (arith, rest)

-- each colour has so many halvings
pub record HasRoom (graph : Graph) (allowed : List Bool) (halvings : List ℕ) : Type 0 where
  pub count : length halvings ≡ colour_count graph
  pub each : (colour : ℕ) → 1 ≤ colour → colour ≤ colour_count graph
      → length (edges_into graph allowed colour) ≤ 2 ^ get_or halvings (colour - 1) 0

-- a side of a split by half, with one halving less for its colour
room-side : (graph : Graph) (allowed smaller : List Bool) (halvings : List ℕ) (colour less : ℕ)
    → (1 ≤ colour) × (colour ≤ colour_count graph) → IsSmaller smaller allowed → HasRoom graph allowed halvings
    → length (edges_into graph smaller colour) ≤ 2 ^ less
    → HasRoom graph smaller (set halvings (colour - 1) less)
room-side graph allowed smaller halvings colour less among smaller-is room low = record {
  count = length-set halvings (colour - 1) less ∙ room.count;
  each = each;
}
  where
    inside : colour - 1 < length halvings
    inside = omega (arith, among.0, among.1, room.count)

    each : (other : ℕ) → 1 ≤ other → other ≤ colour_count graph
        → length (edges_into graph smaller other) ≤ 2 ^ get_or (set halvings (colour - 1) less) (other - 1) 0
    each other some counted = choose (cases_eq other colour)
      where
        choose : (other ≡ colour) ⊎ (other ≡ colour → ⊥)
            → length (edges_into graph smaller other) ≤ 2 ^ get_or (set halvings (colour - 1) less) (other - 1) 0
        choose (inl same) =
            subst (λ (c : ℕ). length (edges_into graph smaller c)
            ≤ 2 ^ get_or (set halvings (colour - 1) less) (c - 1) 0) (sym same)
            (subst (λ (n : ℕ). length (edges_into graph smaller colour) ≤ 2 ^ n)
            (sym (get_or-set_same halvings (colour - 1) less 0 inside)) low)
        choose (inr apart) =
            let most = room.each other some counted in
            let fewer = edges_into-less graph allowed smaller other smaller-is in
            subst (λ (n : ℕ). length (edges_into graph smaller other) ≤ 2 ^ n)
            (sym (get_or-set_other halvings (colour - 1) (other - 1) less 0
            (λ same. apart (omega (arith, same, some, among.0)))))
            (omega (arith, most, fewer))

-- a number of halvings that is not 0
has-one : (n halvings : ℕ) → 2 ≤ n → n ≤ 2 ^ halvings → (less : ℕ) × (halvings ≡ suc less)
has-one n zero many low = absurd (omega (arith, many, low))
has-one n (suc less) many low = (less, omega arith)

doubled : (n halvings less : ℕ) → halvings ≡ suc less → n ≤ 2 ^ halvings → n ≤ 2 * 2 ^ less
doubled n halvings less is low =
    let power = ap (λ m. 2 ^ m) is ∙ pow-suc 2 less in
    omega (arith, low, power)

pub depth-grown : (graph : Graph) (allowed : List Bool) (score upper : ℤ) (node : Grown) (halvings : List ℕ)
    → Stands graph allowed score upper node → HasRoom graph allowed halvings
    → depth_of (bound_in node) ≤ levels halvings
depth-grown graph allowed score upper (leaf cert total) halvings is room = omega arith
depth-grown graph allowed score upper (fork total colour part first second) halvings is room =
    let one = depth-grown graph (only graph allowed colour part) score upper first
    (set halvings (colour - 1) less) is.3
    (room-side graph allowed (only graph allowed colour part) halvings colour less split.among
    (only-smaller graph allowed colour part) room first-low) in
    let other = depth-grown graph (leaving allowed part) score upper second (set halvings (colour - 1) less) is.4
    (room-side graph allowed (leaving allowed part) halvings colour less split.among
    (leaving-smaller allowed part) room second-low) in
    let fall = levels-set halvings (colour - 1) less (omega (arith, split.among.0, split.among.1, room.count)) same in
    deeper (depth_of (bound_in first)) (depth_of (bound_in second)) (levels (set halvings (colour - 1) less))
    (levels halvings) one other fall
  where
    half : IsHalf graph allowed colour part
    half = is.0

    split : IsSplit graph allowed colour part
    split = half.is_split

    found : (less : ℕ) × (get_or halvings (colour - 1) 0 ≡ suc less)
    found = has-one (length (edges_into graph allowed colour)) (get_or halvings (colour - 1) 0)
        (omega (arith, split.some, split.proper)) (room.each colour split.among.0 split.among.1)

    less : ℕ
    less = found.0

    same : get_or halvings (colour - 1) 0 ≡ suc less
    same = found.1

    most : length (edges_into graph allowed colour) ≤ 2 * 2 ^ less
    most = doubled (length (edges_into graph allowed colour)) (get_or halvings (colour - 1) 0) less same
        (room.each colour split.among.0 split.among.1)

    first-low : length (edges_into graph (only graph allowed colour part) colour) ≤ 2 ^ less
    first-low = omega (arith, split-only graph allowed colour part split, half.first, most)

    second-low : length (edges_into graph (leaving allowed part) colour) ≤ 2 ^ less
    second-low =
        omega (
          arith,
          split-only graph allowed colour part split,
          sides-count graph allowed colour part,
          half.second,
          most,
        )

    deeper : (a b c d : ℕ) → a ≤ c → b ≤ c → c + 1 ≡ d → 1 + max a b ≤ d
    deeper a b c d one other fall = omega (arith, one, other, fall)
