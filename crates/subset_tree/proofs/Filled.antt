-- A row that is filled colour after colour, and a table that is filled row after row.
use Rattle.std.proofs.Common.{◌≡◌, ◌≢◌, ◌⊎◌, inl, inr, ◌+◌, ◌-◌, ◌*◌, ◌^◌, ◌<◌, ◌≤◌, ◌↔◌, ℕ, zero, suc, ℤ, pos, negsuc}
use Rattle.std.proofs.Common.{◌+ℤ◌, ◌-ℤ◌, ◌≤ℤ◌, Bool, true, List, [], ◌∷◌, length, map, get_or, replicate, ap, sym}
use Rattle.std.proofs.Common.{refl, ◌∙◌, arith, pow-suc, pow_pos, mul-zero, get_or-set_other, get_or-set_same}
use Rattle.std.proofs.Common.{slice_set}
use Rattle.std.specs.List.{list_all}
use Rattle.std.proofs.Math.ListN.{length-set}
use Rattle.std.proofs.Math.Nat.{mul-lt-mul_of_pos_left}
use Rattle.std.proofs.lemmas.Bool.{cases_eq, cases_lt, le-leb}
use Rattle.std.proofs.lemmas.Int.{ints}
use Rattle.std.proofs.lemmas.Nat.{pow-add}
use Rattle.colour_graph.specs.Graph.{Graph, IsGraph, colour_count, colour_of, edge_at, head_colour}
use Rattle.tree_certificate.specs.ColourSet.{IsPartOf, place_of, without}
use Rattle.tree_certificate.specs.Number.{AreNumbers, greatest_number, is_near, number_in}
use Rattle.tree_certificate.specs.TableHolds.{HasRow, IsHighEnough, number_of, row_at}
use Rattle.subset_tree.specs.inside.Exact.{IsExact}
use Rattle.tree_certificate.specs.Enough.{IsEnough}
use Rattle.subset_tree.specs.inside.Filling.{AreFilledFrom, AreGainsBefore, AreModest, IsFilledTo, IsHighTo}
use Rattle.subset_tree.specs.inside.Filling.{number_to}
use Rattle.subset_tree.proofs.Gaining.{edge-rises}
use Rattle.tree_certificate.proofs.SetParts.{length-part, length-without, place-lt, place-without, powers-le}

zero_in : (n place : ℕ) → get_or (replicate n (pos 0)) place (pos 0) ≡ pos 0
zero_in zero place = refl
zero_in (suc n) zero = refl
zero_in (suc n) (suc place) = zero_in n place

-- before the first colour
pub filled-none : (graph : Graph) (rows : List (List ℤ)) (vertex n : ℕ) (numbers : List ℤ)
    → numbers ≡ replicate n (pos 0) → IsFilledTo graph rows vertex 0 numbers
filled-none graph rows vertex n numbers is = record {
  modest = record {
    not_below = λ place. low (number_in numbers place) (none place);
    not_above = λ place. high (number_in numbers place) place (none place);
  };
  exact = λ set none'. absurd (omega arith);
}
  where
    none : (place : ℕ) → number_in numbers place ≡ pos 0
    none place = rw is (zero_in n place)

    low : (z : ℤ) → z ≡ pos 0 → pos 0 ≤ℤ z
    low z is = omega (arith, ints)

    high : (z : ℤ) (place : ℕ) → z ≡ pos 0 → z ≤ℤ pos (100000 * place)
    high z place is = omega (arith, ints)

-- Numbers that agree are enough alike.
IsHighTo-same : (graph : Graph) (rows : List (List ℤ)) (vertex size other_size : ℕ) (numbers other : List ℤ)
    (set : List Bool) (candidate : ℤ)
    → ((s : List Bool) → length s ≡ length set → number_to size numbers s ≡ number_to other_size other s)
    → IsHighTo graph rows vertex size numbers set candidate → IsHighTo graph rows vertex other_size other set candidate
IsHighTo-same graph rows vertex size other_size numbers other set candidate same high = record {
  left_out = rw (← same set refl) high.left_out;
  taken = λ edge within tail into part is_part.
      rw (← same (without set part) (length-without set part is_part)) (high.taken edge within tail into part is_part);
}

-- one colour more
pub filled-more : (graph : Graph) (rows : List (List ℤ)) (vertex colour size : ℕ) (old new gains : List ℤ)
    → colour + size ≡ colour_count graph → colour_count graph ≤ 12
    → AreGainsBefore graph rows vertex colour (length graph.edges) gains
    → ((place : ℕ) → place < 2 ^ size → number_in new (2 * place) ≡ number_in old place)
    → ((set : List Bool) → place_of set < 2 ^ size → (candidate : ℤ)
    → (number_in new (1 + 2 * place_of set) ≤ℤ candidate) ↔ IsEnough old gains set candidate)
    → AreModest new → IsFilledTo graph rows vertex size old → IsFilledTo graph rows vertex (size + 1) new
filled-more graph rows vertex colour size old new gains counted few gained kept grown modest before =
    record { modest = modest; exact = exact }
  where
    -- the numbers of smaller sets stay
    same : (set : List Bool) → length set ≤ size → number_to (size + 1) new set ≡ number_to size old set
    same set within =
        ap (number_in new) (twice (size - length set) (size + 1 - length set) (place_of set)
        (one_more size (length set) within))
        ∙ kept (2 ^ (size - length set) * place_of set)
        (below (size - length set) (length set) size (place_of set) (place-lt set) (whole size (length set) within))
      where
        one_more : (size n : ℕ) → n ≤ size → size + 1 - n ≡ suc (size - n)
        one_more size n within = omega arith

        whole : (size n : ℕ) → n ≤ size → (size - n) + n ≡ size
        whole size n within = omega arith

        twice : (less more place : ℕ) → more ≡ suc less → 2 ^ more * place ≡ 2 * (2 ^ less * place)
        twice less more place is = rw (is, pow-suc 2 less) (omega arith)

        below : (less n size place : ℕ) → place < 2 ^ n → less + n ≡ size → 2 ^ less * place < 2 ^ size
        below less n size place low sum =
            let power : 2 ^ size ≡ 2 ^ less * 2 ^ n = ap (λ k. 2 ^ k) (sym sum) ∙ pow-add 2 less n in
            rw power (mul-lt-mul_of_pos_left low (pow_pos less))

    exact : (set : List Bool) → length set < size + 1 → (candidate : ℤ)
        → (number_to (size + 1) new (true ∷ set) ≤ℤ candidate) ↔ IsHighTo graph rows vertex (size + 1) new set candidate
    exact set within candidate = choose (cases_lt (length set) size)
      where
        choose : (length set < size) ⊎ (size ≤ length set)
            → (number_to (size + 1) new (true ∷ set) ≤ℤ candidate)
            ↔ IsHighTo graph rows vertex (size + 1) new set candidate
        choose (inl smaller) = (
          λ low. IsHighTo-same graph rows vertex size (size + 1) old new set candidate
              (λ s long. sym (same s (omega (arith, long, smaller))))
              ((before.exact set smaller candidate).0 (rw (same (true ∷ set) (omega (arith, smaller))) at low)),
          λ high. rw (same (true ∷ set) (omega (arith, smaller)))
              ((before.exact set smaller candidate).1
              (IsHighTo-same graph rows vertex (size + 1) size new old set candidate
              (λ s long. same s (omega (arith, long, smaller))) high)),
        )
        choose (inr not_smaller) = (λ low. to (rw there at low), λ high. rw there (from high))
          where
            long : length set ≡ size
            long = omega (arith, within, not_smaller)

            alone : (more place : ℕ) → more ≡ 0 → 2 ^ more * place ≡ place
            alone more place is = rw is (omega arith)

            there : number_to (size + 1) new (true ∷ set) ≡ number_in new (1 + 2 * place_of set)
            there = ap (number_in new) (alone (size + 1 - length (true ∷ set)) (1 + 2 * place_of set)
                (omega (arith, long)))

            here : (s : List Bool) → length s ≡ size → number_to (size + 1) new s ≡ number_in old (place_of s)
            here s s_long = same s (omega (arith, s_long))
                ∙ ap (number_in old) (alone (size - length s) (place_of s) (omega (arith, s_long)))

            place_below : place_of set < 2 ^ size
            place_below = rw (← long) (place-lt set)

            parted : (part : List Bool) → IsPartOf part set → colour + length part ≡ colour_count graph
            parted part is_part = let part_long = length-part set part is_part in
                omega (arith, part_long, long, counted)

            left : (part : List Bool) → IsPartOf part set
                → number_to (size + 1) new (without set part) ≡ number_in old (place_of (without set part))
            left part is_part = here (without set part) (length-without set part is_part ∙ long)

            into_colour : (other : ℕ) → other + length set ≡ colour_count graph → other ≡ colour
            into_colour other at = omega (arith, at, counted, long)

            moved : (gain number candidate : ℤ) → (gain +ℤ number) ≤ℤ candidate → gain ≤ℤ (candidate -ℤ number)
            moved gain number candidate is = omega (arith, ints)

            back : (gain number candidate : ℤ) → gain ≤ℤ (candidate -ℤ number) → (gain +ℤ number) ≤ℤ candidate
            back gain number candidate is = omega (arith, ints)

            few_places : (place part whole : ℕ) → part + place ≡ whole → whole ≡ place_of set → place ≤ 4096
            few_places place part whole sum is =
                let bound : 2 ^ size ≤ 4096 = powers-le size (omega (arith, counted, few)) in
                omega (arith, bound, place_below, sum, is)

            lowest : (rest number candidate : ℤ) (place : ℕ) → rest ≤ℤ pos (100000 * place) → pos 0 ≤ℤ number
                → number ≤ℤ candidate → place ≤ 4096 → negsuc 999999999 ≤ℤ (candidate -ℤ rest)
            lowest rest number candidate place high low is few = omega (arith, ints)

            to : number_in new (1 + 2 * place_of set) ≤ℤ candidate
                → IsHighTo graph rows vertex (size + 1) new set candidate
            to low = record { left_out = rw (here set long) enough.left_out; taken = taken }
              where
                enough : IsEnough old gains set candidate
                enough = (grown set place_below candidate).0 low

                taken : (edge : ℕ) → edge < length graph.edges → (edge_at graph edge).tail ≡ vertex
                    → head_colour graph edge + length set ≡ colour_count graph → (part : List Bool) → IsPartOf part set
                    → (((edge_at graph edge).weight +ℤ number_of graph rows (edge_at graph edge).head part) +ℤ number_to
                    (size + 1) new (without set part)) ≤ℤ candidate
                taken edge in_graph tail into part is_part =
                    rw (left part is_part)
                    (back ((edge_at graph edge).weight +ℤ number_of graph rows (edge_at graph edge).head part)
                    (number_in old (place_of (without set part))) candidate
                    (((gained.exact part (parted part is_part)
                    (candidate -ℤ number_in old (place_of (without set part)))).0
                    (moved (number_in gains (place_of part)) (number_in old (place_of (without set part))) candidate
                    (enough.taken part is_part))).each edge in_graph tail
                    (into_colour (head_colour graph edge) into)))

            from : IsHighTo graph rows vertex (size + 1) new set candidate
                → number_in new (1 + 2 * place_of set) ≤ℤ candidate
            from high = (grown set place_below candidate).1
                (record { left_out = rw (here set long) at high.left_out; taken = taken })
              where
                taken : (part : List Bool) → IsPartOf part set
                    → (number_in gains (place_of part) +ℤ number_in old (place_of (without set part))) ≤ℤ candidate
                taken part is_part =
                    back (number_in gains (place_of part)) (number_in old (place_of (without set part))) candidate
                    ((gained.exact part (parted part is_part)
                    (candidate -ℤ number_in old (place_of (without set part)))).1
                    (record {
                      lowest =
                          lowest (number_in old (place_of (without set part))) (number_in old (place_of set)) candidate
                          (place_of (without set part))
                          (before.modest.not_above (place_of (without set part)))
                          (before.modest.not_below (place_of set)) (rw (here set long) at high.left_out)
                          (few_places (place_of (without set part)) (place_of part) (place_of set)
                          (place-without set part is_part) refl);
                      each = λ edge in_graph tail into.
                          moved ((edge_at graph edge).weight +ℤ number_of graph rows (edge_at graph edge).head part)
                          (number_in old (place_of (without set part))) candidate
                          (rw (left part is_part) at
                          (high.taken edge in_graph tail (ap (λ n. n + length set) into ∙ ap (λ n. colour + n) long
                          ∙ counted) part is_part));
                    }))

-- One row is set in a table.
pub record IsSetRow (rows more : List (List ℤ)) (vertex : ℕ) (numbers : List ℤ) : Type 0 where
  pub count : length more ≡ length rows
  pub here : row_at more vertex ≡ numbers
  pub others : (v : ℕ) → v ≢ vertex → row_at more v ≡ row_at rows v

number_of-other : (graph : Graph) (rows more : List (List ℤ)) (vertex : ℕ) (numbers : List ℤ)
    → IsSetRow rows more vertex numbers → (v : ℕ) (set : List Bool) → v ≢ vertex
    → number_of graph more v set ≡ number_of graph rows v set
number_of-other graph rows more vertex numbers is v set apart =
    ap (λ row. number_in row (2 ^ (colour_count graph - length set - colour_of graph v) * place_of set))
    (is.others v apart)

number_of-here : (graph : Graph) (rows more : List (List ℤ)) (vertex : ℕ) (numbers : List ℤ)
    → IsSetRow rows more vertex numbers → (set : List Bool)
    → number_of graph more vertex set ≡ number_to (colour_count graph - colour_of graph vertex) numbers set
number_of-here graph rows more vertex numbers is set =
    ap (λ row. number_in row (2 ^ (colour_count graph - length set - colour_of graph vertex) * place_of set)) is.here
    ∙ ap (λ n. number_in numbers (2 ^ n * place_of set))
    (swapped (colour_count graph) (length set) (colour_of graph vertex))
  where
    swapped : (count size colour : ℕ) → count - size - colour ≡ count - colour - size
    swapped count size colour = omega arith

-- the head of an edge from a vertex is later than one before it
head_apart : (graph : Graph) → IsGraph graph → (edge vertex first : ℕ) → edge < length graph.edges
    → (edge_at graph edge).tail ≡ vertex → first ≤ vertex → (edge_at graph edge).head ≢ first
head_apart graph is edge vertex first within tail low same =
    let rises : (edge_at graph edge).tail + 1 ≤ (edge_at graph edge).head =
    edge-rises graph (edge_at graph edge) is.colours
    (is.edges edge (record { tail = 0; head = 0; weight = pos 0 }) within) in
    omega (arith, rises, tail, low, same)

-- one row more
pub filled-row : (graph : Graph) (rows more : List (List ℤ)) (vertex : ℕ) (numbers : List ℤ) → IsGraph graph
    → IsSetRow rows more vertex numbers → vertex < length graph.colours
    → length numbers ≡ 2 ^ (colour_count graph - colour_of graph vertex)
    → IsFilledTo graph rows vertex (colour_count graph - colour_of graph vertex) numbers
    → AreFilledFrom graph rows (vertex + 1) → AreFilledFrom graph more vertex
filled-row graph rows more vertex numbers is_graph is within long row before =
    record { count = is.count ∙ before.count; each = each; exact = exact }
  where
    each : (v : ℕ) → vertex ≤ v → v < length graph.colours → (HasRow graph more v) × AreModest (row_at more v)
    each v low there = choose (cases_eq v vertex)
      where
        choose : (v ≡ vertex) ⊎ (v ≡ vertex → ⊥) → (HasRow graph more v) × AreModest (row_at more v)
        choose (inl same) = rw (same, is.here) ((rw (is.count, before.count) within, long), row.modest)
        choose (inr apart) =
            let known = before.each v (omega (arith, low, apart)) there in
            rw (is.others v apart) ((rw is.count (known.0.0), known.0.1), known.1)

    exact : (v : ℕ) (set : List Bool) → vertex ≤ v → v < length graph.colours
        → colour_of graph v + length set < colour_count graph
        → (candidate : ℤ) → (number_of graph more v (true ∷ set) ≤ℤ candidate) ↔ IsHighEnough graph more v set candidate
    exact v set low there room candidate = choose (cases_eq v vertex)
      where
        other : v ≢ vertex → (s : List Bool) → number_of graph more v s ≡ number_of graph rows v s
        other apart s = number_of-other graph rows more vertex numbers is v s apart

        head : (edge : ℕ) → edge < length graph.edges → (edge_at graph edge).tail ≡ v → (s : List Bool)
            → number_of graph more (edge_at graph edge).head s ≡ number_of graph rows (edge_at graph edge).head s
        head edge in_graph tail s = number_of-other graph rows more vertex numbers is (edge_at graph edge).head s
            (head_apart graph is_graph edge v vertex in_graph tail low)

        choose : (v ≡ vertex) ⊎ (v ≡ vertex → ⊥)
            → (number_of graph more v (true ∷ set) ≤ℤ candidate) ↔ IsHighEnough graph more v set candidate
        choose (inr apart) = (
          λ is_low.
              let known = (before.exact v set (omega (arith, low, apart)) there room candidate).0
              (rw (other apart (true ∷ set)) at is_low) in
              record {
                left_out = rw (other apart set) known.left_out;
                taken = λ edge in_graph tail into part is_part.
                    rw (head edge in_graph tail part, other apart (without set part))
                    (known.taken edge in_graph tail into part is_part);
              },
          λ high.
              rw (other apart (true ∷ set))
              ((before.exact v set (omega (arith, low, apart)) there room candidate).1 (record {
                left_out = rw (other apart set) at high.left_out;
                taken = λ edge in_graph tail into part is_part.
                    rw (head edge in_graph tail part, other apart (without set part)) at
                    (high.taken edge in_graph tail into part is_part);
              })),
        )
        choose (inl same) = (
          λ is_low.
              let known = (row.exact set small candidate).0 (rw (here (true ∷ set)) at is_low) in
              record {
                left_out = rw (here set) known.left_out;
                taken = λ edge in_graph tail into part is_part.
                    rw (head edge in_graph tail part, here (without set part))
                    (known.taken edge in_graph (tail ∙ same) into part is_part);
              },
          λ high.
              rw (here (true ∷ set)) ((row.exact set small candidate).1 (record {
                left_out = rw (here set) at high.left_out;
                taken = λ edge in_graph tail into part is_part.
                    rw (head edge in_graph (tail ∙ sym same) part, here (without set part)) at
                    (high.taken edge in_graph (tail ∙ sym same) into part is_part);
              })),
        )
          where
            small : length set < colour_count graph - colour_of graph vertex
            small = less (colour_of graph v) (colour_of graph vertex) (length set) (colour_count graph)
                (ap (λ x. colour_of graph x) same) room
              where
                less : (here other size count : ℕ) → here ≡ other → here + size < count → size < count - other
                less here other size count is room = omega arith

            here : (s : List Bool) → number_of graph more v s
                ≡ number_to (colour_count graph - colour_of graph vertex) numbers s
            here s = ap (λ x. number_of graph more x s) same ∙ number_of-here graph rows more vertex numbers is s

map-set : {X Y : Type 0} (f : X → Y) (xs : List X) (i : ℕ) (x : X)
    → map f (slice_set xs i x) ≡ slice_set (map f xs) i (f x)
map-set f [] i x = refl
map-set f (y ∷ ys) zero x = refl
map-set f (y ∷ ys) (suc i) x = ap (λ rest. f y ∷ rest) (map-set f ys i x)

-- a row that is set in a table of vectors
pub IsSetRow-map : {X : Type 0} (items : X → List ℤ) (vectors : List X) (vertex : ℕ) (row : X)
    → vertex < length (map items vectors)
    → IsSetRow (map items vectors) (map items (slice_set vectors vertex row)) vertex (items row)
IsSetRow-map items vectors vertex row within = rw (map-set items vectors vertex row) (record {
  count = length-set (map items vectors) vertex (items row);
  here = get_or-set_same (map items vectors) vertex (items row) [] within;
  others = λ v apart. get_or-set_other (map items vectors) vertex v (items row) [] apart;
})

-- a whole table
pub IsExact-filled : (graph : Graph) (rows : List (List ℤ)) (first : ℕ) → first ≤ 0 → colour_count graph ≤ 12
    → AreFilledFrom graph rows first → IsExact graph rows
IsExact-filled graph rows first none few filled = record {
  fits = record {
    colours = few;
    count = filled.count;
    each = λ vertex within. (filled.each vertex (omega (arith, none)) within).0;
  };
  empty = empty;
  exact = λ vertex set within room candidate. filled.exact vertex set (omega (arith, none)) within room candidate;
}
  where
    nothing : (z : ℤ) → pos 0 ≤ℤ z → z ≤ℤ pos 0 → z ≡ pos 0
    nothing z low high = omega (arith, ints)

    empty : (vertex : ℕ) → vertex < length graph.colours → number_of graph rows vertex [] ≡ pos 0
    empty vertex within =
        let modest = (filled.each vertex (omega (arith, none)) within).1 in
        ap (number_in (row_at rows vertex)) (mul-zero (2 ^ (colour_count graph - 0 - colour_of graph vertex)))
        ∙ nothing (number_in (row_at rows vertex) 0) (modest.not_below 0) (modest.not_above 0)

all-at : {X : Type 0} (test : X → Bool) (xs : List X) (d : X) → ((k : ℕ) → k < length xs → test (get_or xs k d) ≡ true)
    → list_all test xs ≡ true
all-at test [] d each = refl
all-at test (x ∷ xs) d each = rw (each zero (omega arith))
    (all-at test xs d (λ k within. each (suc k) (omega (arith, within))))

near : (z : ℤ) (place : ℕ) → pos 0 ≤ℤ z → z ≤ℤ pos (100000 * place) → place < 4096 → is_near greatest_number z ≡ true
near (pos n) place low high few = le-leb n 1000000000000000 (omega (arith, ints))
near (negsuc n) place low high few = absurd (omega (arith, ints))

-- whose numbers may stand in a certificate
pub AreNumbers-filled : (graph : Graph) (rows : List (List ℤ)) (first : ℕ) → first ≤ 0 → colour_count graph ≤ 12
    → AreFilledFrom graph rows first → AreNumbers rows
AreNumbers-filled graph rows first none few filled = all-at (λ row. list_all (is_near greatest_number) row) rows [] each
  where
    each : (v : ℕ) → v < length rows → list_all (is_near greatest_number) (row_at rows v) ≡ true
    each v within = all-at (is_near greatest_number) (row_at rows v) (pos 0) number
      where
        whole : (HasRow graph rows v) × AreModest (row_at rows v)
        whole = filled.each v (omega (arith, none)) (rw (← filled.count) within)

        number : (place : ℕ) → place < length (row_at rows v)
            → is_near greatest_number (number_in (row_at rows v) place) ≡ true
        number place below =
            let bound : 2 ^ (colour_count graph - colour_of graph v) ≤ 4096 =
            powers-le (colour_count graph - colour_of graph v) (omega (arith, few)) in
            let long = whole.0.1 in
            near (number_in (row_at rows v) place) place (whole.1.not_below place) (whole.1.not_above place)
            (omega (arith, bound, long, below))
