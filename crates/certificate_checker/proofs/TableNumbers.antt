-- The numbers of a certificate, and the rows of a table.
use Rattle.std.proofs.Common.{◌≡◌, ◌+◌, ◌-◌, ◌*◌, ◌^◌, ◌<◌, ◌≤◌, ℕ, zero, suc, ℤ, pos, negsuc, true, List, [], length}
use Rattle.std.proofs.Common.{replicate, ap, refl, ◌∙◌, arith, pow-suc, pow_pos}
use Rattle.std.proofs.Math.Nat.{pow-le-pow_right}
use Rattle.std.proofs.lemmas.Bool.{leb-true}
use Rattle.std.proofs.lemmas.Int.{ints}
use Rattle.std.proofs.lemmas.List.{length-replicate}
use Rattle.std.proofs.lemmas.List.Sums.{AllPass-from_list_all}
use Rattle.std.specs.List.{list_all}
use Rattle.colour_graph.specs.Graph.{Graph, colour_count, colour_of}
use Rattle.tree_certificate.specs.ColourSet.{place_of}
use Rattle.tree_certificate.specs.Number.{AreNear, AreNumbers, greatest_number, is_near, number_in}
use Rattle.tree_certificate.specs.TableHolds.{FitsGraph, place_in, row_at, row_length}
use Rattle.certificate_checker.specs.inside.Enough.{AreNumbersBelow, IsNumber}

near-number : (number : ℤ) → is_near greatest_number number ≡ true → IsNumber number
near-number (pos n) is =
    let few : n ≤ 1000000000000000 = leb-true n 1000000000000000 is in
    record { not_below = omega (arith, ints); not_above = omega (arith, ints) }
near-number (negsuc n) is =
    let few : suc n ≤ 1000000000000000 = leb-true (suc n) 1000000000000000 is in
    record { not_below = omega (arith, ints); not_above = omega (arith, ints) }

pub near-below : (numbers : List ℤ) → AreNear numbers → AreNumbersBelow numbers (length numbers)
near-below numbers near place within = near-number (number_in numbers place)
    (AllPass-from_list_all (is_near greatest_number) numbers near place (pos 0) within)

pub numbers-row : (rows : List (List ℤ)) (vertex : ℕ) → AreNumbers rows → vertex < length rows
    → AreNumbersBelow (row_at rows vertex) (length (row_at rows vertex))
numbers-row rows vertex near within place in_row =
    near-number (number_in (row_at rows vertex) place)
    (AllPass-from_list_all (is_near greatest_number) (row_at rows vertex)
    (AllPass-from_list_all (λ row. list_all (is_near greatest_number) row) rows near vertex [] within) place
    (pos 0) in_row)

-- A row has at most 4,096 numbers.
pub row-few : (graph : Graph) (rows : List (List ℤ)) (vertex : ℕ) → FitsGraph graph rows → vertex < length graph.colours
    → length (row_at rows vertex) ≤ 4096
row-few graph rows vertex fits within = few (length (row_at rows vertex)) (colour_count graph) (colour_of graph vertex)
    (fits.each vertex within).1 fits.colours
  where
    few : (long count colour : ℕ) → long ≡ 2 ^ (count - colour) → count ≤ 12 → long ≤ 4096
    few long count colour is small = rw is
        (pow-le-pow_right {n = 2} (omega arith) {i = count - colour} {j = 12} (omega arith))

pub row-some : (graph : Graph) (rows : List (List ℤ)) (vertex : ℕ) → FitsGraph graph rows
    → vertex < length graph.colours → 0 < length (row_at rows vertex)
row-some graph rows vertex fits within =
    rw (fits.each vertex within).1 (pow_pos (colour_count graph - colour_of graph vertex))

place-all : (count : ℕ) → place_of (replicate count true) + 1 ≡ 2 ^ count
place-all zero = refl
place-all (suc count) = next (place_of (replicate count true)) (2 ^ count) (2 ^ suc count) (place-all count)
    (pow-suc 2 count)
  where
    next : (place power more : ℕ) → place + 1 ≡ power → more ≡ power * 2 → (1 + 2 * place) + 1 ≡ more
    next place power more is twice = omega arith

-- the last place of the root's row is that of all colours
pub place-last : (graph : Graph) (long : ℕ) → colour_of graph 0 ≡ 0 → long ≡ row_length graph 0
    → place_in graph 0 (replicate (colour_count graph) true) ≡ long - 1
place-last graph long root is = last (colour_count graph) (length (replicate (colour_count graph) true))
    (colour_of graph 0) long (place_of (replicate (colour_count graph) true))
    (length-replicate (colour_count graph) true) root is (place-all (colour_count graph))
  where
    one : (place : ℕ) → 2 ^ 0 * place ≡ place
    one place = omega arith

    none : (count all root : ℕ) → all ≡ count → root ≡ 0 → count - all - root ≡ 0
    none count all root whole zero_is = omega arith

    less : (place power long : ℕ) → place + 1 ≡ power → long ≡ power → place ≡ long - 1
    less place power long is same = omega arith

    same_power : (count root : ℕ) → root ≡ 0 → 2 ^ (count - root) ≡ 2 ^ count
    same_power count root zero_is = ap (λ n. 2 ^ n) (omega arith)

    last : (count all root long place : ℕ) → all ≡ count → root ≡ 0 → long ≡ 2 ^ (count - root) → place + 1 ≡ 2 ^ count
        → 2 ^ (count - all - root) * place ≡ long - 1
    last count all root long place whole zero_is long_is place_is =
        ap (λ n. 2 ^ n * place) (none count all root whole zero_is) ∙ one place
        ∙ less place (2 ^ count) long place_is (long_is ∙ same_power count root zero_is)
