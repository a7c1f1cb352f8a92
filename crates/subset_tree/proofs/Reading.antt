-- Reading numbers of a table.
use Rattle.std.proofs.Common.{Global, Vec, of_z, to_z, w64, ◌≡◌, ◌+◌, ◌-◌, ◌*◌, ◌^◌, ◌<◌, ◌≤◌, ℕ, zero, suc, ℤ, pos}
use Rattle.std.proofs.Common.{negsuc, ◌≤ℤ◌, Bool, true, List, [], ◌∷◌, length, get_or, map, ap, ap₂, sym, subst, ◌∙◌}
use Rattle.std.proofs.Common.{arith, mul_comm, pow-suc}
use Rattle.std.specs.Prelude.{unsigned_abs}
use Rattle.std.specs.List.{list_all}
use Rattle.std.proofs.lemmas.Bool.{and_parts, leb-true}
use Rattle.std.proofs.lemmas.Int.{fits_signed_from_abs, ints, to_z-of_z}
use Rattle.std.proofs.lemmas.List.{get_or-map, get_or_default}
use Rattle.std.proofs.lemmas.Nat.{shl_below}
use Rattle.colour_graph.specs.Graph.{Graph, colour_count, colour_of}
use Rattle.tree_certificate.specs.ColourSet.{place_of}
use Rattle.tree_certificate.specs.Number.{AreNumbers, greatest_number, is_near}
use Rattle.tree_certificate.specs.TableHolds.{FitsGraph, number_at, number_of, row_at}

all_at : {X : Type 0} (test : X → Bool) (xs : List X) (i : ℕ) (d : X) → list_all test xs ≡ true → i < length xs
    → test (get_or xs i d) ≡ true
all_at test [] i d all within = absurd (omega arith)
all_at test (x ∷ xs) zero d all within = (and_parts (test x) (list_all test xs) all).0
all_at test (x ∷ xs) (suc i) d all within =
    all_at test xs i d (and_parts (test x) (list_all test xs) all).1 (omega arith)

near : (z : ℤ) → is_near greatest_number z ≡ true → (negsuc 999999999999999 ≤ℤ z) × (z ≤ℤ pos 1000000000000000)
near z is = within z (leb-true (unsigned_abs z) 1000000000000000 is)
  where
    within : (z : ℤ) → unsigned_abs z ≤ 1000000000000000 → (negsuc 999999999999999 ≤ℤ z) × (z ≤ℤ pos 1000000000000000)
    within (pos n) small = (omega (arith, ints), omega (arith, ints, small))
    within (negsuc n) small = (omega (arith, ints, small), omega (arith, ints))

-- A number of a table is within its range.
pub number_near : (rows : List (List ℤ)) (vertex place : ℕ) → AreNumbers rows → vertex < length rows
    → place < length (row_at rows vertex)
    → (negsuc 999999999999999 ≤ℤ number_at rows vertex place) × (number_at rows vertex place ≤ℤ pos 1000000000000000)
number_near rows vertex place numbers within inside =
    near (number_at rows vertex place)
    (all_at (is_near greatest_number) (row_at rows vertex) place (pos 0)
    (all_at (λ row. list_all (is_near greatest_number) row) rows vertex [] numbers within) inside)

-- The place of a set of the colours behind one is in the row.
pub step_below : (place colour own count step : ℕ) → own ≤ colour → colour ≤ count → place < 2 ^ (count - colour)
    → step ≡ 2 ^ (colour - own) → step * place < 2 ^ (count - own)
step_below place colour own count step own_before counted below is =
    subst (λ (n : ℕ). n < 2 ^ (count - own)) (mul_comm place (2 ^ (colour - own)) ∙ ap (λ n. n * place) (sym is))
    (subst (λ (n : ℕ). place * 2 ^ (colour - own) < 2 ^ n) (whole count colour own own_before counted)
    (shl_below place (count - colour) (colour - own) below))
  where
    whole : (count colour own : ℕ) → own ≤ colour → colour ≤ count → (count - colour) + (colour - own) ≡ count - own
    whole count colour own before counted = omega arith

-- Where it stands.
pub step_place : (graph : Graph) (vertex place colour step own : ℕ) (rows : List (List ℤ))
    → own ≡ colour_of graph vertex → step ≡ 2 ^ (colour - own)
    → (set : List Bool) → place_of set ≡ place → colour + length set ≡ colour_count graph
    → number_at rows vertex (step * place) ≡ number_of graph rows vertex set
step_place graph vertex place colour step own rows own_is is set at long =
    ap (number_at rows vertex) (ap₂ (λ a b. a * b) (is
    ∙ ap₂ (λ a b. 2 ^ (a - b)) (before colour (length set) (colour_count graph) long) own_is) (sym at))
  where
    before : (colour size count : ℕ) → colour + size ≡ count → colour ≡ count - size
    before colour size count long = omega arith

-- One more colour before.
pub place_more : (rest colour count : ℕ) → 0 < colour → colour ≤ count → rest < 2 ^ (count - colour)
    → 1 + 2 * rest < 2 ^ (count - (colour - 1))
place_more rest colour count some counted below =
    subst (λ (n : ℕ). 1 + 2 * rest < 2 ^ n) (more colour count some counted)
    (omega (arith, below, pow-suc 2 (count - colour)))
  where
    more : (colour count : ℕ) → 0 < colour → colour ≤ count → suc (count - colour) ≡ count - (colour - 1)
    more colour count some counted = omega arith

-- What the reads of a row and of its number are.
pub read_row : (rows : List (Vec ℤ Global)) (vertex i : ℕ) (row : Vec ℤ Global) → i ≡ vertex → vertex < length rows
    → row ≡ get_or rows i row
    → row.items ≡ row_at (map (λ (r : Vec ℤ Global). r.items) rows) vertex
read_row rows vertex i row at within is =
    ap (λ (r : Vec ℤ Global). r.items) (is ∙ ap (λ n. get_or rows n row) at)
    ∙ sym (get_or-map (λ (r : Vec ℤ Global). r.items) rows vertex row [] within)

pub in_row : (graph : Graph) (rows : List (List ℤ)) (vertex place colour own step : ℕ) (row : List ℤ)
    → FitsGraph graph rows → vertex < length graph.colours → own ≡ colour_of graph vertex
    → colour_of graph vertex ≤ colour → colour ≤ colour_count graph → place < 2 ^ (colour_count graph - colour)
    → step ≡ 2 ^ (colour - own) → row ≡ row_at rows vertex → step * place < length row
in_row graph rows vertex place colour own step row fits within own_is before counted below is row_is =
    subst (λ (n : ℕ). step * place < n) (sym (ap length row_is ∙ (fits.each vertex within).1))
    (step_below place colour (colour_of graph vertex) (colour_count graph) step before counted below (is
    ∙ ap (λ n. 2 ^ (colour - n)) own_is))

pub read_number : (rows : List (List ℤ)) (vertex place : ℕ) (row : List ℤ) (z : ℤ) → AreNumbers rows
    → vertex < length rows → row ≡ row_at rows vertex → place < length row → z ≡ get_or row place z
    → to_z w64 (of_z w64 z) ≡ number_at rows vertex place
read_number rows vertex place row z numbers within row_is inside read =
    to_z-of_z w64 z (fits_signed_from_abs w64 z
    (small (unsigned_abs z) (leb-true (unsigned_abs z) 1000000000000000 (ap (is_near greatest_number) same ∙ is))))
    ∙ same
  where
    same : z ≡ number_at rows vertex place
    same = read ∙ get_or_default row place z (pos 0) inside ∙ ap (λ r. get_or r place (pos 0)) row_is

    is : is_near greatest_number (number_at rows vertex place) ≡ true
    is = all_at (is_near greatest_number) (row_at rows vertex) place (pos 0)
        (all_at (λ r. list_all (is_near greatest_number) r) rows vertex [] numbers within)
        (subst (λ (n : ℕ). place < n) (ap length row_is) inside)

    small : (n : ℕ) → n ≤ 1000000000000000 → n < 2 ^ 63
    small n few = omega arith
