-- Places of sets of colours: parts of a set, and what bits say of them.
use Rattle.std.proofs.Common.{slice_set, take, ◌++◌, add-one, pow-suc, ◌≡◌, ◌⊎◌, inl, inr, ◌+◌, ◌*◌, ◌/◌, ◌%◌, ◌^◌, ◌<◌}
use Rattle.std.proofs.Common.{◌≤◌, ℕ, zero, suc, Bool, true, false, bit_and, List, [], ◌∷◌, length, get_or, drop, ap}
use Rattle.std.proofs.Common.{ap₂, sym, refl, ◌∙◌, arith}
use Rattle.std.proofs.Math.Nat.{pow-le-pow_right}
use Rattle.std.proofs.lemmas.Bool.{cases_eq, eq-eqb, false≢true, ne_eqb}
use Rattle.std.proofs.lemmas.List.{drop_more}
use Rattle.std.proofs.lemmas.Nat.{and_block}
use Rattle.std.specs.Int.Bits.{and_zero_r}
use Rattle.tree_certificate.specs.ColourSet.{IsPartOf, place_of, without}
use Rattle.subset_tree.specs.inside.Rebuilding.{given, owned}

-- the lowest bits apart from the others
halves : (a b r s : ℕ) → r < 2 → s < 2 → bit_and (a * 2 + r) (b * 2 + s) ≡ bit_and a b * 2 + bit_and r s
halves a b r s one other = and_block 1 a b r s one other

even_even : (a b : ℕ) → bit_and (2 * a) (2 * b) ≡ 2 * bit_and a b
even_even a b = ap₂ bit_and (twice a) (twice b) ∙ halves a b 0 0 (omega arith) (omega arith) ∙ sym (twice (bit_and a b))
  where
    twice : (n : ℕ) → 2 * n ≡ n * 2 + 0
    twice n = omega arith

even_odd : (a b : ℕ) → bit_and (2 * a) (1 + 2 * b) ≡ 2 * bit_and a b
even_odd a b = ap₂ bit_and (twice a) (more b) ∙ halves a b 0 1 (omega arith) (omega arith) ∙ sym (twice (bit_and a b))
  where
    twice : (n : ℕ) → 2 * n ≡ n * 2 + 0
    twice n = omega arith

    more : (n : ℕ) → 1 + 2 * n ≡ n * 2 + 1
    more n = omega arith

odd_even : (a b : ℕ) → bit_and (1 + 2 * a) (2 * b) ≡ 2 * bit_and a b
odd_even a b = ap₂ bit_and (more a) (twice b) ∙ halves a b 1 0 (omega arith) (omega arith) ∙ sym (twice (bit_and a b))
  where
    twice : (n : ℕ) → 2 * n ≡ n * 2 + 0
    twice n = omega arith

    more : (n : ℕ) → 1 + 2 * n ≡ n * 2 + 1
    more n = omega arith

odd_odd : (a b : ℕ) → bit_and (1 + 2 * a) (1 + 2 * b) ≡ 1 + 2 * bit_and a b
odd_odd a b = ap₂ bit_and (more a) (more b) ∙ halves a b 1 1 (omega arith) (omega arith) ∙ sym (more (bit_and a b))
  where
    more : (n : ℕ) → 1 + 2 * n ≡ n * 2 + 1
    more n = omega arith

-- The bits of a part are among the set's.
pub and_part : (part set : List Bool) → IsPartOf part set → bit_and (place_of part) (place_of set) ≡ place_of part
and_part [] [] is_part = refl
and_part [] (here ∷ set) is_part = absurd is_part
and_part (taken ∷ part) [] is_part = absurd is_part
and_part (true ∷ part) (true ∷ set) is_part = odd_odd (place_of part) (place_of set)
    ∙ ap (λ n. 1 + 2 * n) (and_part part set is_part.1)
and_part (true ∷ part) (false ∷ set) is_part = absurd (false≢true (is_part.0 refl))
and_part (false ∷ part) (true ∷ set) is_part = even_odd (place_of part) (place_of set)
    ∙ ap (λ n. 2 * n) (and_part part set is_part.1)
and_part (false ∷ part) (false ∷ set) is_part = even_even (place_of part) (place_of set)
    ∙ ap (λ n. 2 * n) (and_part part set is_part.1)

-- A number whose bits are among a set's is the place of a part.
pub part_at : (set : List Bool) (place : ℕ) → bit_and place (place_of set) ≡ place
    → (part : List Bool) × (IsPartOf part set) × (place_of part ≡ place)
part_at [] place is = ([], tt, sym (and_zero_r place) ∙ is)
part_at (here ∷ set) place is = choose here is (part_at set (place / 2)) (cases_eq (place % 2) 0)
  where
    even : place % 2 ≡ 0 → place ≡ 2 * (place / 2)
    even none = omega arith

    odd : (place % 2 ≡ 0 → ⊥) → place ≡ 1 + 2 * (place / 2)
    odd some = omega arith

    half : (a b : ℕ) → 2 * a ≡ 2 * b → a ≡ b
    half a b is = omega arith

    half_more : (a b : ℕ) → 1 + 2 * a ≡ 1 + 2 * b → a ≡ b
    half_more a b is = omega arith

    never : (a b : ℕ) → 2 * a ≡ 1 + 2 * b → ⊥
    never a b is = omega arith

    choose : (b : Bool) → bit_and place (place_of (b ∷ set)) ≡ place
        → (bit_and (place / 2) (place_of set) ≡ place / 2
        → (part : List Bool) × (IsPartOf part set) × (place_of part ≡ place / 2))
        → (place % 2 ≡ 0) ⊎ (place % 2 ≡ 0 → ⊥)
        → (part : List Bool) × (IsPartOf part (b ∷ set)) × (place_of part ≡ place)
    choose true is rest (inl none) =
        let found = rest (half (bit_and (place / 2) (place_of set)) (place / 2)
        (sym (even_odd (place / 2) (place_of set)) ∙ ap (λ n. bit_and n (1 + 2 * place_of set)) (sym (even none)) ∙ is
        ∙ even none)) in
        (false ∷ found.0, ((λ one. absurd (false≢true one)), found.1), ap (λ n. 2 * n) found.2 ∙ sym (even none))
    choose true is rest (inr some) =
        let found = rest (half_more (bit_and (place / 2) (place_of set)) (place / 2)
        (sym (odd_odd (place / 2) (place_of set)) ∙ ap (λ n. bit_and n (1 + 2 * place_of set)) (sym (odd some)) ∙ is
        ∙ odd some)) in
        (true ∷ found.0, ((λ one. refl), found.1), ap (λ n. 1 + 2 * n) found.2 ∙ sym (odd some))
    choose false is rest (inl none) =
        let found = rest (half (bit_and (place / 2) (place_of set)) (place / 2)
        (sym (even_even (place / 2) (place_of set)) ∙ ap (λ n. bit_and n (2 * place_of set)) (sym (even none)) ∙ is
        ∙ even none)) in
        (false ∷ found.0, ((λ one. absurd (false≢true one)), found.1), ap (λ n. 2 * n) found.2 ∙ sym (even none))
    choose false is rest (inr some) =
        absurd (never (bit_and (place / 2) (place_of set)) (place / 2) (sym (odd_even (place / 2) (place_of set))
        ∙ ap (λ n. bit_and n (2 * place_of set)) (sym (odd some)) ∙ is ∙ odd some))

-- What a set has without a part, and the part, add up to the set.
pub place-without : (part set : List Bool) → IsPartOf part set
    → place_of (without set part) + place_of part ≡ place_of set
place-without [] [] is_part = refl
place-without [] (here ∷ set) is_part = absurd is_part
place-without (taken ∷ part) [] is_part = absurd is_part
place-without (true ∷ part) (true ∷ set) is_part = omega (arith, place-without part set is_part.1)
place-without (true ∷ part) (false ∷ set) is_part = absurd (false≢true (is_part.0 refl))
place-without (false ∷ part) (true ∷ set) is_part = omega (arith, place-without part set is_part.1)
place-without (false ∷ part) (false ∷ set) is_part = omega (arith, place-without part set is_part.1)

pub length-without : (part set : List Bool) → IsPartOf part set → length (without set part) ≡ length set
length-without [] [] is_part = refl
length-without [] (here ∷ set) is_part = absurd is_part
length-without (taken ∷ part) [] is_part = absurd is_part
length-without (taken ∷ part) (here ∷ set) is_part = ap suc (length-without part set is_part.1)

-- The place of what a vertex owns, owner by owner.
pub place-hit : (vertex : ℕ) (owners : List ℕ) (i : ℕ) → i < length owners → get_or owners i 0 ≡ vertex
    → place_of (owned vertex (drop i owners)) ≡ 1 + 2 * place_of (owned vertex (drop (i + 1) owners))
place-hit vertex owners i within is =
    ap (λ os. place_of (owned vertex os)) (drop_more owners i 0 within)
    ∙ ap (λ b. place_of (b ∷ owned vertex (drop (i + 1) owners))) (eq-eqb (get_or owners i 0) vertex is)

pub place-miss : (vertex : ℕ) (owners : List ℕ) (i : ℕ) → i < length owners → (get_or owners i 0 ≡ vertex → ⊥)
    → place_of (owned vertex (drop i owners)) ≡ 2 * place_of (owned vertex (drop (i + 1) owners))
place-miss vertex owners i within apart =
    ap (λ os. place_of (owned vertex os)) (drop_more owners i 0 within)
    ∙ ap (λ b. place_of (b ∷ owned vertex (drop (i + 1) owners))) (ne_eqb (get_or owners i 0) vertex apart)

pub added_hit : (place bit here rest total next : ℕ) → here ≡ 1 + 2 * rest → place + bit * here ≡ total
    → next ≡ place + bit → next + bit * 2 * rest ≡ total
added_hit place bit here rest total next is added after = omega (arith, ap (λ n. bit * n) is)

pub added_miss : (place bit here rest total next : ℕ) → here ≡ 2 * rest → place + bit * here ≡ total → next ≡ place
    → next + bit * 2 * rest ≡ total
added_miss place bit here rest total next is added after = omega (arith, ap (λ n. bit * n) is)

pub next_power : (bit i : ℕ) → bit ≡ 2 ^ i → bit * 2 ≡ 2 ^ (i + 1)
next_power bit i is = rw add-one (ap (λ n. n * 2) is ∙ sym (pow-suc 2 i))

pub hit_fits : (place bit here rest total size : ℕ) → here ≡ 1 + 2 * rest → place + bit * here ≡ total
    → total < 2 ^ size → size ≤ 12 → place + bit < 2 ^ 64
hit_fits place bit here rest total size is added below few = omega (arith, ap (λ n. bit * n) is, few_places)
  where
    few_places : 2 ^ size ≤ 4096
    few_places = pow-le-pow_right (omega arith) few

-- What halving a place leaves.
pub halved : (set : List Bool) (i : ℕ) → place_of (drop i set) / 2 ≡ place_of (drop (i + 1) set)
halved set i = rw add-one (by_cases set i)
  where
    by_cases : (set : List Bool) (i : ℕ) → place_of (drop i set) / 2 ≡ place_of (drop (suc i) set)
    by_cases [] zero = refl
    by_cases [] (suc i) = refl
    by_cases (true ∷ set) zero = omega arith
    by_cases (false ∷ set) zero = omega arith
    by_cases (here ∷ set) (suc i) = by_cases set i

-- One more owner after a part was given.
pub given_more : (set : List Bool) (vertex : ℕ) (owners : List ℕ) (i next : ℕ) → i < length owners
    → length set ≡ length owners
    → (place_of (drop i set) % 2 ≡ 1 → next ≡ vertex) → ((place_of (drop i set) % 2 ≡ 1 → ⊥) → next ≡ get_or owners i 0)
    → take (i + 1) (slice_set owners i next) ++ given (drop (i + 1) set) vertex (drop (i + 1) (slice_set owners i next))
    ≡ take i owners ++ given (drop i set) vertex (drop i owners)
given_more set vertex owners i next within long hit miss = rw add-one (by_cases set owners i within long hit miss)
  where
    by_cases : (set : List Bool) (owners : List ℕ) (i : ℕ) → i < length owners → length set ≡ length owners
        → (place_of (drop i set) % 2 ≡ 1 → next ≡ vertex)
        → ((place_of (drop i set) % 2 ≡ 1 → ⊥) → next ≡ get_or owners i 0)
        → take (suc i) (slice_set owners i next)
        ++ given (drop (suc i) set) vertex (drop (suc i) (slice_set owners i next))
        ≡ take i owners ++ given (drop i set) vertex (drop i owners)
    by_cases set [] i within long hit miss = absurd (omega arith)
    by_cases [] (owner ∷ owners) i within long hit miss = absurd (omega arith)
    by_cases (true ∷ set) (owner ∷ owners) zero within long hit miss =
        ap (λ n. n ∷ given set vertex owners) (hit (omega arith))
    by_cases (false ∷ set) (owner ∷ owners) zero within long hit miss =
        ap (λ n. n ∷ given set vertex owners) (miss (λ odd. omega arith))
    by_cases (here ∷ set) (owner ∷ owners) (suc i) within long hit miss =
        ap (λ l. owner ∷ l) (by_cases set owners i (omega arith) (omega arith) hit miss)
