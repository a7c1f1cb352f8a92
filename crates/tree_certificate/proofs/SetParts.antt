-- Parts of a set of colours and their places: the walk over all parts from the set down, by `part = (part - 1) & set`.
use Rattle.std.proofs.Common.{◌≡◌, ◌+◌, ◌-◌, ◌*◌, ◌%◌, ◌^◌, ◌<◌, ◌≤◌, ℕ, suc, Bool, true, false, not, ◌&&◌, IsTrue}
use Rattle.std.proofs.Common.{List, [], ◌∷◌, length, ap, sym, refl, ◌∙◌, arith, bit_and, pow-suc}
use Rattle.std.proofs.Math.Nat.{pow-le-pow_right}
use Rattle.std.proofs.lemmas.Nat.{and_block}
use Rattle.tree_certificate.specs.ColourSet.{IsPartOf, place_of, without}

-- the number that a truth value stands for in a place
abbrev bit_of : Bool → ℕ
bit_of true = 1
bit_of false = 0

place-cons : (here : Bool) (set : List Bool) → place_of (here ∷ set) ≡ place_of set * 2 + bit_of here
place-cons true set = omega arith
place-cons false set = omega arith

bit-lt : (here : Bool) → bit_of here < 2 ^ 1
bit-lt true = omega arith
bit-lt false = omega arith

-- the place of a set of so many colours is below 2 to their number
pub place-lt : (set : List Bool) → place_of set < 2 ^ length set
place-lt [] = omega arith
place-lt (true ∷ set) = omega (arith, place-lt set, pow-suc 2 (length set))
place-lt (false ∷ set) = omega (arith, place-lt set, pow-suc 2 (length set))

-- a graph of few colours has few sets
pub powers-le : (n : ℕ) → n ≤ 12 → 2 ^ n ≤ 4096
powers-le n few = pow-le-pow_right {n = 2} (omega arith) few

pub powers-rise : (n m : ℕ) → n ≤ m → 2 ^ n ≤ 2 ^ m
powers-rise n m within = pow-le-pow_right {n = 2} (omega arith) within

pub shifted-is : (n : ℕ) → n ≤ 12 → 1 * 2 ^ n % 18446744073709551616 ≡ 2 ^ n
shifted-is n few = let low : 2 ^ n ≤ 4096 = powers-le n few in omega arith

pub length-part : (set part : List Bool) → IsPartOf part set → length part ≡ length set
length-part [] [] is = refl
length-part [] (taken ∷ part) is = absurd is
length-part (here ∷ set) [] is = absurd is
length-part (here ∷ set) (taken ∷ part) is = ap suc (length-part set part is.1)

pub length-without : (set part : List Bool) → IsPartOf part set → length (without set part) ≡ length set
length-without [] [] is = refl
length-without [] (taken ∷ part) is = absurd is
length-without (here ∷ set) [] is = absurd is
length-without (here ∷ set) (taken ∷ part) is = ap suc (length-without set part is.1)

bits-without : (here taken : Bool) → (IsTrue taken → IsTrue here)
    → bit_of taken + bit_of (here && not taken) ≡ bit_of here
bits-without true true is = refl
bits-without true false is = refl
bits-without false false is = refl
bits-without false true is = absurd (false_is_no (is refl))
  where
    false_is_no : IsTrue false → ⊥
    false_is_no same = cc

-- a part and what it leaves make up the set
pub place-without : (set part : List Bool) → IsPartOf part set
    → place_of part + place_of (without set part) ≡ place_of set
place-without [] [] is = refl
place-without [] (taken ∷ part) is = absurd is
place-without (here ∷ set) [] is = absurd is
place-without (here ∷ set) (taken ∷ part) is =
    let rest = place-without set part is.1 in
    let bits = bits-without here taken is.0 in
    omega (
      arith,
      rest,
      bits,
      place-cons here set,
      place-cons taken part,
      place-cons (here && not taken)
          (without set part),
    )

-- the part before one in the walk
abbrev pub before : List Bool → List Bool → List Bool
before (here ∷ set) (true ∷ part) = false ∷ part
before (here ∷ set) (false ∷ part) = here ∷ before set part
before set part = []

pub IsPartOf-self : (set : List Bool) → IsPartOf set set
IsPartOf-self [] = tt
IsPartOf-self (here ∷ set) = (λ is. is, IsPartOf-self set)

-- the empty part
abbrev pub nothing_of : List Bool → List Bool
nothing_of [] = []
nothing_of (here ∷ set) = false ∷ nothing_of set

pub IsPartOf-nothing : (set : List Bool) → IsPartOf (nothing_of set) set
IsPartOf-nothing [] = tt
IsPartOf-nothing (here ∷ set) = (λ taken. absurd (false_is_no taken), IsPartOf-nothing set)
  where
    false_is_no : IsTrue false → ⊥
    false_is_no same = cc

pub place-nothing : (set : List Bool) → place_of (nothing_of set) ≡ 0
place-nothing [] = refl
place-nothing (here ∷ set) = ap (λ place. 2 * place) (place-nothing set)

pub IsPartOf-before : (set part : List Bool) → IsPartOf part set → IsPartOf (before set part) set
IsPartOf-before [] [] is = tt
IsPartOf-before [] (taken ∷ part) is = absurd is
IsPartOf-before (here ∷ set) [] is = absurd is
IsPartOf-before (here ∷ set) (true ∷ part) is = (λ taken. absurd (false_is_no taken), is.1)
  where
    false_is_no : IsTrue false → ⊥
    false_is_no same = cc
IsPartOf-before (here ∷ set) (false ∷ part) is = (λ taken. taken, IsPartOf-before set part is.1)

and_bits : (taken here : Bool) → (IsTrue taken → IsTrue here) → bit_and (bit_of taken) (bit_of here) ≡ bit_of taken
and_bits true true is = refl
and_bits false true is = refl
and_bits false false is = refl
and_bits true false is = absurd (false_is_no (is refl))
  where
    false_is_no : IsTrue false → ⊥
    false_is_no same = cc

one_and : (here : Bool) → bit_and 1 (bit_of here) ≡ bit_of here
one_and true = refl
one_and false = refl

-- one digit of a conjunction
and_digit : (high low rest here : ℕ) → low < 2 ^ 1 → here < 2 ^ 1
    → bit_and (high * 2 + low) (rest * 2 + here) ≡ bit_and high rest * 2 + bit_and low here
and_digit high low rest here low_bit here_bit = and_block 1 high rest low here low_bit here_bit

pub and_part : (set part : List Bool) → IsPartOf part set → bit_and (place_of part) (place_of set) ≡ place_of part
and_part [] [] is = refl
and_part [] (taken ∷ part) is = absurd is
and_part (here ∷ set) [] is = absurd is
and_part (here ∷ set) (taken ∷ part) is =
    rw (place-cons here set, place-cons taken part) (
    and_digit (place_of part) (bit_of taken) (place_of set) (bit_of here) (bit-lt taken) (bit-lt here)
    ∙ digits (bit_and (place_of part) (place_of set)) (place_of part) (bit_and (bit_of taken) (bit_of here))
    (bit_of taken) (and_part set part is.1) (and_bits taken here is.0)
    )
  where
    digits : (high other low digit : ℕ) → high ≡ other → low ≡ digit → high * 2 + low ≡ other * 2 + digit
    digits high other low digit same equal = cc

-- one step of the walk
pub place-before : (set part : List Bool) → IsPartOf part set → 0 < place_of part
    → bit_and (place_of part - 1) (place_of set) ≡ place_of (before set part)
place-before [] [] is some = absurd (omega arith)
place-before [] (taken ∷ part) is some = absurd is
place-before (here ∷ set) [] is some = absurd is
place-before (here ∷ set) (true ∷ part) is some =
    ap (λ place. bit_and place (place_of (here ∷ set))) less
    ∙ and_part (here ∷ set) (false ∷ part) ((λ taken. absurd (false_is_no taken)), is.1)
  where
    less : place_of (true ∷ part) - 1 ≡ place_of (false ∷ part)
    less = omega arith

    false_is_no : IsTrue false → ⊥
    false_is_no same = cc
place-before (here ∷ set) (false ∷ part) is some =
    ap (λ place. bit_and place (place_of (here ∷ set))) (less (place_of part) some)
    ∙ ap (λ place. bit_and ((place_of part - 1) * 2 + 1) place) (place-cons here set)
    ∙ and_digit (place_of part - 1) 1 (place_of set) (bit_of here) (omega arith) (bit-lt here)
    ∙ digits (bit_and (place_of part - 1) (place_of set)) (place_of (before set part)) (bit_and 1 (bit_of here))
    (bit_of here)
    (place-before set part is.1 (omega arith)) (one_and here)
    ∙ sym (place-cons here (before set part))
  where
    less : (place : ℕ) → 0 < 2 * place → 2 * place - 1 ≡ (place - 1) * 2 + 1
    less place some = omega arith

    digits : (high other low digit : ℕ) → high ≡ other → low ≡ digit → high * 2 + low ≡ other * 2 + digit
    digits high other low digit same equal = cc

bit-le : (here taken : Bool) → (IsTrue taken → IsTrue here) → bit_of taken ≤ bit_of here
bit-le true true is = omega arith
bit-le true false is = omega arith
bit-le false false is = omega arith
bit-le false true is = absurd (false_is_no (is refl))
  where
    false_is_no : IsTrue false → ⊥
    false_is_no same = cc

-- no part stands between one and the next of the walk
pub le-before : (set lower part : List Bool) → IsPartOf lower set → IsPartOf part set → place_of lower < place_of part
    → place_of lower ≤ place_of (before set part)
le-before [] [] [] lower_is is below = omega arith
le-before [] (low ∷ lower) part lower_is is below = absurd lower_is
le-before [] [] (taken ∷ part) lower_is is below = absurd is
le-before (here ∷ set) [] part lower_is is below = absurd lower_is
le-before (here ∷ set) (low ∷ lower) [] lower_is is below = absurd is
le-before (here ∷ set) (low ∷ lower) (true ∷ part) lower_is is below = omega arith
le-before (here ∷ set) (low ∷ lower) (false ∷ part) lower_is is below =
    let first = place-cons low lower in
    let last = place-cons here (before set part) in
    let bits = bit-le here low lower_is.0 in
    let rest : place_of lower ≤ place_of (before set part) =
    le-before set lower part lower_is.1 is.1 (omega (arith, first, below)) in
    omega (arith, first, last, bits, rest)
