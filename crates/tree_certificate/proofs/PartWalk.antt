-- Of IsEnough: the least number that is enough for a set beside one smaller colour, by the walk over the parts of the
-- set that a head may need, the greatest first.
use Rattle.std.proofs.Common.{◌≡◌, ◌⊎◌, inl, inr, ◌+◌, ◌-◌, ◌<◌, ◌≤◌, ◌↔◌, ℕ, ℤ, ◌+ℤ◌, ◌≤ℤ◌, Bool, List, [], ◌∷◌}
use Rattle.std.proofs.Common.{ap, sym, ◌∙◌, arith, bit_and}
use Rattle.std.proofs.lemmas.Bool.{cases_eq, cases_lt}
use Rattle.std.proofs.lemmas.Nat.{and_le_l}
use Rattle.tree_certificate.specs.ColourSet.{IsPartOf, place_of, without}
use Rattle.tree_certificate.specs.Enough.{IsEnough, IsEnoughAbove, IsRaised, PartAt, UsefulPart}
use Rattle.tree_certificate.specs.Number.{number_in}
use Rattle.tree_certificate.proofs.SetParts.{IsPartOf-before, IsPartOf-nothing, IsPartOf-self, before, le-before}
use Rattle.tree_certificate.proofs.SetParts.{nothing_of, place-before, place-nothing, place-without}

-- the same under other names
pub raised-as : (more more' most most' gain gain' rest rest' : ℤ) → more' ≡ more → most ≡ most' → gain ≡ gain'
    → rest ≡ rest' → IsRaised more most gain rest → IsRaised more' most' gain' rest'
raised-as more more' most most' gain gain' rest rest' same_more same_most same_gain same_rest is =
    rw (same_more, ← same_most, ← same_gain, ← same_rest) is

pub PartAt-self : (set : List Bool) (place : ℕ) → place_of set ≡ place → PartAt set place
PartAt-self set place at = record { part = set; is_part = IsPartOf-self set; at_place = at }

abbrev pub PartAt-before : (set : List Bool) (whole place : ℕ) → place_of set ≡ whole → PartAt set place → 0 < place
    → PartAt set (bit_and (place - 1) whole)
PartAt-before set whole place at it some = record {
  part = before set it.part;
  is_part = IsPartOf-before set it.part it.is_part;
  at_place = sym (place-before set it.part it.is_part (rw it.at_place some))
      ∙ ap (λ p. bit_and (p - 1) (place_of set)) it.at_place ∙ ap (λ w. bit_and (place - 1) w) at;
}

-- a part of a part
pub IsPartOf-part : (set useful part : List Bool) → IsPartOf useful set → IsPartOf part useful → IsPartOf part set
IsPartOf-part [] [] [] useful_is is = tt
IsPartOf-part [] [] (taken ∷ part) useful_is is = absurd is
IsPartOf-part [] (kept ∷ useful) part useful_is is = absurd useful_is
IsPartOf-part (here ∷ set) [] part useful_is is = absurd useful_is
IsPartOf-part (here ∷ set) (kept ∷ useful) [] useful_is is = absurd is
IsPartOf-part (here ∷ set) (kept ∷ useful) (taken ∷ part) useful_is is =
    (λ true_there. useful_is.0 (is.0 true_there), IsPartOf-part set useful part useful_is.1 is.1)

-- what a part and the rest of the set give, by places
sum_at : (numbers gains : List ℤ) (set part : List Bool) (place : ℕ) → IsPartOf part set → place_of part ≡ place
    → (number_in gains (place_of part) +ℤ number_in numbers (place_of (without set part)))
    ≡ (number_in gains place +ℤ number_in numbers (place_of set - place))
sum_at numbers gains set part place is at =
    let left : place_of (without set part) ≡ place_of set - place =
    rest (place_of part) (place_of (without set part)) (place_of set) place (place-without set part is) at in
    ap (λ p. number_in gains p +ℤ number_in numbers (place_of (without set part))) at
    ∙ ap (λ p. number_in gains place +ℤ number_in numbers p) left
  where
    rest : (part other whole place : ℕ) → part + other ≡ whole → part ≡ place → other ≡ whole - place
    rest part other whole place is at = omega arith

minus_zero : (n : ℕ) → n - 0 ≡ n
minus_zero n = omega arith

-- before the walk: the empty part alone
pub enough-first : (numbers gains : List ℤ) (set : List Bool) (whole parts : ℕ)
    (it : UsefulPart numbers gains set parts) (most : ℤ) → place_of set ≡ whole
    → IsRaised most (number_in numbers whole) (number_in gains 0) (number_in numbers whole)
    → (candidate : ℤ) → (most ≤ℤ candidate) ↔ IsEnoughAbove numbers gains set it.part parts candidate
enough-first numbers gains set whole parts it most at is candidate = (to, from)
  where
    to : most ≤ℤ candidate → IsEnoughAbove numbers gains set it.part parts candidate
    to low = record {
      left_out = rw at (((is candidate).0 low).0);
      empty = rw at (((is candidate).0 low).1);
      taken = λ part is_part above. absurd
          (not_above (place_of part) (place_of (without it.part part)) (place_of it.part) parts
          (place-without it.part part is_part) it.at_place above);
    }
      where
        not_above : (part other all whole : ℕ) → part + other ≡ all → all ≡ whole → whole < part → ⊥
        not_above part other all whole sum same above = omega arith

    from : IsEnoughAbove numbers gains set it.part parts candidate → most ≤ℤ candidate
    from enough = (is candidate).1 (rw (← at) enough.left_out, rw (← at) enough.empty)

-- one step of the walk
pub enough-more : (numbers gains : List ℤ) (set : List Bool) (whole parts place : ℕ)
    (it : UsefulPart numbers gains set parts) (most more : ℤ) → place_of set ≡ whole
    → PartAt it.part place → 0 < place
    → ((candidate : ℤ) → (most ≤ℤ candidate) ↔ IsEnoughAbove numbers gains set it.part place candidate)
    → IsRaised more most (number_in gains place) (number_in numbers (whole - place))
    → (candidate : ℤ)
    → (more ≤ℤ candidate) ↔ IsEnoughAbove numbers gains set it.part (bit_and (place - 1) parts) candidate
enough-more numbers gains set whole parts place it most more at this some so_far is candidate = (to, from)
  where
    next : bit_and (place - 1) parts ≡ place_of (before it.part this.part)
    next = sym ((PartAt-before it.part parts place it.at_place this some).at_place)

    below : bit_and (place - 1) parts < place
    below = less (bit_and (place - 1) parts) place (and_le_l (place - 1) parts) some
      where
        less : (next place : ℕ) → next ≤ place - 1 → 0 < place → next < place
        less next place low some = omega arith

    to : more ≤ℤ candidate → IsEnoughAbove numbers gains set it.part (bit_and (place - 1) parts) candidate
    to low = record { left_out = before_this.left_out; empty = before_this.empty; taken = taken }
      where
        before_this : IsEnoughAbove numbers gains set it.part place candidate
        before_this = (so_far candidate).0 (((is candidate).0 low).0)

        taken : (part : List Bool) → IsPartOf part it.part → bit_and (place - 1) parts < place_of part
            → (number_in gains (place_of part) +ℤ number_in numbers (place_of (without set part))) ≤ℤ candidate
        taken part is_part above = choose (cases_lt place (place_of part))
          where
            here : place_of part ≡ place
                → (number_in gains (place_of part) +ℤ number_in numbers (place_of (without set part))) ≤ℤ candidate
            here same = rw (sum_at numbers gains set part place
                (IsPartOf-part set it.part part it.is_part is_part) same) (rw at (((is candidate).0 low).1))

            not_between : place_of part < place → ⊥
            not_between low' =
                let low_part : place_of part < place_of this.part = rw this.at_place low' in
                let bound : place_of part ≤ place_of (before it.part this.part) =
                le-before it.part part this.part is_part this.is_part low_part in
                omega (arith, bound, above, next)

            choose : (place < place_of part) ⊎ (place_of part ≤ place)
                → (number_in gains (place_of part) +ℤ number_in numbers (place_of (without set part))) ≤ℤ candidate
            choose (inl above') = before_this.taken part is_part above'
            choose (inr low') = pick (cases_eq (place_of part) place)
              where
                pick : (place_of part ≡ place) ⊎ (place_of part ≡ place → ⊥)
                    → (number_in gains (place_of part) +ℤ number_in numbers (place_of (without set part))) ≤ℤ candidate
                pick (inl same) = here same
                pick (inr apart) = absurd (not_between (omega (arith, low', apart)))

    from : IsEnoughAbove numbers gains set it.part (bit_and (place - 1) parts) candidate → more ≤ℤ candidate
    from enough = (is candidate).1 (
      (so_far candidate).1 (record {
        left_out = enough.left_out;
        empty = enough.empty;
        taken = λ part is_part above. enough.taken part is_part (omega (arith, above, below));
      }),
      rw (← at) (rw (sum_at numbers gains set this.part place
          (IsPartOf-part set it.part this.part it.is_part this.is_part) this.at_place) at
          (enough.taken this.part this.is_part (rw this.at_place below))),
    )

-- after the walk
pub enough-last : (numbers gains : List ℤ) (set : List Bool) (parts place : ℕ) (it : UsefulPart numbers gains set parts)
    (most : ℤ) → place ≡ 0
    → ((candidate : ℤ) → (most ≤ℤ candidate) ↔ IsEnoughAbove numbers gains set it.part place candidate)
    → (candidate : ℤ) → (most ≤ℤ candidate) ↔ IsEnough numbers gains set candidate
enough-last numbers gains set parts place it most done is candidate = (to, from)
  where
    to : most ≤ℤ candidate → IsEnough numbers gains set candidate
    to low = it.enough candidate (record { left_out = ((is candidate).0 low).left_out; taken = taken })
      where
        taken : (part : List Bool) → IsPartOf part it.part
            → (number_in gains (place_of part) +ℤ number_in numbers (place_of (without set part))) ≤ℤ candidate
        taken part is_part = choose (cases_lt 0 (place_of part))
          where
            choose : (0 < place_of part) ⊎ (place_of part ≤ 0)
                → (number_in gains (place_of part) +ℤ number_in numbers (place_of (without set part))) ≤ℤ candidate
            choose (inl some) = ((is candidate).0 low).taken part is_part (rw done some)
            choose (inr none) = rw (
              sum_at numbers gains set part 0 (IsPartOf-part set it.part part it.is_part is_part)
                  (omega (arith, none)),
              minus_zero (place_of set),
            ) (((is candidate).0 low).empty)

    from : IsEnough numbers gains set candidate → most ≤ℤ candidate
    from enough = (is candidate).1 (record {
      left_out = enough.left_out;
      empty = empty;
      taken = λ part is_part above. enough.taken part (IsPartOf-part set it.part part it.is_part is_part);
    })
      where
        nothing : PartAt set 0
        nothing = record { part = nothing_of set; is_part = IsPartOf-nothing set; at_place = place-nothing set }

        empty : (number_in gains 0 +ℤ number_in numbers (place_of set)) ≤ℤ candidate
        empty = rw (
          sum_at numbers gains set nothing.part 0 nothing.is_part nothing.at_place,
          minus_zero (place_of set),
        ) at (enough.taken nothing.part nothing.is_part)

-- a set as the part of it that a head may need
abbrev pub UsefulPart-self : (numbers gains : List ℤ) (set : List Bool) (place : ℕ) → place_of set ≡ place
    → UsefulPart numbers gains set place
UsefulPart-self numbers gains set place at = record {
  part = set;
  is_part = IsPartOf-self set;
  at_place = at;
  enough = λ candidate is. record { left_out = is.left_out; taken = is.taken };
}
