-- The gains that one edge raises, and the numbers for one smaller colour more.
use Rattle.std.proofs.Common.{◌≡◌, ◌≢◌, ◌⊎◌, inl, inr, ◌+◌, ◌*◌, ◌<◌, ◌≤◌, ◌↔◌, ℕ, ℤ, pos, negsuc, ◌+ℤ◌, ◌≤ℤ◌, Bool}
use Rattle.std.proofs.Common.{List, length, slice_set, get_or-set_other, get_or-set_same, sym, ◌∙◌, arith}
use Rattle.std.proofs.lemmas.Bool.{cases_eq}
use Rattle.std.proofs.lemmas.Int.{ints}
use Rattle.tree_certificate.specs.ColourSet.{place_of, without}
use Rattle.tree_certificate.specs.Enough.{IsEnough, IsRaised}
use Rattle.tree_certificate.specs.Number.{number_in}
use Rattle.subset_tree.specs.inside.Filling.{AreGains, AreModest}
use Rattle.tree_certificate.proofs.SetParts.{place-without}

pub number_in-same : (numbers : List ℤ) (place : ℕ) (number : ℤ) → place < length numbers
    → number_in (slice_set numbers place number) place ≡ number
number_in-same numbers place number within = get_or-set_same numbers place number (pos 0) within

pub number_in-other : (numbers : List ℤ) (place other : ℕ) (number : ℤ) → other ≢ place
    → number_in (slice_set numbers place number) other ≡ number_in numbers other
number_in-other numbers place other number apart = get_or-set_other numbers place other number (pos 0) apart

-- one gain raised
pub raised-more : (gains old numbers : List ℤ) (weight more : ℤ) (place : ℕ) → place < length gains
    → ((p : ℕ) → p < place → IsRaised (number_in gains p) (number_in old p) weight (number_in numbers p))
    → IsRaised more (number_in old place) weight (number_in numbers place)
    → (p : ℕ) → p < place + 1 → IsRaised (number_in (slice_set gains place more) p) (number_in old p) weight
    (number_in numbers p)
raised-more gains old numbers weight more place room before is p within = choose (cases_eq p place)
  where
    choose : (p ≡ place) ⊎ (p ≡ place → ⊥)
        → IsRaised (number_in (slice_set gains place more) p) (number_in old p) weight (number_in numbers p)
    choose (inl same) = rw (same, number_in-same gains place more room) is
    choose (inr apart) = rw (number_in-other gains place p more apart) (before p (omega (arith, within, apart)))

pub rest-more : (gains old : List ℤ) (more : ℤ) (place : ℕ)
    → ((p : ℕ) → place ≤ p → number_in gains p ≡ number_in old p)
    → (p : ℕ) → place + 1 ≤ p → number_in (slice_set gains place more) p ≡ number_in old p
rest-more gains old more place before p within = number_in-other gains place p more (omega arith)
    ∙ before p (omega arith)

pub gains-more : (gains numbers : List ℤ) (weight more : ℤ) (place : ℕ) → place < length gains → AreGains gains
    → AreModest numbers → weight ≤ℤ pos 100000
    → IsRaised more (number_in gains place) weight (number_in numbers place) → AreGains (slice_set gains place more)
gains-more gains numbers weight more place room near modest light is =
    record { not_below = not_below; not_above = not_above }
  where
    self : (z : ℤ) → z ≤ℤ z
    self z = omega (arith, ints)

    joined : (low before more : ℤ) → low ≤ℤ before → before ≤ℤ more → low ≤ℤ more
    joined low before more first next = omega (arith, ints)

    sum : (weight number : ℤ) (place : ℕ) → weight ≤ℤ pos 100000 → number ≤ℤ pos (100000 * place)
        → (weight +ℤ number) ≤ℤ pos (100000 * (place + 1))
    sum weight number place light high = omega (arith, ints)

    not_below : (p : ℕ) → negsuc 999999999 ≤ℤ number_in (slice_set gains place more) p
    not_below p = choose (cases_eq p place)
      where
        choose : (p ≡ place) ⊎ (p ≡ place → ⊥) → negsuc 999999999 ≤ℤ number_in (slice_set gains place more) p
        choose (inl same) =
            rw (same, number_in-same gains place more room)
            (joined (negsuc 999999999) (number_in gains place) more (near.not_below place)
            (((is more).0 (self more)).0))
        choose (inr apart) = rw (number_in-other gains place p more apart) (near.not_below p)

    not_above : (p : ℕ) → number_in (slice_set gains place more) p ≤ℤ pos (100000 * (p + 1))
    not_above p = choose (cases_eq p place)
      where
        choose : (p ≡ place) ⊎ (p ≡ place → ⊥) → number_in (slice_set gains place more) p ≤ℤ pos (100000 * (p + 1))
        choose (inl same) =
            rw (same, number_in-same gains place more room)
            ((is (pos (100000 * (place + 1)))).1
            (near.not_above place, sum weight (number_in numbers place) place light (modest.not_above place)))
        choose (inr apart) = rw (number_in-other gains place p more apart) (near.not_above p)

-- One number moves to twice its place, and another stands beside it.
pub record IsSpread (numbers spread : List ℤ) (place : ℕ) (beside : ℤ) : Type 0 where
  pub moved : number_in spread (2 * place) ≡ number_in numbers place
  pub beside_it : number_in spread (1 + 2 * place) ≡ beside
  pub others : (p : ℕ) → p ≢ 2 * place → p ≢ 1 + 2 * place → number_in spread p ≡ number_in numbers p

pub IsSpread-set : (numbers : List ℤ) (place : ℕ) (beside moved : ℤ) → 2 * place + 1 < length numbers
    → moved ≡ number_in numbers place
    → length (slice_set numbers (2 * place + 1) beside) ≡ length numbers
    → IsSpread numbers (slice_set (slice_set numbers (2 * place + 1) beside) (2 * place) moved) place beside
IsSpread-set numbers place beside moved room is long = record {
  moved = number_in-same (slice_set numbers (2 * place + 1) beside) (2 * place) moved (omega arith) ∙ is;
  beside_it = number_in-other (slice_set numbers (2 * place + 1) beside) (2 * place) (1 + 2 * place) moved (omega arith)
      ∙ one;
  others = λ p not_low not_high. number_in-other (slice_set numbers (2 * place + 1) beside) (2 * place) p moved not_low
      ∙ number_in-other numbers (2 * place + 1) p beside (λ same. not_high (swap p place same));
}
  where
    swap : (p place : ℕ) → p ≡ 2 * place + 1 → p ≡ 1 + 2 * place
    swap p place same = omega arith

    same_place : (place : ℕ) → 1 + 2 * place ≡ 2 * place + 1
    same_place place = omega arith

    one : number_in (slice_set numbers (2 * place + 1) beside) (1 + 2 * place) ≡ beside
    one = rw (same_place place) (number_in-same numbers (2 * place + 1) beside room)

pub IsEnough-same : (numbers other gains : List ℤ) (set : List Bool) (candidate : ℤ)
    → ((p : ℕ) → p ≤ place_of set → number_in numbers p ≡ number_in other p)
    → IsEnough numbers gains set candidate → IsEnough other gains set candidate
IsEnough-same numbers other gains set candidate same enough = record {
  left_out = rw (← same (place_of set) (omega arith)) enough.left_out;
  taken = λ part is_part.
      let sum = place-without set part is_part in
      rw (← same (place_of (without set part)) (omega (arith, sum))) (enough.taken part is_part);
}

pub below-spread : (numbers old spread : List ℤ) (place : ℕ) (beside : ℤ) → IsSpread numbers spread place beside
    → ((p : ℕ) → p < place + 1 → number_in numbers p ≡ number_in old p) → (p : ℕ) → p < place
    → number_in spread p ≡ number_in old p
below-spread numbers old spread place beside is before p within = is.others p (omega arith) (omega arith)
    ∙ before p (omega arith)

pub kept-spread : (numbers old spread : List ℤ) (place size : ℕ) (beside : ℤ) → IsSpread numbers spread place beside
    → number_in numbers place ≡ number_in old place
    → ((p : ℕ) → place + 1 ≤ p → p < size → number_in numbers (2 * p) ≡ number_in old p)
    → (p : ℕ) → place ≤ p → p < size → number_in spread (2 * p) ≡ number_in old p
kept-spread numbers old spread place size beside is here before p low within = choose (cases_eq p place)
  where
    choose : (p ≡ place) ⊎ (p ≡ place → ⊥) → number_in spread (2 * p) ≡ number_in old p
    choose (inl same) = rw same (is.moved ∙ here)
    choose (inr apart) =
        let more : place + 1 ≤ p = omega (arith, low, apart) in
        is.others (2 * p) (omega (arith, more)) (omega (arith, more)) ∙ before p more within

pub grown-spread : (numbers old gains spread : List ℤ) (place size : ℕ) (beside : ℤ)
    → IsSpread numbers spread place beside
    → ((p : ℕ) → p < place + 1 → number_in numbers p ≡ number_in old p)
    → ((set : List Bool) → place_of set ≡ place → (candidate : ℤ) → (beside ≤ℤ candidate)
    ↔ IsEnough numbers gains set candidate)
    → ((set : List Bool) → place + 1 ≤ place_of set → place_of set < size → (candidate : ℤ)
    → (number_in numbers (1 + 2 * place_of set) ≤ℤ candidate) ↔ IsEnough old gains set candidate)
    → (set : List Bool) → place ≤ place_of set → place_of set < size → (candidate : ℤ)
    → (number_in spread (1 + 2 * place_of set) ≤ℤ candidate) ↔ IsEnough old gains set candidate
grown-spread numbers old gains spread place size beside is same_below here before set low within candidate =
    choose (cases_eq (place_of set) place)
  where
    choose : (place_of set ≡ place) ⊎ (place_of set ≡ place → ⊥)
        → (number_in spread (1 + 2 * place_of set) ≤ℤ candidate) ↔ IsEnough old gains set candidate
    choose (inl same) = (
      λ is_low.
          IsEnough-same numbers old gains set candidate same_here ((here set same candidate).0 (rw there at is_low)),
      λ enough. rw there ((here set same candidate).1
          (IsEnough-same old numbers gains set candidate (λ p within'. sym (same_here p within')) enough)),
    )
      where
        same_here : (p : ℕ) → p ≤ place_of set → number_in numbers p ≡ number_in old p
        same_here p within' = same_below p (omega (arith, within', same))

        there : number_in spread (1 + 2 * place_of set) ≡ beside
        there = rw same is.beside_it
    choose (inr apart) =
        let more : place + 1 ≤ place_of set = omega (arith, low, apart) in
        rw (is.others (1 + 2 * place_of set) (omega (arith, more)) (omega (arith, more)))
        (before set more within candidate)

pub modest-spread : (numbers spread : List ℤ) (place : ℕ) (beside : ℤ) → IsSpread numbers spread place beside
    → AreModest numbers
    → pos 0 ≤ℤ beside → beside ≤ℤ pos (100000 * (place + 1)) → AreModest spread
modest-spread numbers spread place beside is modest low high = record { not_below = not_below; not_above = not_above }
  where
    twice : (number : ℤ) (place : ℕ) → number ≤ℤ pos (100000 * place) → number ≤ℤ pos (100000 * (2 * place))
    twice number place is = omega (arith, ints)

    more : (number : ℤ) (place : ℕ) → number ≤ℤ pos (100000 * (place + 1)) → number ≤ℤ pos (100000 * (1 + 2 * place))
    more number place is = omega (arith, ints)

    not_below : (p : ℕ) → pos 0 ≤ℤ number_in spread p
    not_below p = choose (cases_eq p (2 * place))
      where
        pick : p ≢ 2 * place → (p ≡ 1 + 2 * place) ⊎ (p ≡ 1 + 2 * place → ⊥) → pos 0 ≤ℤ number_in spread p
        pick not_low (inl same) = rw (same, is.beside_it) low
        pick not_low (inr apart) = rw (is.others p not_low apart) (modest.not_below p)

        choose : (p ≡ 2 * place) ⊎ (p ≡ 2 * place → ⊥) → pos 0 ≤ℤ number_in spread p
        choose (inl same) = rw (same, is.moved) (modest.not_below place)
        choose (inr apart) = pick apart (cases_eq p (1 + 2 * place))

    not_above : (p : ℕ) → number_in spread p ≤ℤ pos (100000 * p)
    not_above p = choose (cases_eq p (2 * place))
      where
        pick : p ≢ 2 * place → (p ≡ 1 + 2 * place) ⊎ (p ≡ 1 + 2 * place → ⊥) → number_in spread p ≤ℤ pos (100000 * p)
        pick not_low (inl same) = rw (same, is.beside_it) (more beside place high)
        pick not_low (inr apart) = rw (is.others p not_low apart) (modest.not_above p)

        choose : (p ≡ 2 * place) ⊎ (p ≡ 2 * place → ⊥) → number_in spread p ≤ℤ pos (100000 * p)
        choose (inl same) = rw (same, is.moved) (twice (number_in numbers place) place (modest.not_above place))
        choose (inr apart) = pick apart (cases_eq p (1 + 2 * place))
