-- The greatest of some numbers, looked at one after another: of the edges into a colour, and of those from one vertex.
use Rattle.std.proofs.Common.{◌≡◌, ◌+◌, ◌<◌, ◌↔◌, ◌⊎◌, inl, inr, ℕ, ℤ, pos, negsuc, ◌≤ℤ◌, ◌<ℤ◌, cond, List, [], ◌∷◌}
use Rattle.std.proofs.Common.{fold, map, refl, subst, arith}
use Rattle.std.proofs.lemmas.Bool.{cases_eq}
use Rattle.std.proofs.lemmas.Int.{clamps, fold-int_max_bounds, ints}
use Rattle.std.specs.Cmp.{int_ranks}
use Rattle.std.specs.Int.{int_max}
use Rattle.std.specs.Ordering.{MatchOrdering, int_cmp, is_lt, ord_max}
use Rattle.std.specs.declared.cmp.Ordering.{Ordering}
use Rattle.std.specs.declared.cmp.Ordering.TheVariants.{Less, Equal, Greater}
use Rattle.std.specs.List.{All}
use Rattle.colour_graph.specs.Cap.{greatest}
use Rattle.colour_graph.specs.Graph.{IsScore}
use Rattle.price_bound.specs.inside.Exact.{IsGreater}
use Rattle.tree_certificate.proofs.Members.{All-at, IsIn-map}
use Rattle.tree_certificate.proofs.Sums.{IsIn}

-- the greater of two numbers is one of them
pub IsGreater-first : (most number : ℤ) → number ≤ℤ most → IsGreater most most number
IsGreater-first most number low = λ upper. (λ high. (high, joined upper high), λ both. both.0)
  where
    joined : (upper : ℤ) → most ≤ℤ upper → number ≤ℤ upper
    joined upper high = omega (arith, ints)

pub IsGreater-second : (most number : ℤ) → most ≤ℤ number → IsGreater number most number
IsGreater-second most number low = λ upper. (λ high. (joined upper high, high), λ both. both.1)
  where
    joined : (upper : ℤ) → number ≤ℤ upper → most ≤ℤ upper
    joined upper high = omega (arith, ints)

-- no number that counts before a place is above one, nor is 0
pub record IsAbove (Counts : ℕ → Type 0) (number : ℕ → ℤ) (past : ℕ) (upper : ℤ) : Type 0 where
  pub zero : pos 0 ≤ℤ upper
  pub each : (place : ℕ) → place < past → Counts place → number place ≤ℤ upper

-- the greatest number that counts before a place, or 0
abbrev pub IsGreatest : (ℕ → Type 0) → (ℕ → ℤ) → ℕ → ℤ → Type 0
IsGreatest Counts number past most = (upper : ℤ) → (most ≤ℤ upper) ↔ IsAbove Counts number past upper

pub greatest-none : (Counts : ℕ → Type 0) (number : ℕ → ℤ) (past : ℕ) → ((place : ℕ) → place < past → Counts place → ⊥)
    → IsGreatest Counts number past (pos 0)
greatest-none Counts number past none = λ upper.
    (λ low. record { zero = low; each = λ place below counts. absurd (none place below counts) }, λ above. above.zero)

pub greatest-with : (Counts : ℕ → Type 0) (number : ℕ → ℤ) (place : ℕ) (most more : ℤ) → Counts place
    → IsGreatest Counts number place most → IsGreater more most (number place)
    → IsGreatest Counts number (place + 1) more
greatest-with Counts number place most more counts so_far both upper = (to, from)
  where
    to : more ≤ℤ upper → IsAbove Counts number (place + 1) upper
    to low = record { zero = before.zero; each = each }
      where
        before : IsAbove Counts number place upper
        before = (so_far upper).0 (((both upper).0 low).0)

        each : (other : ℕ) → other < place + 1 → Counts other → number other ≤ℤ upper
        each other at here = choose (cases_eq other place)
          where
            choose : (other ≡ place) ⊎ (other ≡ place → ⊥) → number other ≤ℤ upper
            choose (inl is) = rw is (((both upper).0 low).1)
            choose (inr apart) = before.each other (omega (arith, at, apart)) here

    from : IsAbove Counts number (place + 1) upper → more ≤ℤ upper
    from above = (both upper).1 (
      (so_far upper).1 (record { zero = above.zero; each = λ other at. above.each other (omega (arith, at)) }),
      above.each place (omega arith) counts,
    )

pub greatest-without : (Counts : ℕ → Type 0) (number : ℕ → ℤ) (place : ℕ) (most : ℤ) → (Counts place → ⊥)
    → IsGreatest Counts number place most
    → IsGreatest Counts number (place + 1) most
greatest-without Counts number place most none so_far upper = (to, from)
  where
    to : most ≤ℤ upper → IsAbove Counts number (place + 1) upper
    to low = record { zero = before.zero; each = each }
      where
        before : IsAbove Counts number place upper
        before = (so_far upper).0 low

        each : (other : ℕ) → other < place + 1 → Counts other → number other ≤ℤ upper
        each other at here = choose (cases_eq other place)
          where
            choose : (other ≡ place) ⊎ (other ≡ place → ⊥) → number other ≤ℤ upper
            choose (inl is) = absurd (none (subst Counts is here))
            choose (inr apart) = before.each other (omega (arith, at, apart)) here

    from : IsAbove Counts number (place + 1) upper → most ≤ℤ upper
    from above = (so_far upper).1 (record {
      zero = above.zero;
      each = λ other at. above.each other (omega (arith, at));
    })

-- a bound of 0 and of each number bounds the greatest
fold-low : (first upper : ℤ) (ns : List ℤ) → first ≤ℤ upper → ((n : ℤ) → IsIn n ns → n ≤ℤ upper)
    → fold int_max first ns ≤ℤ upper
fold-low first upper [] low each = low
fold-low first upper (n ∷ ns) low each =
    fold-low (int_max first n) upper ns (greater first n upper low (each n (inl refl)))
    (λ m within. each m (inr within))
  where
    greater : (a b c : ℤ) → a ≤ℤ c → b ≤ℤ c → int_max a b ≤ℤ c
    greater a b c one other = omega (arith, ints, clamps)

pub greatest-low : {X : Type 0} (f : X → ℤ) (upper : ℤ) (xs : List X) → pos 0 ≤ℤ upper
    → ((x : X) → IsIn x xs → f x ≤ℤ upper) → greatest (map f xs) ≤ℤ upper
greatest-low {X} f upper xs not_below each = fold-low (pos 0) upper (map f xs) not_below (mapped xs each)
  where
    mapped : (ys : List X) → ((x : X) → IsIn x ys → f x ≤ℤ upper) → (n : ℤ) → IsIn n (map f ys) → n ≤ℤ upper
    mapped [] each' n within = absurd within
    mapped (y ∷ ys) each' n (inl is) = rw is (each' y (inl refl))
    mapped (y ∷ ys) each' n (inr later) = mapped ys (λ x within. each' x (inr within)) n later

pub greatest-high : {X : Type 0} (f : X → ℤ) (xs : List X)
    → (pos 0 ≤ℤ greatest (map f xs)) × ((x : X) → IsIn x xs → f x ≤ℤ greatest (map f xs))
greatest-high {X} f xs = (bounds.0, each)
  where
    bounds : (pos 0 ≤ℤ greatest (map f xs)) × All (λ n. n ≤ℤ greatest (map f xs)) (map f xs)
    bounds = fold-int_max_bounds (pos 0) (map f xs) (greatest (map f xs)) refl

    each : (x : X) → IsIn x xs → f x ≤ℤ greatest (map f xs)
    each x within = All-at (λ (n : ℤ). n ≤ℤ greatest (map f xs)) (f x) (map f xs) bounds.1 (IsIn-map f x xs within)

same_number : (a b : ℤ) → a ≤ℤ b → b ≤ℤ a → a ≡ b
same_number a b one other = omega (arith, ints)

self : (a : ℤ) → a ≤ℤ a
self a = omega (arith, ints)

-- What counts is what a list has: then the greatest number that counts is the greatest of the list.
pub greatest-is : (Counts : ℕ → Type 0) (number : ℕ → ℤ) (past : ℕ) (xs : List ℕ) (most : ℤ)
    → ((place : ℕ) → IsIn place xs → (place < past) × Counts place)
    → ((place : ℕ) → place < past → Counts place → IsIn place xs) → IsGreatest Counts number past most
    → most ≡ greatest (map number xs)
greatest-is Counts number past xs most counted listed is =
    let bounds = greatest-high number xs in
    let least = (is most).0 (self most) in
    same_number most (greatest (map number xs))
    ((is (greatest (map number xs))).1 (record {
      zero = bounds.0;
      each = λ place below counts. bounds.1 place (listed place below counts);
    }))
    (greatest-low number most xs least.zero
    (λ place within. least.each place (counted place within).0 (counted place within).1))

-- the same under other names
pub greater-as : (more more' most most' number number' : ℤ) → more' ≡ more → most ≡ most' → number ≡ number'
    → IsGreater more most number → IsGreater more' most' number'
greater-as more more' most most' number number' same_more same_most same_number' is =
    rw (same_more, ← same_most, ← same_number') is

-- what the method `max` gives
pub IsGreater-max : (most number more : ℤ) → more ≡ ord_max int_cmp most number → IsGreater more most number
IsGreater-max most number more is = choose (int_cmp number most) (int_ranks number most) is
  where
    first : number ≤ℤ most → more ≡ most → IsGreater more most number
    first low same = rw same (IsGreater-first most number low)

    second : most ≤ℤ number → more ≡ number → IsGreater more most number
    second low same = rw same (IsGreater-second most number low)

    choose : (order : Ordering) → MatchOrdering order (number <ℤ most) (number ≡ most) (most <ℤ number)
        → more ≡ cond (is_lt order) most number → IsGreater more most number
    choose Less less same = first (omega (arith, ints)) same
    choose Equal equal same = second (omega (arith, ints)) same
    choose Greater less same = second (omega (arith, ints)) same

pub IsScore-greater : (most number more : ℤ) → IsGreater more most number → IsScore most → IsScore number → IsScore more
IsScore-greater most number more greater one other = record {
  not_below = joined (one.not_below) (((greater more).0 (self more)).0);
  not_above = (greater (pos 100000)).1 (one.not_above, other.not_above);
}
  where
    joined : negsuc 99999 ≤ℤ most → most ≤ℤ more → negsuc 99999 ≤ℤ more
    joined low next = omega (arith, ints)

pub greater-not_below : (most number more : ℤ) → IsGreater more most number → pos 0 ≤ℤ most → pos 0 ≤ℤ more
greater-not_below most number more greater low = joined low (((greater more).0 (self more)).0)
  where
    joined : pos 0 ≤ℤ most → most ≤ℤ more → pos 0 ≤ℤ more
    joined low' next = omega (arith, ints)
