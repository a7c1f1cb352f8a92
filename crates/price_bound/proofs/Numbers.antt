-- Of number_in: one number of a list is written, and what holds of each number before it, behind it or of all.
use Rattle.std.proofs.Common.{◌≡◌, ◌≢◌, ◌⊎◌, inl, inr, ◌+◌, ◌<◌, ◌≤◌, ℕ, zero, suc, ℤ, pos, negsuc, ◌≤ℤ◌, List, [], ◌∷◌}
use Rattle.std.proofs.Common.{◌++◌, length, slice_set, get_or-set_other, get_or-set_same, sym, subst, arith, SFits, w64}
use Rattle.std.proofs.lemmas.Bool.{cases_eq}
use Rattle.std.proofs.lemmas.Int.{ints}
use Rattle.colour_graph.specs.Graph.{IsScore}
use Rattle.tree_certificate.specs.Number.{number_in}
use Rattle.price_bound.specs.inside.Exact.{IsAmount, IsGainAmount}

pub number_in-same : (numbers : List ℤ) (place : ℕ) (number : ℤ) → place < length numbers
    → number_in (slice_set numbers place number) place ≡ number
number_in-same numbers place number within = get_or-set_same numbers place number (pos 0) within

pub number_in-other : (numbers : List ℤ) (place other : ℕ) (number : ℤ) → other ≢ place
    → number_in (slice_set numbers place number) other ≡ number_in numbers other
number_in-other numbers place other number apart = get_or-set_other numbers place other number (pos 0) apart

pub set-at : (P : ℕ → ℤ → Type 0) (numbers : List ℤ) (place other : ℕ) (number : ℤ) → place < length numbers
    → (other ≡ place → P place number)
    → (other ≢ place → P other (number_in numbers other)) → P other (number_in (slice_set numbers place number) other)
set-at P numbers place other number within here there = choose (cases_eq other place)
  where
    choose : (other ≡ place) ⊎ (other ≡ place → ⊥) → P other (number_in (slice_set numbers place number) other)
    choose (inl is) = rw (is, number_in-same numbers place number within) (here is)
    choose (inr apart) = rw (number_in-other numbers place other number apart) (there apart)

pub set-below : (P : ℕ → ℤ → Type 0) (numbers : List ℤ) (place : ℕ) (number : ℤ) → place < length numbers
    → ((p : ℕ) → p < place → P p (number_in numbers p)) → P place number
    → (p : ℕ) → p < place + 1 → P p (number_in (slice_set numbers place number) p)
set-below P numbers place number within before here p below =
    set-at P numbers place p number within (λ is. here) (λ apart. before p (omega (arith, below, apart)))

pub set-above : (P : ℕ → ℤ → Type 0) (numbers : List ℤ) (place : ℕ) (number : ℤ)
    → ((p : ℕ) → place ≤ p → P p (number_in numbers p))
    → (p : ℕ) → place + 1 ≤ p → P p (number_in (slice_set numbers place number) p)
set-above P numbers place number after p above =
    subst (λ (n : ℤ). P p n) (sym (number_in-other numbers place p number (λ is. omega (arith, is, above))))
    (after p (omega arith))

pub set-each : (P : ℤ → Type 0) (numbers : List ℤ) (place : ℕ) (number : ℤ) → place < length numbers
    → ((p : ℕ) → P (number_in numbers p)) → P number
    → (p : ℕ) → P (number_in (slice_set numbers place number) p)
set-each P numbers place number within each here p =
    set-at (λ q n. P n) numbers place p number within (λ is. here) (λ apart. each p)

-- Amounts and gains fit their type.
fits : (z : ℤ) → pos 0 ≤ℤ z → z ≤ℤ pos 1000000000100000 → SFits w64 z
fits (pos n) low high = record { sfits = omega (arith, ints) }
fits (negsuc n) low high = record { sfits = omega (arith, ints) }

pub SFits-gain : (gain : ℤ) → IsGainAmount gain → SFits w64 gain
SFits-gain gain is = fits gain is.not_below is.not_above

pub SFits-amount : (number : ℤ) → IsAmount number → SFits w64 number
SFits-amount number is = fits number is.not_below (high number is.not_above)
  where
    high : (z : ℤ) → z ≤ℤ pos 1000000000000000 → z ≤ℤ pos 1000000000100000
    high z is = omega (arith, ints)

pub each-push : (P : ℤ → Type 0) (numbers : List ℤ) (number : ℤ) → P (pos 0) → ((p : ℕ) → P (number_in numbers p))
    → P number
    → (p : ℕ) → P (number_in (numbers ++ number ∷ []) p)
each-push P [] number none each is zero = is
each-push P [] number none each is (suc p) = none
each-push P (first ∷ numbers) number none each is zero = each 0
each-push P (first ∷ numbers) number none each is (suc p) = each-push P numbers number none (λ q. each (suc q)) is p

pub IsAmount-score : (score : ℤ) → IsScore score → pos 0 ≤ℤ score → IsAmount score
IsAmount-score score is low = record { not_below = low; not_above = omega (arith, ints, is.not_above) }

pub IsAmount-zero : IsAmount (pos 0)
IsAmount-zero = record { not_below = omega (arith, ints); not_above = omega (arith, ints) }
