-- Of linear_sum: its places one by one, as rdbe2 adds them.
use Rattle.std.proofs.Common.{◌≡◌, ◌≤◌, ◌<◌, ◌+◌, ℕ, zero, suc, ℤ, pos, ◌+ℤ◌, ◌*ℤ◌, List, [], ◌∷◌, length, take, get_or}
use Rattle.std.proofs.Common.{arith, add-one, refl, ap}
use Rattle.std.proofs.lemmas.Int.{ints}
use Rattle.element_table.specs.Rule.{linear_sum}

zero_last : (x : ℤ) → x +ℤ pos 0 ≡ pos 0 +ℤ x
zero_last x = omega (arith, ints)

regroup : (a b c d : ℤ) → b ≡ c +ℤ d → a +ℤ b ≡ (a +ℤ c) +ℤ d
regroup a b c d is = omega (arith, ints)

-- what a further place adds
pub linear_sum-more : (coefficients : List ℤ) (counts : List ℕ) (i : ℕ) → i < length coefficients → i < length counts
    → linear_sum (take (suc i) coefficients) counts
    ≡ linear_sum (take i coefficients) counts +ℤ (get_or coefficients i (pos 0) *ℤ pos (get_or counts i 0))
linear_sum-more (coefficient ∷ coefficients) (count ∷ counts) zero a b = zero_last (coefficient *ℤ pos count)
linear_sum-more (coefficient ∷ coefficients) (count ∷ counts) (suc i) a b =
    regroup _ _ _ _ (linear_sum-more coefficients counts i (omega arith) (omega arith))
linear_sum-more [] counts i a b = absurd (omega arith)
linear_sum-more (coefficient ∷ coefficients) [] i a b = absurd (omega arith)

-- the number so far, at one more place
pub value-more : (constant value added : ℤ) (coefficients : List ℤ) (counts : List ℕ) (place count : ℕ)
    → place < length coefficients → place < length counts
    → value ≡ constant +ℤ linear_sum (take place coefficients) counts → added
    ≡ get_or coefficients place (pos 0) *ℤ pos count → count ≡ get_or counts place 0
    → value +ℤ added ≡ constant +ℤ linear_sum (take (place + 1) coefficients) counts
value-more constant value added coefficients counts place count in_coefficients in_counts so_far is_added is_count =
    let more = linear_sum-more coefficients counts place in_coefficients in_counts in
    let is : added ≡ get_or coefficients place (pos 0) *ℤ pos (get_or counts place 0) = cc in
    rw (add-one, more, is, so_far) (omega (arith, ints))

-- coefficients past the last count, or counts past the last coefficient, add nothing
pub linear_sum-take : (coefficients : List ℤ) (counts : List ℕ) (i : ℕ)
    → ((place : ℕ) → i ≤ place → get_or counts place 0 ≡ 0) → linear_sum (take i coefficients) counts
    ≡ linear_sum coefficients counts
linear_sum-take [] counts zero none = refl
linear_sum-take [] counts (suc i) none = refl
linear_sum-take (coefficient ∷ coefficients) [] zero none = refl
linear_sum-take (coefficient ∷ coefficients) [] (suc i) none = refl
linear_sum-take (coefficient ∷ coefficients) (count ∷ counts) zero none =
    let here : count ≡ 0 = none 0 (omega arith) in
    let rest : pos 0 ≡ linear_sum coefficients counts =
    linear_sum-take coefficients counts zero (λ place past. none (suc place) (omega arith)) in
    rw here (omega (arith, ints))
linear_sum-take (coefficient ∷ coefficients) (count ∷ counts) (suc i) none =
    ap (λ sum. (coefficient *ℤ pos count) +ℤ sum)
    (linear_sum-take coefficients counts i (λ place past. none (suc place) (omega arith)))
