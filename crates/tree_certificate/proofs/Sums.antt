-- Sums over lists whose elements differ by a key.
use Rattle.std.proofs.Common.{◌≡◌, ◌≢◌, ◌⊎◌, inl, inr, ℕ, ℤ, pos, ◌+ℤ◌, ◌-ℤ◌, ◌≤ℤ◌, List, [], ◌∷◌, map, ap, sym, refl}
use Rattle.std.proofs.Common.{subst, ◌∙◌, arith}
use Rattle.std.proofs.lemmas.Bool.{cases_eq}
use Rattle.std.proofs.lemmas.Int.{ints}
use Rattle.colour_graph.specs.Colourful.{total}

abbrev pub sum_of : {X : Type 0} → (X → ℤ) → List X → ℤ
sum_of f xs = total (map f xs)

abbrev pub IsIn : {X : Type 0} → X → List X → Type 0
IsIn y [] = ⊥
IsIn y (x ∷ xs) = (y ≡ x) ⊎ IsIn y xs

-- no two places have one key
abbrev pub Different : {X : Type 0} → (X → ℕ) → List X → Type 0
Different key [] = Unit {0}
Different {X} key (x ∷ xs) = ((y : X) → IsIn y xs → key y ≢ key x) × Different key xs

added : (a b c d : ℤ) → a ≤ℤ b → c ≤ℤ d → (a +ℤ c) ≤ℤ (b +ℤ d)
added a b c d one other = omega (arith, ints)

gain_first : (a b c d gain : ℤ) → (a +ℤ gain) ≤ℤ b → c ≤ℤ d → ((a +ℤ c) +ℤ gain) ≤ℤ (b +ℤ d)
gain_first a b c d gain one other = omega (arith, ints)

gain_later : (a b c d gain : ℤ) → a ≤ℤ b → (c +ℤ gain) ≤ℤ d → ((a +ℤ c) +ℤ gain) ≤ℤ (b +ℤ d)
gain_later a b c d gain one other = omega (arith, ints)

pub sum_of-le : {X : Type 0} (f g : X → ℤ) (xs : List X) → ((x : X) → IsIn x xs → f x ≤ℤ g x)
    → sum_of f xs ≤ℤ sum_of g xs
sum_of-le f g [] each = omega (arith, ints)
sum_of-le f g (x ∷ xs) each =
    added (f x) (g x) (sum_of f xs) (sum_of g xs) (each x (inl refl))
    (sum_of-le f g xs (λ y within. each y (inr within)))

pub sum_of-zero : {X : Type 0} (f : X → ℤ) (xs : List X) → ((x : X) → IsIn x xs → f x ≤ℤ pos 0) → sum_of f xs ≤ℤ pos 0
sum_of-zero f [] each = omega (arith, ints)
sum_of-zero f (x ∷ xs) each =
    added (f x) (pos 0) (sum_of f xs) (pos 0) (each x (inl refl)) (sum_of-zero f xs (λ y within. each y (inr within)))

-- One element gains what is added, and no other loses.
pub sum_of-gain : {X : Type 0} (key : X → ℕ) (f g : X → ℤ) (gain : ℤ) (y : X) (xs : List X) → Different key xs
    → IsIn y xs → (f y +ℤ gain) ≤ℤ g y
    → ((x : X) → IsIn x xs → key x ≢ key y → f x ≤ℤ g x) → (sum_of f xs +ℤ gain) ≤ℤ sum_of g xs
sum_of-gain key f g gain y [] different within more others = absurd within
sum_of-gain {X} key f g gain y (x ∷ xs) different (inl same) more others =
    gain_first (f x) (g x) (sum_of f xs) (sum_of g xs) gain (subst (λ (z : X). (f z +ℤ gain) ≤ℤ g z) same more)
    (sum_of-le f g xs (λ z within. others z (inr within) (λ is. different.0 z within (is ∙ ap key same))))
sum_of-gain key f g gain y (x ∷ xs) different (inr later) more others =
    gain_later (f x) (g x) (sum_of f xs) (sum_of g xs) gain (others x (inl refl) (λ is. different.0 y later (sym is)))
    (sum_of-gain key f g gain y xs different.1 later more (λ z within. others z (inr within)))

turned : (a b c d : ℤ) → (a +ℤ b) ≤ℤ (c +ℤ d) → (b +ℤ a) ≤ℤ (d +ℤ c)
turned a b c d more = omega (arith, ints)

other_gains : (a b c d : ℤ) → (a +ℤ b) ≤ℤ (c +ℤ d) → (b +ℤ (a -ℤ c)) ≤ℤ d
other_gains a b c d more = omega (arith, ints)

paid : (a b c d : ℤ) → (c +ℤ (a -ℤ b)) ≤ℤ d → (a +ℤ c) ≤ℤ (b +ℤ d)
paid a b c d more = omega (arith, ints)

-- What the first element loses a later one gains.
first_loses : {X : Type 0} (key : X → ℕ) (f g : X → ℤ) (y z x : X) (xs : List X) → Different key (x ∷ xs) → y ≡ x
    → IsIn z xs → (f y +ℤ f z) ≤ℤ (g y +ℤ g z)
    → ((w : X) → IsIn w (x ∷ xs) → key w ≢ key y → key w ≢ key z → f w ≤ℤ g w) → sum_of f (x ∷ xs) ≤ℤ sum_of g (x ∷ xs)
first_loses {X} key f g y z x xs different same later more others =
    paid (f x) (g x) (sum_of f xs) (sum_of g xs)
    (sum_of-gain key f g (f x -ℤ g x) z xs different.1 later
    (other_gains (f x) (f z) (g x) (g z) (subst (λ (w : X). (f w +ℤ f z) ≤ℤ (g w +ℤ g z)) same more))
    (λ w within not_z. others w (inr within) (λ is. different.0 w within (is ∙ ap key same)) not_z))

-- Two elements lose nothing together, and no other loses.
pub sum_of-two : {X : Type 0} (key : X → ℕ) (f g : X → ℤ) (y z : X) (xs : List X) → Different key xs → IsIn y xs
    → IsIn z xs → key y ≢ key z
    → (f y +ℤ f z) ≤ℤ (g y +ℤ g z) → ((x : X) → IsIn x xs → key x ≢ key y → key x ≢ key z → f x ≤ℤ g x)
    → sum_of f xs ≤ℤ sum_of g xs
sum_of-two key f g y z [] different within also apart more others = absurd within
sum_of-two key f g y z (x ∷ xs) different (inl one) (inl other) apart more others =
    absurd (apart (ap key (one ∙ sym other)))
sum_of-two {X} key f g y z (x ∷ xs) different (inl one) (inr later) apart more others =
    first_loses key f g y z x xs different one later more others
sum_of-two {X} key f g y z (x ∷ xs) different (inr later) (inl other) apart more others =
    first_loses key f g z y x xs different other later (turned (f y) (f z) (g y) (g z) more)
    (λ w within not_z not_y. others w within not_y not_z)
sum_of-two key f g y z (x ∷ xs) different (inr later) (inr also) apart more others =
    added (f x) (g x) (sum_of f xs) (sum_of g xs) (others x (inl refl) (λ is. different.0 y later (sym is))
    (λ is. different.0 z also (sym is)))
    (sum_of-two key f g y z xs different.1 later also apart more (λ w within. others w (inr within)))

-- the element with a key, or none
pub with_key : {X : Type 0} (key : X → ℕ) (k : ℕ) (xs : List X)
    → ((x : X) × (IsIn x xs) × (key x ≡ k)) ⊎ ((x : X) → IsIn x xs → key x ≢ k)
with_key key k [] = inr (λ x within. absurd within)
with_key {X} key k (x ∷ xs) = choose (cases_eq (key x) k) (with_key key k xs)
  where
    choose : (key x ≡ k) ⊎ (key x ≡ k → ⊥) → ((y : X) × (IsIn y xs) × (key y ≡ k)) ⊎ ((y : X) → IsIn y xs → key y ≢ k)
        → ((y : X) × (IsIn y (x ∷ xs)) × (key y ≡ k)) ⊎ ((y : X) → IsIn y (x ∷ xs) → key y ≢ k)
    choose (inl here) rest = inl (x, inl refl, here)
    choose (inr apart) (inl (y, within, is)) = inl (y, inr within, is)
    choose (inr apart) (inr none) = inr each
      where
        each : (y : X) → IsIn y (x ∷ xs) → key y ≢ k
        each y (inl same) = λ is. apart (sym (ap key same) ∙ is)
        each y (inr within) = none y within

-- One key has one element.
pub same_key : {X : Type 0} (key : X → ℕ) (y z : X) (xs : List X) → Different key xs → IsIn y xs → IsIn z xs
    → key y ≡ key z → y ≡ z
same_key key y z [] different within also is = absurd within
same_key key y z (x ∷ xs) different (inl one) (inl other) is = one ∙ sym other
same_key key y z (x ∷ xs) different (inl one) (inr later) is = absurd (different.0 z later (sym is ∙ ap key one))
same_key key y z (x ∷ xs) different (inr later) (inl other) is = absurd (different.0 y later (is ∙ ap key other))
same_key key y z (x ∷ xs) different (inr later) (inr also) is = same_key key y z xs different.1 later also is
