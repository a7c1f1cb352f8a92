-- Lists that get an element at their end, and sums over them.
use Rattle.std.proofs.Common.{◌≡◌, ◌≢◌, ◌⊎◌, inl, inr, ◌<◌, ℕ, zero, suc, ℤ, pos, ◌+ℤ◌, ◌-ℤ◌, ◌≤ℤ◌, List, [], ◌∷◌, ◌++◌}
use Rattle.std.proofs.Common.{length, get_or, ap, sym, refl, ◌∙◌, arith}
use Rattle.std.proofs.lemmas.Int.{ints}
use Rattle.std.specs.List.{Contains}
use Rattle.tree_certificate.proofs.Sums.{Different, IsIn, sum_of, sum_of-gain}

pub IsIn-left : {X : Type 0} (y : X) (xs ys : List X) → IsIn y xs → IsIn y (xs ++ ys)
IsIn-left y [] ys within = absurd within
IsIn-left y (x ∷ xs) ys (inl is) = inl is
IsIn-left y (x ∷ xs) ys (inr later) = inr (IsIn-left y xs ys later)

pub IsIn-push : {X : Type 0} (y : X) (xs : List X) → IsIn y (xs ++ y ∷ [])
IsIn-push y [] = inl refl
IsIn-push y (x ∷ xs) = inr (IsIn-push y xs)

pub IsIn-push_cases : {X : Type 0} (y last : X) (xs : List X) → IsIn y (xs ++ last ∷ []) → IsIn y xs ⊎ (y ≡ last)
IsIn-push_cases y last [] (inl is) = inr is
IsIn-push_cases y last [] (inr later) = absurd later
IsIn-push_cases y last (x ∷ xs) (inl is) = inl (inl is)
IsIn-push_cases {X} y last (x ∷ xs) (inr later) = choose (IsIn-push_cases y last xs later)
  where
    choose : IsIn y xs ⊎ (y ≡ last) → IsIn y (x ∷ xs) ⊎ (y ≡ last)
    choose (inl within) = inl (inr within)
    choose (inr is) = inr is

pub Different-push : {X : Type 0} (key : X → ℕ) (last : X) (xs : List X) → Different key xs
    → ((x : X) → IsIn x xs → key last ≢ key x) → Different key (xs ++ last ∷ [])
Different-push key last [] different apart = ((λ y within. absurd within), tt)
Different-push {X} key last (x ∷ xs) different apart =
    (first, Different-push key last xs different.1 (λ z within. apart z (inr within)))
  where
    first : (y : X) → IsIn y (xs ++ last ∷ []) → key y ≢ key x
    first y within = choose (IsIn-push_cases y last xs within)
      where
        choose : IsIn y xs ⊎ (y ≡ last) → key y ≢ key x
        choose (inl before) = different.0 y before
        choose (inr is) = λ same. apart x (inl refl) (sym (ap key is) ∙ same)

pub Contains-from_IsIn : {X : Type 0} (y : X) (xs : List X) → IsIn y xs → Contains xs y
Contains-from_IsIn y [] within = absurd within
Contains-from_IsIn y (x ∷ xs) (inl is) = (zero, omega arith, sym is)
Contains-from_IsIn y (x ∷ xs) (inr later) = let found = Contains-from_IsIn y xs later in
    (suc found.0, omega (arith, found.1), found.2)

pub IsIn-at : {X : Type 0} (xs : List X) (place : ℕ) (d : X) → place < length xs → IsIn (get_or xs place d) xs
IsIn-at [] place d within = absurd (omega arith)
IsIn-at (x ∷ xs) zero d within = inl refl
IsIn-at (x ∷ xs) (suc place) d within = inr (IsIn-at xs place d (omega arith))

regrouped : (a b c : ℤ) → (a +ℤ (b +ℤ c)) ≡ ((a +ℤ b) +ℤ c)
regrouped a b c = omega (arith, ints)

alone : (a : ℤ) → (a +ℤ pos 0) ≡ (pos 0 +ℤ a)
alone a = omega (arith, ints)

pub sum_of-push : {X : Type 0} (f : X → ℤ) (last : X) (xs : List X)
    → sum_of f (xs ++ last ∷ []) ≡ (sum_of f xs +ℤ f last)
sum_of-push f last [] = alone (f last)
sum_of-push f last (x ∷ xs) = ap (λ rest. f x +ℤ rest) (sum_of-push f last xs) ∙ regrouped (f x) (sum_of f xs) (f last)

pub sum_of-same : {X : Type 0} (f g : X → ℤ) (xs : List X) → ((x : X) → IsIn x xs → f x ≡ g x)
    → sum_of f xs ≡ sum_of g xs
sum_of-same f g [] each = refl
sum_of-same f g (x ∷ xs) each = ap (λ first. first +ℤ sum_of f xs) (each x (inl refl))
    ∙ ap (λ rest. g x +ℤ rest) (sum_of-same f g xs (λ y within. each y (inr within)))

pub sum_of-none : {X : Type 0} (f : X → ℤ) (xs : List X) → ((x : X) → IsIn x xs → f x ≡ pos 0) → sum_of f xs ≡ pos 0
sum_of-none f [] each = refl
sum_of-none f (x ∷ xs) each = ap (λ first. first +ℤ sum_of f xs) (each x (inl refl))
    ∙ ap (λ rest. pos 0 +ℤ rest) (sum_of-none f xs (λ y within. each y (inr within)))

same_is_le : (a b : ℤ) → a ≡ b → a ≤ℤ b
same_is_le a b is = rw is (omega (arith, ints))

falls : (a b gain : ℤ) → a ≡ (b +ℤ gain) → (a +ℤ (pos 0 -ℤ gain)) ≤ℤ b
falls a b gain is = rw is (omega (arith, ints))

both : (a b gain : ℤ) → (a +ℤ (pos 0 -ℤ gain)) ≤ℤ b → (b +ℤ gain) ≤ℤ a → a ≡ (b +ℤ gain)
both a b gain one other = omega (arith, ints)

-- One element has what is added beside, and all others the same.
pub sum_of-more : {X : Type 0} (key : X → ℕ) (f g : X → ℤ) (gain : ℤ) (y : X) (xs : List X) → Different key xs
    → IsIn y xs → f y ≡ (g y +ℤ gain)
    → ((x : X) → IsIn x xs → key x ≢ key y → f x ≡ g x) → sum_of f xs ≡ (sum_of g xs +ℤ gain)
sum_of-more key f g gain y xs different within more others =
    both (sum_of f xs) (sum_of g xs) gain
    (sum_of-gain key f g (pos 0 -ℤ gain) y xs different within (falls (f y) (g y) gain more)
    (λ x at apart. same_is_le (f x) (g x) (others x at apart)))
    (sum_of-gain key g f gain y xs different within (same_is_le (g y +ℤ gain) (f y) (sym more))
    (λ x at apart. same_is_le (g x) (f x) (sym (others x at apart))))
