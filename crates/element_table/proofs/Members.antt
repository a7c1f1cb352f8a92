-- Of Listed: members of lists, and lists whose elements each bear a relation to the later ones.
use Rattle.std.proofs.Common.{◌≡◌, ◌<◌, ◌∙◌, ◌⊎◌, inl, inr, ℕ, zero, suc, List, [], ◌∷◌, ◌++◌, length, map, get_or}
use Rattle.std.proofs.Common.{Bool, true, false, cond, refl, sym, ap, subst, arith}
use Rattle.std.specs.List.{AllPairs, Contains, filter}

-- x is an element, by recursion on the list
abbrev pub In : {X : Type 0} → X → List X → Type 0
In x [] = ⊥
In x (y ∷ ys) = (y ≡ x) ⊎ In x ys

-- each element bears R to the later ones, by recursion on the list
abbrev pub Rising : {X : Type 0} → (X → X → Type 0) → List X → Type 0
Rising R [] = Unit {0}
Rising {X} R (x ∷ xs) = ((y : X) → In y xs → R x y) × Rising R xs

pub In_at : {X : Type 0} (x : X) (xs : List X) (k : ℕ) → k < length xs → get_or xs k x ≡ x → In x xs
In_at x [] k within is = absurd (omega arith)
In_at x (y ∷ ys) zero within is = inl is
In_at x (y ∷ ys) (suc k) within is = inr (In_at x ys k (omega arith) is)

pub In-from_Contains : {X : Type 0} (x : X) (xs : List X) → Contains xs x → In x xs
In-from_Contains x xs c = In_at x xs c.0 c.1 c.2

pub Contains-from_In : {X : Type 0} (x : X) (xs : List X) → In x xs → Contains xs x
Contains-from_In x [] h = absurd h
Contains-from_In x (y ∷ ys) (inl is) = (0, omega arith, is)
Contains-from_In x (y ∷ ys) (inr later) =
    let c : Contains ys x = Contains-from_In x ys later in (suc c.0, omega (arith, c.1), c.2)

pub In-append_left : {X : Type 0} (x : X) (xs ys : List X) → In x xs → In x (xs ++ ys)
In-append_left x [] ys h = absurd h
In-append_left x (y ∷ xs) ys (inl is) = inl is
In-append_left x (y ∷ xs) ys (inr later) = inr (In-append_left x xs ys later)

pub In-append_right : {X : Type 0} (x : X) (xs ys : List X) → In x ys → In x (xs ++ ys)
In-append_right x [] ys h = h
In-append_right x (y ∷ xs) ys h = inr (In-append_right x xs ys h)

pub In-append_cases : {X : Type 0} (x : X) (xs ys : List X) → In x (xs ++ ys) → In x xs ⊎ In x ys
In-append_cases x [] ys h = inr h
In-append_cases x (y ∷ xs) ys (inl is) = inl (inl is)
In-append_cases x (y ∷ xs) ys (inr later) =
    elim (In-append_cases x xs ys later) [ inl left ↦ inl (inr left) | inr right ↦ inr right ]

pub In-map : {X Y : Type 0} (f : X → Y) (x : X) (xs : List X) → In x xs → In (f x) (map f xs)
In-map f x [] h = absurd h
In-map f x (y ∷ xs) (inl is) = inl (ap f is)
In-map f x (y ∷ xs) (inr later) = inr (In-map f x xs later)

pub In-map_from : {X Y : Type 0} (f : X → Y) (y : Y) (xs : List X) → In y (map f xs) → (x : X) × In x xs × (f x ≡ y)
In-map_from f y [] h = absurd h
In-map_from f y (x ∷ xs) (inl is) = (x, inl refl, is)
In-map_from {X} f y (x ∷ xs) (inr later) =
    let found : (z : X) × In z xs × (f z ≡ y) = In-map_from f y xs later in
    (found.0, inr found.1, found.2)

pub In-filter : {X : Type 0} (p : X → Bool) (x : X) (xs : List X) → p x ≡ true → In x xs → In x (filter p xs)
In-filter p x [] passed h = absurd h
In-filter {X} p x (y ∷ ys) passed h = step (In-filter p x ys passed) (p y) refl h
  where
    step : (In x ys → In x (filter p ys)) → (b : Bool) → p y ≡ b → In x (y ∷ ys)
        → In x (cond b (y ∷ filter p ys) (filter p ys))
    step rest true is (inl here) = inl here
    step rest true is (inr later) = inr (rest later)
    step rest false is (inl here) = absurd (cc)
    step rest false is (inr later) = rest later

pub In-filter_from : {X : Type 0} (p : X → Bool) (x : X) (xs : List X) → In x (filter p xs) → In x xs × (p x ≡ true)
In-filter_from p x [] h = absurd h
In-filter_from {X} p x (y ∷ ys) h = step (In-filter_from p x ys) (p y) refl h
  where
    step : (In x (filter p ys) → In x ys × (p x ≡ true)) → (b : Bool) → p y ≡ b
        → In x (cond b (y ∷ filter p ys) (filter p ys)) → In x (y ∷ ys) × (p x ≡ true)
    step rest true is (inl here) = (inl here, cc)
    step rest true is (inr later) = (inr (rest later).0, (rest later).1)
    step rest false is later = (inr (rest later).0, (rest later).1)

pub Rising-from_AllPairs : {X : Type 0} (R : X → X → Type 0) (xs : List X) → AllPairs R xs → Rising R xs
Rising-from_AllPairs R [] h = tt
Rising-from_AllPairs {X} R (x ∷ xs) h = (
  (λ y there.
      let c : Contains xs y = Contains-from_In y xs there in
      let P : X → Type 0 = λ z. R x z in
      subst P c.2 (h 0 (suc c.0) y (omega arith) (omega (arith, c.1)))),
  Rising-from_AllPairs R xs (λ i j d earlier within. h (suc i) (suc j) d (omega arith) (omega arith)),
)

pub AllPairs-from_Rising : {X : Type 0} (R : X → X → Type 0) (xs : List X) → Rising R xs → AllPairs R xs
AllPairs-from_Rising R [] h i j d earlier within = absurd (omega arith)
AllPairs-from_Rising R (x ∷ xs) h i zero d earlier within = absurd (omega arith)
AllPairs-from_Rising R (x ∷ xs) h zero (suc j) d earlier within = h.0 _ (In_here xs j d (omega arith))
  where
    In_here : {X : Type 0} (ys : List X) (k : ℕ) (d : X) → k < length ys → In (get_or ys k d) ys
    In_here [] k d in' = absurd (omega arith)
    In_here (y ∷ ys) zero d in' = inl refl
    In_here (y ∷ ys) (suc k) d in' = inr (In_here ys k d (omega arith))
AllPairs-from_Rising R (x ∷ xs) h (suc i) (suc j) d earlier within =
    AllPairs-from_Rising R xs h.1 i j d (omega arith) (omega arith)

pub Rising-append : {X : Type 0} (R : X → X → Type 0) (xs ys : List X) → Rising R xs → Rising R ys
    → ((x y : X) → In x xs → In y ys → R x y) → Rising R (xs ++ ys)
Rising-append R [] ys first second across = second
Rising-append R (x ∷ xs) ys first second across = (
  (λ y there. elim (In-append_cases y xs ys there)
      [ inl left ↦ first.0 y left | inr right ↦ across x y (inl refl) right ]),
  Rising-append R xs ys first.1 second (λ z y in_first in_second. across z y (inr in_first) in_second),
)

pub Rising-map : {X Y : Type 0} (R : X → X → Type 0) (S : Y → Y → Type 0) (f : X → Y)
    → ((x y : X) → R x y → S (f x) (f y)) → (xs : List X) → Rising R xs → Rising S (map f xs)
Rising-map R S f keeps [] h = tt
Rising-map {X} {Y} R S f keeps (x ∷ xs) h = (
  (λ y there.
      let found : (z : X) × In z xs × (f z ≡ y) = In-map_from f y xs there in
      let P : Y → Type 0 = λ w. S (f x) w in
      subst P found.2 (keeps x found.0 (h.0 found.0 found.1))),
  Rising-map R S f keeps xs h.1,
)

-- Two rising lists with the same members are the same, where no two elements bear R to each other both ways.
pub same_from_members : {X : Type 0} (R : X → X → Type 0) → ((x y : X) → R x y → R y x → ⊥) → (xs ys : List X)
    → Rising R xs → Rising R ys → ((x : X) → In x xs → In x ys) → ((x : X) → In x ys → In x xs) → xs ≡ ys
same_from_members R one_way [] [] rising rising' there back = refl
same_from_members R one_way [] (y ∷ ys) rising rising' there back = absurd (back y (inl refl))
same_from_members R one_way (x ∷ xs) [] rising rising' there back = absurd (there x (inl refl))
same_from_members {X} R one_way (x ∷ xs) (y ∷ ys) rising rising' there back =
    let first : x ≡ y = elim (there x (inl refl)) [
      | inl is ↦ sym is
      | inr later ↦ elim (back y (inl refl)) [
        | inl is ↦ is
        | inr later' ↦ absurd (one_way x y (rising.0 y later') (rising'.0 x later))
      ]
    ] in
    let rest : xs ≡ ys = same_from_members R one_way xs ys rising.1 rising'.1
    (λ z in_xs. elim (there z (inr in_xs)) [
      | inl is ↦ absurd (itself x z (rising.0 z in_xs) (first ∙ is))
      | inr later ↦ later
    ])
    (λ z in_ys. elim (back z (inr in_ys)) [
      | inl is ↦ absurd (itself y z (rising'.0 z in_ys) (sym first ∙ is))
      | inr later ↦ later
    ]) in
    cc
  where
    itself : (a b : X) → R a b → a ≡ b → ⊥
    itself a b below is =
        let P : X → Type 0 =
        λ c. R b c in one_way a b below (subst (λ (c : X). R c a) is (subst (λ (c : X). R a c) (sym is) below))
