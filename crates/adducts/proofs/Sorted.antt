-- Of IsSorted: two sorted lists of the same elements are the same, where elements that tie are the same.
use Rattle.std.proofs.Common.{◌≡◌, ◌<◌, ◌≤◌, ◌+◌, ◌∙◌, ℕ, suc, Bool, true, false, cond, List, [], ◌∷◌, length, get_or}
use Rattle.std.proofs.Common.{refl, sym, ap, arith}
use Rattle.std.specs.Cmp.{IsTotalOrder}
use Rattle.std.specs.List.{AllByRecursion, sum_by}
use Rattle.std.specs.List.Sorted.{IsSorted}
use Rattle.std.specs.Ordering.{is_lt, ordering_reverse}
use Rattle.std.specs.declared.cmp.Ordering.{Ordering}
use Rattle.std.specs.declared.cmp.Ordering.TheVariants.{Less, Equal, Greater}
use Rattle.std.proofs.lemmas.Cmp.{tied_itself}
use Rattle.std.proofs.lemmas.List.Sorted.{ranks_by, sorted_far}
use Rattle.std.proofs.lemmas.List.Sums.{sum_by-cons}

-- no later element is below an earlier one, by recursion on the list
abbrev Ranked : {X : Type 0} → (X → X → Bool) → List X → Type 0
Ranked below [] = Unit {0}
Ranked below (x ∷ xs) = AllByRecursion (λ y. below y x ≡ false) xs × Ranked below xs

-- one for a test that passes
abbrev bit : Bool → ℕ
bit b = cond b 1 0

-- one for an element below another
abbrev one_below : {X : Type 0} → (X → X → Bool) → X → X → ℕ
one_below below x y = bit (below y x)

one : (b : Bool) → b ≡ false → bit b ≡ 0
one true is = (cc)
one false is = refl

not_one : (b : Bool) → bit b ≡ 0 → b ≡ false
not_one true is = absurd (omega (arith, is))
not_one false is = refl

-- where none is below an element, their ones add up to none
none_below : {X : Type 0} (below : X → X → Bool) (x : X) (xs : List X) → AllByRecursion (λ y. below y x ≡ false) xs
    → sum_by (one_below below x) xs ≡ 0
none_below below x [] all = refl
none_below below x (y ∷ xs) all =
    let here = one (below y x) all.0 in
    let later = none_below below x xs all.1 in
    sum_by-cons (one_below below x) y xs ∙ omega (arith, here, later)

-- the first of one list is not below the first of another that has the same elements
not_below : {X : Type 0} (below : X → X → Bool) → ((x : X) → below x x ≡ false) → (x y : X) (xs ys : List X)
    → Ranked below (y ∷ ys)
    → ((f : X → ℕ) → sum_by f (x ∷ xs) ≡ sum_by f (y ∷ ys)) → below x y ≡ false
not_below below itself x y xs ys ranked same =
    let none : sum_by (one_below below y) (y ∷ ys) ≡ 0 = none_below below y (y ∷ ys) (itself y, ranked.0) in
    let sum : one_below below y x + sum_by (one_below below y) xs ≡ 0 =
    sym (sum_by-cons (one_below below y) x xs) ∙ same (one_below below y) ∙ none in
    not_one (below x y) (omega (arith, sum))

same_by_sums : {X : Type 0} (below : X → X → Bool) → ((x : X) → below x x ≡ false)
    → ((x y : X) → below x y ≡ false → below y x ≡ false → x ≡ y)
    → (xs ys : List X) → Ranked below xs → Ranked below ys → ((f : X → ℕ) → sum_by f xs ≡ sum_by f ys) → xs ≡ ys
same_by_sums below itself tied [] [] first second same = refl
same_by_sums below itself tied [] (y ∷ ys) first second same =
    let sum = same (λ x. 1) ∙ sum_by-cons (λ x. 1) y ys in absurd (omega (arith, sum))
same_by_sums below itself tied (x ∷ xs) [] first second same =
    let sum = sym (sum_by-cons (λ x. 1) x xs) ∙ same (λ x. 1) in absurd (omega (arith, sum))
same_by_sums {X} below itself tied (x ∷ xs) (y ∷ ys) first second same =
    let head : x ≡ y =
    tied x y (not_below below itself x y xs ys second same)
    (not_below below itself y x ys xs first (λ f. sym (same f))) in
    let rest : xs ≡ ys = same_by_sums below itself tied xs ys first.1 second.1
    (λ f. let sums = sym (sum_by-cons f x xs) ∙ same f ∙ sum_by-cons f y ys in let firsts : f x
    ≡ f y = ap f head in omega (arith, sums, firsts)) in
    cc

Ranked-from_far : {X : Type 0} (below : X → X → Bool) (xs : List X)
    → ((i j : ℕ) (d : X) → i ≤ j → j < length xs → below (get_or xs j d) (get_or xs i d) ≡ false) → Ranked below xs
Ranked-from_far below [] far = tt
Ranked-from_far {X} below (x ∷ xs) far = (
  each xs (λ j d within. far 0 (suc j) d (omega arith) (omega arith)),
  Ranked-from_far below xs
      (λ i j d before within. far (suc i) (suc j) d (omega arith) (omega arith)),
)
  where
    each : (ys : List X) → ((j : ℕ) (d : X) → j < length ys → below (get_or ys j d) x ≡ false)
        → AllByRecursion (λ y. below y x ≡ false) ys
    each [] all = tt
    each (y ∷ ys) all = (all 0 x (omega arith), each ys (λ j d within. all (suc j) d (omega arith)))

-- two elements of which neither is below the other tie
ties : (r : Ordering) → is_lt r ≡ false → is_lt (ordering_reverse r) ≡ false → r ≡ Equal
ties Less first second = (cc)
ties Equal first second = refl
ties Greater first second = (cc)

pub sorted_same : {X : Type 0} (R : X → X → Ordering) → IsTotalOrder R → ((x y : X) → R x y ≡ Equal → x ≡ y)
    → (xs ys : List X) → IsSorted R xs → IsSorted R ys → ((f : X → ℕ) → sum_by f xs ≡ sum_by f ys) → xs ≡ ys
sorted_same {X} R total tied xs ys first second same =
    same_by_sums (λ x y. is_lt (R x y)) (λ x. ap is_lt (tied_itself total x))
    (λ x y not_under not_over. tied x y (ties (R x y) not_under (ap is_lt (sym (total.antisymm y x)) ∙ not_over)))
    xs ys (ranked xs first) (ranked ys second) same
  where
    ranked : (zs : List X) → IsSorted R zs → Ranked (λ x y. is_lt (R x y)) zs
    ranked zs up =
        Ranked-from_far (λ x y. is_lt (R x y)) zs (sorted_far (λ x y. is_lt (R x y)) (ranks_by total (λ x. x)) zs up)
