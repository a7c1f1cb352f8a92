-- Members of lists that are mapped, filtered or a range.
use Rattle.std.proofs.Common.{◌≡◌, ◌+◌, ◌<◌, ◌⊎◌, inl, inr, ℕ, zero, suc, Bool, true, false, cond, List, [], ◌∷◌}
use Rattle.std.proofs.Common.{filter, map, ap, sym, subst, ◌∙◌, arith}
use Rattle.std.proofs.lemmas.Bool.{cases_Bool, cond-false, cond-true}
use Rattle.std.proofs.lemmas.List.Elements.{All-head, All-tail}
use Rattle.std.specs.List.{All, range_with_len}
use Rattle.tree_certificate.proofs.Sums.{IsIn}

pub IsIn-map : {X Y : Type 0} (f : X → Y) (x : X) (xs : List X) → IsIn x xs → IsIn (f x) (map f xs)
IsIn-map f x [] within = absurd within
IsIn-map f x (first ∷ xs) (inl is) = inl (ap f is)
IsIn-map f x (first ∷ xs) (inr later) = inr (IsIn-map f x xs later)

pub IsIn-filter : {X : Type 0} (test : X → Bool) (x : X) (xs : List X) → IsIn x xs → test x ≡ true
    → IsIn x (filter test xs)
IsIn-filter test x [] within passes = absurd within
IsIn-filter {X} test x (first ∷ xs) (inl is) passes =
    subst (λ (kept : List X). IsIn x kept) (sym (cond-true (test first) (first ∷ filter test xs) (filter test xs)
    (ap test (sym is) ∙ passes))) (inl is)
IsIn-filter {X} test x (first ∷ xs) (inr later) passes =
    choose (IsIn-filter test x xs later passes) (cases_Bool (test first))
  where
    choose : IsIn x (filter test xs) → (test first ≡ true) ⊎ (test first ≡ false)
        → IsIn x (cond (test first) (first ∷ filter test xs) (filter test xs))
    choose rest (inl keeps) =
        subst (λ (kept : List X). IsIn x kept) (sym (cond-true (test first) (first ∷ filter test xs) (filter test xs)
        keeps)) (inr rest)
    choose rest (inr drops) =
        subst (λ (kept : List X). IsIn x kept) (sym (cond-false (test first) (first ∷ filter test xs) (filter test xs)
        drops)) rest

pub IsIn-range : (from place count number : ℕ) → place < count → from + place ≡ number
    → IsIn number (range_with_len from count)
IsIn-range from place zero number within is = absurd (omega arith)
IsIn-range from zero (suc count) number within is = inl (omega arith)
IsIn-range from (suc place) (suc count) number within is =
    inr (IsIn-range (from + 1) place count number (omega arith) (omega arith))

pub All-at : {X : Type 0} (P : X → Type 0) (x : X) (xs : List X) → All P xs → IsIn x xs → P x
All-at P x [] each within = absurd within
All-at P x (first ∷ xs) each (inl is) = subst P (sym is) (All-head P first xs each)
All-at P x (first ∷ xs) each (inr later) = All-at P x xs (All-tail P first xs each) later
