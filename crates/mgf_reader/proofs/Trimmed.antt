-- For `trimmed`: what a trimmed list begins with.
use Rattle.std.proofs.Common.{◌≡◌, ◌∙◌, inl, inr, ℕ, Bool, false, List, [], ◌∷◌, ◌++◌, reverse, get_or, length, ◌≤◌}
use Rattle.std.proofs.Common.{refl, sym, ap, arith}
use Rattle.std.proofs.lemmas.Bool.{cases_Bool}
use Rattle.std.proofs.lemmas.Bool.Decides.{nat_tests}
use Rattle.std.proofs.lemmas.List.{reverse-append, reverse-reverse}
use Rattle.mgf_reader.specs.Bytes.{trimmed, trimmed_front, is_edge, is_blank}

pub trimmed_front-head : (p : ℕ → Bool) (xs : List ℕ) (x : ℕ) (rest : List ℕ) → trimmed_front p xs ≡ x ∷ rest
    → p x ≡ false
trimmed_front-head p [] x rest is = cc
trimmed_front-head p (y ∷ ys) x rest is = elim (cases_Bool (p y)) [
  | inl drops ↦ trimmed_front-head p ys x rest (simp drops at is)
  | inr stays ↦ let same : y ∷ ys ≡ x ∷ rest = simp stays at is in let first : y ≡ x = cc in ap p (sym first) ∙ stays
]

-- what the trim drops stands before what it leaves
dropped : (p : ℕ → Bool) (xs : List ℕ) → (gone : List ℕ) × (xs ≡ gone ++ trimmed_front p xs)
dropped p [] = ([], refl)
dropped p (x ∷ xs) = elim (cases_Bool (p x)) [
  | inl drops ↦ let before = dropped p xs in (x ∷ before.0, simp drops (ap (λ rest. x ∷ rest) before.1))
  | inr stays ↦ ([], simp stays)
]

-- a list trimmed at its end is a first part
kept : (p : ℕ → Bool) (xs : List ℕ) → (gone : List ℕ) × (xs ≡ reverse (trimmed_front p (reverse xs)) ++ gone)
kept p xs = let before = dropped p (reverse xs) in (
  reverse before.0,
  sym (reverse-reverse xs) ∙ ap reverse before.1
      ∙ reverse-append before.0 (trimmed_front p (reverse xs)),
)

head_of_part : (p : ℕ → Bool) (xs part gone : List ℕ) → p 0 ≡ false → trimmed_front p xs ≡ part ++ gone
    → p (get_or part 0 0) ≡ false
head_of_part p xs [] gone zero is = zero
head_of_part p xs (x ∷ rest) gone zero is = trimmed_front-head p xs x (rest ++ gone) is

pub trimmed-head : (p : ℕ → Bool) (xs : List ℕ) → p 0 ≡ false → p (get_or (trimmed p xs) 0 0) ≡ false
trimmed-head p xs zero = let part = kept p (trimmed_front p xs) in head_of_part p xs (trimmed p xs) part.0 zero part.1

no_blank_from_no_edge : (byte : ℕ) → is_edge byte ≡ false → is_blank byte ≡ false
no_blank_from_no_edge byte h = grind (arith, nat_tests)

pub trimmed-no_blank : (xs : List ℕ) → is_blank (get_or (trimmed is_edge xs) 0 0) ≡ false
trimmed-no_blank xs = no_blank_from_no_edge (get_or (trimmed is_edge xs) 0 0) (trimmed-head is_edge xs refl)

pub length-trimmed_front : (p : ℕ → Bool) (xs : List ℕ) → length (trimmed_front p xs) ≤ length xs
length-trimmed_front p [] = omega arith
length-trimmed_front p (x ∷ xs) = elim (cases_Bool (p x)) [
  | inl drops ↦ simp drops (omega (arith, length-trimmed_front p xs))
  | inr stays ↦ simp stays (omega arith)
]
