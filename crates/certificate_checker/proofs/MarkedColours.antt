-- Colours of a set that are marked to be kept or left out, one colour after another, and the place of what is kept.
use Rattle.std.proofs.Common.{◌≡◌, ◌+◌, ◌*◌, ◌/◌, ◌%◌, ◌^◌, ◌<◌, ◌≤◌, ℕ, zero, suc, Bool, true, false, ◌&&◌, IsTrue}
use Rattle.std.proofs.Common.{List, [], ◌∷◌, ◌++◌, length, ap, refl, sym, subst, ◌∙◌, arith, bit_and, pow-suc}
use Rattle.std.specs.Int.{bit_at}
use Rattle.std.specs.Int.Bits.{and_zero_l, and_zero_r}
use Rattle.std.proofs.lemmas.Nat.{and_block}
use Rattle.std.proofs.lemmas.Nat.Bits.{bit_at-suc, bit_at_lowest}
use Rattle.tree_certificate.specs.ColourSet.{IsPartOf, place_of, without}
use Rattle.tree_certificate.proofs.SetParts.{IsPartOf-self}
use Rattle.certificate_checker.specs.inside.Enough.{HasColour}

-- whether a set has the colour with so many before it, and the set without it
abbrev pub has : ℕ → List Bool → Bool
has colour [] = false
has zero (here ∷ set) = here
has (suc colour) (here ∷ set) = has colour set

abbrev pub cut : ℕ → List Bool → List Bool
cut colour [] = []
cut zero (here ∷ set) = false ∷ set
cut (suc colour) (here ∷ set) = here ∷ cut colour set

pub place-cut : (colour : ℕ) (set : List Bool) → has colour set ≡ true
    → place_of set ≡ place_of (cut colour set) + 2 ^ colour
place-cut colour [] is = (cc)
place-cut zero (true ∷ set) is = omega arith
place-cut zero (false ∷ set) is = (cc)
place-cut (suc colour) (true ∷ set) is = omega (arith, place-cut colour set is, pow-suc 2 colour)
place-cut (suc colour) (false ∷ set) is = omega (arith, place-cut colour set is, pow-suc 2 colour)

pub cut-none : (colour : ℕ) (set : List Bool) → has colour set ≡ false → cut colour set ≡ set
cut-none colour [] is = refl
cut-none zero (here ∷ set) is = ap (λ b. b ∷ set) (sym is)
cut-none (suc colour) (here ∷ set) is = ap (λ s. here ∷ s) (cut-none colour set is)

-- a set with the colour, by its place
pub in_place : (colour : ℕ) (set : List Bool) → has colour set ≡ true → HasColour (place_of set) (2 ^ colour)
in_place colour [] is = (cc)
in_place zero (true ∷ set) is = bit_at_lowest (place_of (true ∷ set)) ∙ odd (place_of set)
  where
    odd : (n : ℕ) → (1 + 2 * n) % 2 ≡ 1
    odd n = omega arith
in_place zero (false ∷ set) is = (cc)
in_place (suc colour) (true ∷ set) is =
    bit_at-suc (place_of (true ∷ set)) colour ∙ ap (λ n. bit_at n colour) (half (place_of set)) ∙ in_place colour set is
  where
    half : (n : ℕ) → (1 + 2 * n) / 2 ≡ n
    half n = omega arith
in_place (suc colour) (false ∷ set) is =
    bit_at-suc (place_of (false ∷ set)) colour ∙ ap (λ n. bit_at n colour) (half (place_of set))
    ∙ in_place colour set is
  where
    half : (n : ℕ) → (2 * n) / 2 ≡ n
    half n = omega arith

pub true_is_yes : IsTrue true
true_is_yes = refl

pub false_is_no : IsTrue false → ⊥
false_is_no same = cc

pub part-cut : (colour : ℕ) (part : List Bool) → IsPartOf (cut colour part) part
part-cut colour [] = tt
part-cut zero (taken ∷ part) = (λ is. absurd (false_is_no is), IsPartOf-self part)
part-cut (suc colour) (taken ∷ part) = (λ is. is, part-cut colour part)

pub cut-part : (colour : ℕ) (part set : List Bool) → IsPartOf part set → IsPartOf (cut colour part) (cut colour set)
cut-part colour [] [] is = tt
cut-part colour [] (here ∷ set) is = absurd is
cut-part colour (taken ∷ part) [] is = absurd is
cut-part zero (taken ∷ part) (here ∷ set) is = (λ same. same, is.1)
cut-part (suc colour) (taken ∷ part) (here ∷ set) is = (is.0, cut-part colour part set is.1)

-- what is left of a set without a part of it gets the colour that the part does without
pub has-left : (colour : ℕ) (part set : List Bool) → IsPartOf part set → has colour part ≡ true
    → has colour (without set (cut colour part)) ≡ true
has-left colour [] set is taken_is = (cc)
has-left colour (taken ∷ part) [] is taken_is = absurd is
has-left zero (true ∷ part) (true ∷ set) is taken_is = refl
has-left zero (true ∷ part) (false ∷ set) is taken_is = absurd (false_is_no (is.0 refl))
has-left zero (false ∷ part) (here ∷ set) is taken_is = (cc)
has-left (suc colour) (taken ∷ part) (here ∷ set) is taken_is = has-left colour part set is.1 taken_is

-- what is kept of a set, where the first colours are marked as kept or not
abbrev pub kept : List Bool → List Bool → List Bool
kept [] marks = []
kept (here ∷ set) [] = here ∷ set
kept (here ∷ set) (mark ∷ marks) = (here && mark) ∷ kept set marks

kept-none : (set : List Bool) → kept set [] ≡ set
kept-none [] = refl
kept-none (here ∷ set) = refl

and_true : (here : Bool) → (here && true) ≡ here
and_true true = refl
and_true false = refl

and_false : (here : Bool) → (here && false) ≡ false
and_false true = refl
and_false false = refl

kept-more : (set marks : List Bool) → kept set (marks ++ true ∷ []) ≡ kept set marks
kept-more [] marks = refl
kept-more (here ∷ set) [] = λ i. and_true here i ∷ kept-none set i
kept-more (here ∷ set) (mark ∷ marks) = ap (λ s. (here && mark) ∷ s) (kept-more set marks)

kept-cut : (set marks : List Bool) → kept set (marks ++ false ∷ []) ≡ cut (length marks) (kept set marks)
kept-cut [] marks = refl
kept-cut (here ∷ set) [] = λ i. and_false here i ∷ kept-none set i
kept-cut (here ∷ set) (mark ∷ marks) = ap (λ s. (here && mark) ∷ s) (kept-cut set marks)

pub IsPartOf-kept : (set marks : List Bool) → IsPartOf (kept set marks) set
IsPartOf-kept [] marks = tt
IsPartOf-kept (here ∷ set) [] = IsPartOf-self (here ∷ set)
IsPartOf-kept (true ∷ set) (mark ∷ marks) = (λ is. true_is_yes, IsPartOf-kept set marks)
IsPartOf-kept (false ∷ set) (mark ∷ marks) = (λ is. is, IsPartOf-kept set marks)

-- a place by its lowest digit
abbrev bit_of : Bool → ℕ
bit_of true = 1
bit_of false = 0

place-cons : (here : Bool) (set : List Bool) → place_of (here ∷ set) ≡ place_of set * 2 ^ 1 + bit_of here
place-cons true set = omega arith
place-cons false set = omega arith

bit-lt : (here : Bool) → bit_of here < 2 ^ 1
bit-lt true = omega arith
bit-lt false = omega arith

bit-and : (here mark : Bool) → bit_and (bit_of here) (bit_of mark) ≡ bit_of (here && mark)
bit-and true true = refl
bit-and true false = refl
bit-and false true = refl
bit-and false false = refl

place-kept : (set marks : List Bool) → place_of set < 2 ^ length marks
    → place_of (kept set marks) ≡ bit_and (place_of set) (place_of marks)
place-kept [] marks within = sym (and_zero_l (place_of marks))
place-kept (here ∷ set) [] within = none (place_of (here ∷ set)) within ∙ sym (and_zero_r (place_of (here ∷ set)))
  where
    none : (n : ℕ) → n < 2 ^ 0 → n ≡ 0
    none n within = omega arith
place-kept (here ∷ set) (mark ∷ marks) within =
    place-cons (here && mark) (kept set marks)
    ∙ (λ i. place-kept set marks rest i * 2 ^ 1 + sym (bit-and here mark) i)
    ∙ sym (and_block 1 (place_of set) (place_of marks) (bit_of here) (bit_of mark) (bit-lt here) (bit-lt mark))
    ∙ (λ i. bit_and (sym (place-cons here set) i) (sym (place-cons mark marks) i))
  where
    rest : place_of set < 2 ^ length marks
    rest = omega (arith, within, place-cons here set, pow-suc 2 (length marks))

-- The colours before one are marked, and a fact holds of each set and what is kept of it.
pub record AreMarked (Holds : List Bool → List Bool → Type 0) (count colour mask : ℕ) : Type 0 where
  pub marks : List Bool
  pub looked_at : 2 ^ length marks ≡ colour
  pub place : place_of marks ≡ mask
  pub holds : (set : List Bool) → place_of set < count → Holds set (kept set marks)

pub marked-none : (Holds : List Bool → List Bool → Type 0) (count : ℕ) → ((set : List Bool) → Holds set set)
    → AreMarked Holds count 1 0
marked-none Holds count all = record {
  marks = [];
  looked_at = refl;
  place = refl;
  holds = λ set within. subst (λ s. Holds set s) (sym (kept-none set)) (all set);
}

push-pow : (marks : List Bool) (mark : Bool) → 2 ^ length (marks ++ mark ∷ []) ≡ 2 ^ length marks * 2
push-pow [] mark = refl
push-pow (first ∷ marks) mark = omega (
  arith,
  push-pow marks mark,
  pow-suc 2 (length marks),
  pow-suc 2 (length (marks ++ mark ∷ [])),
)

push-more : (marks : List Bool) → place_of (marks ++ true ∷ []) ≡ place_of marks + 2 ^ length marks
push-more [] = refl
push-more (true ∷ marks) = omega (arith, push-more marks, pow-suc 2 (length marks))
push-more (false ∷ marks) = omega (arith, push-more marks, pow-suc 2 (length marks))

push-cut : (marks : List Bool) → place_of (marks ++ false ∷ []) ≡ place_of marks
push-cut [] = refl
push-cut (true ∷ marks) = omega (arith, push-cut marks)
push-cut (false ∷ marks) = omega (arith, push-cut marks)

-- a colour more that is kept
pub marked-more : (Holds : List Bool → List Bool → Type 0) (count colour mask : ℕ) → AreMarked Holds count colour mask
    → AreMarked Holds count (colour * 2) (mask + colour)
marked-more Holds count colour mask are = record {
  marks = are.marks ++ true ∷ [];
  looked_at = push-pow are.marks true ∙ ap (λ n. n * 2) are.looked_at;
  place = push-more are.marks ∙ (λ i. are.place i + are.looked_at i);
  holds = λ set within. subst (λ s. Holds set s) (sym (kept-more set are.marks)) (are.holds set within);
}

-- a colour more that is left out
pub marked-cut : (Holds : List Bool → List Bool → Type 0) (count colour mask : ℕ)
    → ((set part : List Bool) (at : ℕ) → 2 ^ at ≡ colour → place_of set < count → IsPartOf part set → Holds set part
    → Holds set (cut at part))
    → AreMarked Holds count colour mask → AreMarked Holds count (colour * 2) mask
marked-cut Holds count colour mask step are = record {
  marks = are.marks ++ false ∷ [];
  looked_at = push-pow are.marks false ∙ ap (λ n. n * 2) are.looked_at;
  place = push-cut are.marks ∙ are.place;
  holds = λ set within. subst (λ s. Holds set s) (sym (kept-cut set are.marks))
      (step set (kept set are.marks) (length are.marks) are.looked_at within (IsPartOf-kept set are.marks)
      (are.holds set within));
}

-- where all colours are marked, what is kept stands at a place
pub marked-place : (Holds : List Bool → List Bool → Type 0) (count colour mask : ℕ)
    (are : AreMarked Holds count colour mask) → count ≤ colour
    → (set : List Bool) → place_of set < count → place_of (kept set are.marks) ≡ bit_and (place_of set) mask
marked-place Holds count colour mask are all set within =
    place-kept set are.marks (small (place_of set) count colour (2 ^ length are.marks) within all are.looked_at)
    ∙ ap (λ n. bit_and (place_of set) n) are.place
  where
    small : (place count colour power : ℕ) → place < count → count ≤ colour → power ≡ colour → place < power
    small place count colour power within all is = omega arith
