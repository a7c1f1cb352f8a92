-- Which colours of a set a head may need: of each colour that adds nothing, none does.
use Rattle.std.proofs.Common.{◌≡◌, ◌⊎◌, inl, inr, ◌+◌, ◌-◌, ◌^◌, ◌<◌, ◌≤◌, ℕ, ℤ, ◌+ℤ◌, ◌≤ℤ◌, Bool, true, false, List}
use Rattle.std.proofs.Common.{length, refl, sym, subst, arith}
use Rattle.std.proofs.lemmas.Bool.{cases_eq}
use Rattle.std.proofs.lemmas.Int.{ints}
use Rattle.tree_certificate.specs.ColourSet.{IsPartOf, place_of, without}
use Rattle.tree_certificate.proofs.SetParts.{place-without}
use Rattle.tree_certificate.specs.Enough.{IsEnough, IsEnoughOf}
use Rattle.certificate_checker.specs.inside.Enough.{AddsNothing, AddsNothingFrom, AddsNothingTo, AreUseful}
use Rattle.tree_certificate.specs.Number.{number_in}
use Rattle.certificate_checker.proofs.MarkedColours.{AreMarked, IsPartOf-kept, cut, cut-none, cut-part, has, has-left}
use Rattle.certificate_checker.proofs.MarkedColours.{in_place, kept, marked-place, part-cut, place-cut}
use Rattle.tree_certificate.proofs.PartWalk.{IsPartOf-part}

-- A part without a colour that adds nothing gives no less.
no_less : (own gains : List ℤ) (colour : ℕ) (set part : List Bool) → AddsNothing own gains (length own) (2 ^ colour)
    → place_of set < length own → IsPartOf part set → has colour part ≡ true
    → (number_in gains (place_of part) +ℤ number_in own (place_of (without set part)))
    ≤ℤ (number_in gains (place_of (cut colour part)) +ℤ number_in own (place_of (without set (cut colour part))))
no_less own gains colour set part adds within is taken_is =
    let cut_is : IsPartOf (cut colour part) set = IsPartOf-part set part (cut colour part) is (part-cut colour part) in
    let whole = place-without set part is in
    let other = place-without set (cut colour part) cut_is in
    let less = place-cut colour part taken_is in
    let gained = (adds (place_of part) (omega (arith, whole, within)) (in_place colour part taken_is)).0 in
    let there = in_place colour (without set (cut colour part)) (has-left colour part set is taken_is) in
    let left = (adds (place_of (without set (cut colour part))) (omega (arith, other, within)) there).1 in
    sums _ _ _ _
    (subst (λ p. number_in gains (place_of part) ≤ℤ number_in gains p)
    (first (place_of part) (place_of (cut colour part)) (2 ^ colour) less) gained)
    (subst (λ p. number_in own p ≤ℤ number_in own (place_of (without set (cut colour part))))
    (second (place_of part) (place_of (without set part)) (place_of (cut colour part))
    (place_of (without set (cut colour part))) (place_of set) (2 ^ colour) whole other less) left)
  where
    first : (place next one : ℕ) → place ≡ next + one → place - one ≡ next
    first place next one is = omega arith

    second : (place left next more all one : ℕ) → place + left ≡ all → next + more ≡ all → place ≡ next + one
        → more - one ≡ left
    second place left next more all one sum equal is = omega arith

    sums : (a b c d : ℤ) → a ≤ℤ c → b ≤ℤ d → (a +ℤ b) ≤ℤ (c +ℤ d)
    sums a b c d one two = omega (arith, ints)

-- A number that is enough where a head gets but a part of a set is enough for the set.
abbrev pub PartIsEnough : List ℤ → List ℤ → List Bool → List Bool → Type 0
PartIsEnough own gains set part = (upper : ℤ) → IsEnoughOf own gains set part upper → IsEnough own gains set upper

pub whole-is-enough : (own gains : List ℤ) (set : List Bool) → PartIsEnough own gains set set
whole-is-enough own gains set upper is = record { left_out = is.left_out; taken = is.taken }

pub cut-is-enough : (own gains : List ℤ) (colour : ℕ) → AddsNothing own gains (length own) colour
    → (set part : List Bool) (at : ℕ) → 2 ^ at ≡ colour → place_of set < length own → IsPartOf part set
    → PartIsEnough own gains set part → PartIsEnough own gains set (cut at part)
cut-is-enough own gains colour adds set kept at same within kept_is enough upper is =
    enough upper (record { left_out = is.left_out; taken = taken })
  where
    at_most : (a b c : ℤ) → a ≤ℤ b → b ≤ℤ c → a ≤ℤ c
    at_most a b c one two = omega (arith, ints)

    taken : (part : List Bool) → IsPartOf part kept
        → (number_in gains (place_of part) +ℤ number_in own (place_of (without set part))) ≤ℤ upper
    taken part is_part = choose (has at part) refl
      where
        fewer : (number_in gains (place_of (cut at part)) +ℤ number_in own (place_of (without set (cut at part)))) ≤ℤ
            upper
        fewer = is.taken (cut at part) (cut-part at part kept is_part)

        choose : (b : Bool) → has at part ≡ b
            → (number_in gains (place_of part) +ℤ number_in own (place_of (without set part))) ≤ℤ upper
        choose true taken_is =
            at_most _ _ _ (no_less own gains at set part
            (subst (λ n. AddsNothing own gains (length own) n) (sym same) adds) within
            (IsPartOf-part set kept part kept_is is_part) taken_is) fewer
        choose false other = subst (λ p. (number_in gains (place_of p) +ℤ number_in own (place_of (without set p))) ≤ℤ
            upper) (cut-none at part other) fewer

-- where all colours are marked
pub useful-last : (own gains : List ℤ) (colour useful : ℕ)
    → AreMarked (PartIsEnough own gains) (length own) colour useful → length own ≤ colour
    → AreUseful own gains (length own) useful
useful-last own gains colour useful are all = λ set within. record {
  part = kept set are.marks;
  is_part = IsPartOf-kept set are.marks;
  at_place = marked-place (PartIsEnough own gains) (length own) colour useful are all set within;
  enough = are.holds set within;
}

-- one place more of a block
pub adds_nothing-more : (own gains : List ℤ) (base place colour : ℕ) → AddsNothingFrom own gains base place colour
    → AddsNothingTo own gains place colour → AddsNothingFrom own gains base (place + 1) colour
adds_nothing-more own gains base place colour before here p from within = choose (cases_eq p place)
  where
    choose : (p ≡ place) ⊎ (p ≡ place → ⊥) → AddsNothingTo own gains p colour
    choose (inl same) = rw same here
    choose (inr apart) = before p from (omega (arith, within, apart))
