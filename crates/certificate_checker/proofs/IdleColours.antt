-- Which colours of a set make no difference: what is enough for the set without them is enough for it.
use Rattle.std.proofs.Common.{◌≡◌, ◌⊎◌, inl, inr, ◌+◌, ◌-◌, ◌*◌, ◌^◌, ◌<◌, ◌≤◌, ℕ, zero, suc, ℤ, ◌+ℤ◌, ◌≤ℤ◌, Bool, true}
use Rattle.std.proofs.Common.{false, not, ◌&&◌, List, [], ◌∷◌, length, ap, refl, sym, subst, ◌∙◌, arith, bit_and}
use Rattle.std.proofs.lemmas.Bool.{cases_eq}
use Rattle.std.proofs.lemmas.Int.{ints}
use Rattle.tree_certificate.specs.ColourSet.{IsPartOf, place_of, without}
use Rattle.tree_certificate.proofs.SetParts.{place-without}
use Rattle.tree_certificate.specs.Enough.{IsEnough}
use Rattle.tree_certificate.specs.Number.{number_in}
use Rattle.certificate_checker.specs.inside.Enough.{AreTelling, RaisesNothing}
use Rattle.certificate_checker.proofs.MarkedColours.{AreMarked, cut, cut-none, cut-part, has, in_place, kept}
use Rattle.certificate_checker.proofs.MarkedColours.{marked-place, place-cut}

-- the number for a set is no greater than the one without the colour
no_greater : (numbers : List ℤ) (count colour : ℕ) (set : List Bool) → RaisesNothing numbers count (2 ^ colour)
    → place_of set < count
    → number_in numbers (place_of set) ≤ℤ number_in numbers (place_of (cut colour set))
no_greater numbers count colour set raises within = choose (has colour set) refl
  where
    next : (place cut one : ℕ) → place ≡ cut + one → place - one ≡ cut
    next place cut one is = omega arith

    same : (a b : ℤ) → a ≡ b → a ≤ℤ b
    same a b is = omega (arith, ints)

    choose : (b : Bool) → has colour set ≡ b
        → number_in numbers (place_of set) ≤ℤ number_in numbers (place_of (cut colour set))
    choose true here =
        let less = place-cut colour set here in
        subst (λ p. number_in numbers (place_of set) ≤ℤ number_in numbers p)
        (next (place_of set) (place_of (cut colour set)) (2 ^ colour) less)
        (raises (place_of set) within (in_place colour set here))
    choose false other = same _ _ (ap (λ s. number_in numbers (place_of s)) (sym (cut-none colour set other)))

without-cut : (colour : ℕ) (set part : List Bool)
    → without (cut colour set) (cut colour part) ≡ cut colour (without set part)
without-cut colour [] part = refl
without-cut zero (here ∷ set) [] = refl
without-cut (suc colour) (here ∷ set) [] = refl
without-cut zero (here ∷ set) (taken ∷ part) = refl
without-cut (suc colour) (here ∷ set) (taken ∷ part) = ap (λ s. (here && not taken) ∷ s) (without-cut colour set part)

-- What is enough for a set without a colour that makes no difference is enough for the set.
enough-cut : (own gains : List ℤ) (colour : ℕ) (set : List Bool) → RaisesNothing gains (length own) (2 ^ colour)
    → RaisesNothing own (length own) (2 ^ colour) → place_of set < length own
    → (upper : ℤ) → IsEnough own gains (cut colour set) upper → IsEnough own gains set upper
enough-cut own gains colour set gained left within upper is = record {
  left_out = at_most _ _ _ (no_greater own (length own) colour set left within) is.left_out;
  taken = taken;
}
  where
    at_most : (a b c : ℤ) → a ≤ℤ b → b ≤ℤ c → a ≤ℤ c
    at_most a b c one two = omega (arith, ints)

    sums : (a b c d upper : ℤ) → a ≤ℤ c → b ≤ℤ d → (c +ℤ d) ≤ℤ upper → (a +ℤ b) ≤ℤ upper
    sums a b c d upper one two low = omega (arith, ints)

    taken : (part : List Bool) → IsPartOf part set
        → (number_in gains (place_of part) +ℤ number_in own (place_of (without set part))) ≤ℤ upper
    taken part is_part =
        let whole = place-without set part is_part in
        sums _ _ _ _ upper (no_greater gains (length own) colour part gained (omega (arith, whole, within)))
        (no_greater own (length own) colour (without set part) left (omega (arith, whole, within)))
        (subst (λ s. (number_in gains (place_of (cut colour part)) +ℤ number_in own (place_of s)) ≤ℤ upper)
        (without-cut colour set part)
        (is.taken (cut colour part) (cut-part colour part set is_part)))

-- What is enough for a part of a set is enough for the set.
abbrev pub PartTells : List ℤ → List ℤ → List Bool → List Bool → Type 0
PartTells own gains set part = (upper : ℤ) → IsEnough own gains part upper → IsEnough own gains set upper

pub whole-tells : (own gains : List ℤ) (set : List Bool) → PartTells own gains set set
whole-tells own gains set upper is = is

pub cut-tells : (own gains : List ℤ) (colour : ℕ) → RaisesNothing gains (length own) colour
    → RaisesNothing own (length own) colour
    → (set part : List Bool) (at : ℕ) → 2 ^ at ≡ colour → place_of set < length own → IsPartOf part set
    → PartTells own gains set part → PartTells own gains set (cut at part)
cut-tells own gains colour gained left set part at same within is_part tells upper is =
    let sum = place-without set part is_part in
    tells upper (enough-cut own gains at part (subst (λ n. RaisesNothing gains (length own) n) (sym same) gained)
    (subst (λ n. RaisesNothing own (length own) n) (sym same) left) (omega (arith, sum, within)) upper is)

-- where all colours are marked
pub telling-last : (own gains : List ℤ) (colour telling : ℕ)
    → AreMarked (PartTells own gains) (length own) colour telling → length own ≤ colour
    → AreTelling own gains (length own) telling
telling-last own gains colour telling are all = λ set within. record {
  part = kept set are.marks;
  at_place = marked-place (PartTells own gains) (length own) colour telling are all set within;
  enough = are.holds set within;
}

-- What is enough is enough for every greater number.
enough-up : (own gains : List ℤ) (set : List Bool) (low high : ℤ) → low ≤ℤ high → IsEnough own gains set low
    → IsEnough own gains set high
enough-up own gains set low high above is = record {
  left_out = up _ low high is.left_out above;
  taken = λ part is_part. up _ low high (is.taken part is_part) above;
}
  where
    up : (a b c : ℤ) → a ≤ℤ b → b ≤ℤ c → a ≤ℤ c
    up a b c one two = omega (arith, ints)

-- A number is enough for a set where it is no less than one that is enough for the part that tells.
pub enough-told : (row own gains : List ℤ) (step count telling place part : ℕ) → AreTelling own gains count telling
    → place < count → part ≡ bit_and place telling → part < place
    → ((other : List Bool) → place_of other < place
    → IsEnough own gains other (number_in row (step * (1 + 2 * place_of other))))
    → number_in row (step * (1 + 2 * part)) ≤ℤ number_in row (step * (1 + 2 * place))
    → (other : List Bool) → place_of other < place + 1
    → IsEnough own gains other (number_in row (step * (1 + 2 * place_of other)))
enough-told row own gains step count telling place part are in_count part_is less before low other within =
    choose (cases_eq (place_of other) place)
  where
    here : place_of other ≡ place → IsEnough own gains other (number_in row (step * (1 + 2 * place_of other)))
    here same =
        let it = are other (rw same in_count) in
        let at : place_of it.part ≡ part = it.at_place ∙ ap (λ p. bit_and p telling) same ∙ sym part_is in
        rw same (it.enough (number_in row (step * (1 + 2 * place)))
        (enough-up own gains it.part (number_in row (step * (1 + 2 * place_of it.part)))
        (number_in row (step * (1 + 2 * place))) (rw at low) (before it.part (rw at less))))

    choose : (place_of other ≡ place) ⊎ (place_of other ≡ place → ⊥)
        → IsEnough own gains other (number_in row (step * (1 + 2 * place_of other)))
    choose (inl same) = here same
    choose (inr apart) = before other (omega (arith, within, apart))
