-- Of loss_of and union_of: the loss and the union of formulas, place by place.
use Rattle.std.proofs.Common.{◌≡◌, ◌<◌, ◌+◌, ◌-◌, ℕ, zero, suc, List, [], ◌∷◌, length, get_or, refl, arith}
use Rattle.std.proofs.lemmas.List.{same_lists, get_or_default}
use Rattle.element_table.specs.Formula.{loss_of, union_of}

pub length-loss_of : (whole part : List ℕ) → length whole ≡ length part → length (loss_of whole part) ≡ length whole
length-loss_of (count ∷ whole) (other ∷ part) h = omega (arith, length-loss_of whole part (omega arith))
length-loss_of (count ∷ whole) [] h = absurd (omega arith)
length-loss_of [] part h = refl

pub length-union_of : (one two : List ℕ) → length one ≡ length two → length (union_of one two) ≡ length one
length-union_of (count ∷ one) (other ∷ two) h = omega (arith, length-union_of one two (omega arith))
length-union_of (count ∷ one) [] h = absurd (omega arith)
length-union_of [] two h = refl

pub get_or-loss_of : (whole part : List ℕ) (place : ℕ) → length whole ≡ length part
    → get_or (loss_of whole part) place 0 ≡ get_or whole place 0 - get_or part place 0
get_or-loss_of (count ∷ whole) (other ∷ part) zero h = λ _. count - other
get_or-loss_of (count ∷ whole) (other ∷ part) (suc place) h = get_or-loss_of whole part place (omega arith)
get_or-loss_of (count ∷ whole) [] place h = absurd (omega arith)
get_or-loss_of [] [] place h = λ _. 0
get_or-loss_of [] (other ∷ part) place h = absurd (omega arith)

pub get_or-union_of : (one two : List ℕ) (place : ℕ) → length one ≡ length two
    → get_or (union_of one two) place 0 ≡ get_or one place 0 + get_or two place 0
get_or-union_of (count ∷ one) (other ∷ two) zero h = λ _. count + other
get_or-union_of (count ∷ one) (other ∷ two) (suc place) h = get_or-union_of one two place (omega arith)
get_or-union_of (count ∷ one) [] place h = absurd (omega arith)
get_or-union_of [] [] place h = λ _. 0
get_or-union_of [] (other ∷ two) place h = absurd (omega arith)

-- counts that are those of the loss at each place
pub loss_from_places : (whole part counts : List ℕ) → length whole ≡ length part → length counts ≡ length whole
    → ((place : ℕ) → place < length counts → get_or counts place 0 ≡ get_or whole place 0 - get_or part place 0)
    → counts ≡ loss_of whole part
loss_from_places whole part counts same_places kept each =
    same_lists counts (loss_of whole part) (omega (arith, length-loss_of whole part same_places)) (λ place none within.
    let here : get_or counts place none ≡ get_or counts place 0 = get_or_default counts place none 0 within in
    let in_loss : place < length (loss_of whole part) = omega (arith, length-loss_of whole part same_places) in
    let there : get_or (loss_of whole part) place none ≡ get_or (loss_of whole part) place 0 =
    get_or_default (loss_of whole part) place none 0 in_loss in
    let count : get_or counts place 0 ≡ get_or whole place 0 - get_or part place 0 = each place within in
    let loss : get_or (loss_of whole part) place 0 ≡ get_or whole place 0 - get_or part place 0 =
    get_or-loss_of whole part place same_places in
    cc)

-- counts that are those of the union at each place
pub union_from_places : (one two counts : List ℕ) → length one ≡ length two → length counts ≡ length one
    → ((place : ℕ) → place < length counts → get_or counts place 0 ≡ get_or one place 0 + get_or two place 0) → counts
    ≡ union_of one two
union_from_places one two counts same_places kept each =
    same_lists counts (union_of one two) (omega (arith, length-union_of one two same_places)) (λ place none within.
    let here : get_or counts place none ≡ get_or counts place 0 = get_or_default counts place none 0 within in
    let in_union : place < length (union_of one two) = omega (arith, length-union_of one two same_places) in
    let there : get_or (union_of one two) place none ≡ get_or (union_of one two) place 0 =
    get_or_default (union_of one two) place none 0 in_union in
    let count : get_or counts place 0 ≡ get_or one place 0 + get_or two place 0 = each place within in
    let union : get_or (union_of one two) place 0 ≡ get_or one place 0 + get_or two place 0 =
    get_or-union_of one two place same_places in
    cc)
