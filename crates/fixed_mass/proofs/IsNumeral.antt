-- For `is_numeral`: the tests of the grammar, as the code makes them.
use Rattle.std.proofs.Common.{◌≡◌, ℕ, ◌+◌, ◌<◌, ◌≤◌, Bool, true, false, cond, ltb, List, [], ◌∷◌, ◌++◌, length, take}
use Rattle.std.proofs.Common.{drop, Some, None, refl, ap, sym, ◌∙◌, arith}
use Rattle.std.specs.Prelude.{◌&&◌, not, position, unwrap_or}
use Rattle.std.specs.Char.{is_ascii_digit}
use Rattle.std.specs.List.{list_any, position_or_len}
use Rattle.std.specs.Str.{all_ascii_digits}
use Rattle.std.specs.Str.Parse.{without_leading_plus, without_leading_sign}
use Rattle.std.proofs.lemmas.Bool.Decides.{nat_tests}
use Rattle.std.proofs.lemmas.List.{length-append, take-append-drop}
use Rattle.std.proofs.lemmas.List.Folds.{list_any_none, list_any_at}
use Rattle.std.proofs.lemmas.List.Elements.{All-from_get_or}
use Rattle.std.proofs.lemmas.List.Sums.{prefix_len-le-length, fails_before_first, passes_at_first}
use Rattle.fixed_mass.specs.Numeral.{is_mark, is_point, significand_of, is_digits, is_exponent, is_numeral, whole_of}
use Rattle.fixed_mass.specs.Numeral.{fraction_of, exponent_of}

place_from_test : (place len : ℕ) → place ≤ len → unwrap_or (cond (ltb place len) (Some place) None) len ≡ place
place_from_test place len h = grind (arith, nat_tests)

pub place_is : (p : ℕ → Bool) (xs : List ℕ) → unwrap_or (position p xs) (length xs) ≡ position_or_len p xs
place_is p xs = place_from_test (position_or_len p xs) (length xs) (prefix_len-le-length (λ x. not (p x)) xs)

no_mark : (text : List ℕ) → length text ≤ position_or_len is_mark text → list_any is_mark text ≡ false
no_mark text h =
    list_any_none is_mark text
    (All-from_get_or (λ x. is_mark x ≡ false) text 0 (λ i l. fails_before_first is_mark text i 0 (omega arith)))

some_mark : (text : List ℕ) → position_or_len is_mark text < length text → list_any is_mark text ≡ true
some_mark text h = list_any_at is_mark text (position_or_len is_mark text) 0 h (passes_at_first is_mark text 0 h)

pub is_exponent-no_mark : (text : List ℕ) → length text ≤ position_or_len is_mark text → is_exponent text ≡ true
unfolding is_exponent
is_exponent-no_mark text h = rw (no_mark text h) refl

pub is_exponent-mark : (text : List ℕ) → position_or_len is_mark text < length text
    → is_exponent text ≡ is_digits (without_leading_sign (exponent_of text))
unfolding is_exponent
is_exponent-mark text h = rw (some_mark text h) refl

pub all_append : (front back : List ℕ)
    → all_ascii_digits (front ++ back) ≡ (all_ascii_digits front && all_ascii_digits back)
all_append [] back = refl
all_append (c ∷ front) back =
    elim (is_ascii_digit c) as
    (λ b. (b && all_ascii_digits (front ++ back)) ≡ ((b && all_ascii_digits front) && all_ascii_digits back))
    [ true ↦ all_append front back | false ↦ refl ]

and_false : (a b : Bool) → b ≡ false → (a && b) ≡ false
and_false true b h = h
and_false false b h = refl

test_of_none : (n : ℕ) (b : Bool) → n ≤ 0 → (ltb 0 n && b) ≡ false
test_of_none n b h = grind (arith, nat_tests)

test_of_some : (n : ℕ) (b : Bool) → 0 < n → (ltb 0 n && b) ≡ b
test_of_some n b h = grind (arith, nat_tests)

-- of some bytes, those before the point digits
pub is_digits-append : (whole fraction : List ℕ) → 0 < length whole + length fraction → all_ascii_digits whole ≡ true
    → is_digits (whole ++ fraction) ≡ all_ascii_digits fraction
is_digits-append whole fraction some all =
    let both : all_ascii_digits (whole ++ fraction) ≡ all_ascii_digits fraction =
    all_append whole fraction ∙ ap (λ b. b && all_ascii_digits fraction) all in
    test_of_some (length (whole ++ fraction)) (all_ascii_digits (whole ++ fraction))
    (omega (arith, length-append whole fraction)) ∙ both

pub is_digits-append_false : (whole fraction : List ℕ) → all_ascii_digits whole ≡ false
    → is_digits (whole ++ fraction) ≡ false
is_digits-append_false whole fraction all =
    and_false (ltb 0 (length (whole ++ fraction))) (all_ascii_digits (whole ++ fraction))
    (all_append whole fraction ∙ ap (λ b. b && all_ascii_digits fraction) all)

pub is_digits-append_none : (whole fraction : List ℕ) → length whole + length fraction ≤ 0
    → is_digits (whole ++ fraction) ≡ false
is_digits-append_none whole fraction none =
    test_of_none (length (whole ++ fraction)) (all_ascii_digits (whole ++ fraction))
    (omega (arith, length-append whole fraction))

pub and_left : (a b : Bool) → (a && b) ≡ true → a ≡ true
and_left true b h = refl
and_left false b h = h

and_right : (a b : Bool) → (a && b) ≡ true → b ≡ true
and_right true b h = h
and_right false b h = absurd (cc)

pub all_front : (front back : List ℕ) → all_ascii_digits (front ++ back) ≡ true → all_ascii_digits front ≡ true
all_front front back h = and_left (all_ascii_digits front) (all_ascii_digits back) (sym (all_append front back) ∙ h)

pub all_back : (front back : List ℕ) → all_ascii_digits (front ++ back) ≡ true → all_ascii_digits back ≡ true
all_back front back h = and_right (all_ascii_digits front) (all_ascii_digits back) (sym (all_append front back) ∙ h)

pub all_join : (front back : List ℕ) → all_ascii_digits front ≡ true → all_ascii_digits back ≡ true
    → all_ascii_digits (front ++ back) ≡ true
all_join front back f b = all_append front back ∙ ap (λ t. t && all_ascii_digits back) f ∙ b

pub is_numeral-no_digits : (text : List ℕ) → is_digits (whole_of text ++ fraction_of text) ≡ false
    → is_numeral text ≡ false
unfolding is_numeral
is_numeral-no_digits text h = ap (λ t. t && is_exponent text) h

pub is_numeral-no_exponent : (text : List ℕ) → is_exponent text ≡ false → is_numeral text ≡ false
unfolding is_numeral
is_numeral-no_exponent text h = and_false (is_digits (whole_of text ++ fraction_of text)) (is_exponent text) h

pub is_numeral-parts : (text : List ℕ) → is_digits (whole_of text ++ fraction_of text) ≡ true → is_exponent text ≡ true
    → is_numeral text ≡ true
unfolding is_numeral
is_numeral-parts text d e = ap (λ t. t && is_exponent text) d ∙ e

pub all_take : (n : ℕ) (digits : List ℕ) → all_ascii_digits digits ≡ true → all_ascii_digits (take n digits) ≡ true
all_take n digits h = all_front (take n digits) (drop n digits) (ap all_ascii_digits (take-append-drop n digits) ∙ h)

-- the digits around the point, as the code cuts them out
pub digits_cut : (text significand fraction : List ℕ) (mark point : ℕ) → mark ≡ position_or_len is_mark text
    → significand ≡ without_leading_plus (take mark text) → point ≡ position_or_len is_point significand → fraction
    ≡ drop (point + 1) significand → is_digits (take point significand ++ fraction)
    ≡ is_digits (whole_of text ++ fraction_of text)
digits_cut text significand fraction mark point m s p f =
    let e : significand ≡ significand_of text = s ∙ ap (λ n. without_leading_plus (take n text)) m in
    let q : point ≡ position_or_len is_point (significand_of text) = p ∙ ap (position_or_len is_point) e in
    let w : take point significand ≡ whole_of text =
    ap (λ n. take n significand) q ∙ ap (take (position_or_len is_point (significand_of text))) e in
    let g : fraction ≡ fraction_of text =
    f ∙ ap (λ n. drop (n + 1) significand) q ∙ ap (drop (position_or_len is_point (significand_of text) + 1)) e in
    ap (λ t. is_digits (t ++ fraction)) w ∙ ap (λ t. is_digits (whole_of text ++ t)) g

pub all_of_digits : (bytes : List ℕ) → is_digits bytes ≡ true → all_ascii_digits bytes ≡ true
all_of_digits bytes h = and_right (ltb 0 (length bytes)) (all_ascii_digits bytes) h
