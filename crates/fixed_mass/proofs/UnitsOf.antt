-- For `units_of`: the units of a numeral by its first digits alone.
use Rattle.std.proofs.Common.{◌≡◌, ℕ, ◌+◌, ◌-◌, ◌*◌, ◌/◌, ◌^◌, ◌<◌, ◌≤◌, suc, Bool, true, false, cond, List, [], ◌∷◌}
use Rattle.std.proofs.Common.{◌++◌, length, get_or, take, drop, map, refl, ap, sym, ◌∙◌, ◌⊎◌, inl, inr, ⊎_elim, min}
use Rattle.std.proofs.Common.{eqb, subst, arith}
use Rattle.std.specs.Char.{digit_value}
use Rattle.std.specs.List.{range_with_len, position_or_len, before_first}
use Rattle.std.specs.Str.{all_ascii_digits}
use Rattle.std.specs.Str.Parse.{digits_value, digits_value_after, starts_with_minus, without_leading_sign}
use Rattle.std.proofs.Math.Nat.{add-mul-div_left, div-div-eq-div-mul, mul-div-mul_left, mul-div-mul_right}
use Rattle.std.proofs.Math.Nat.{mul-div_cancel, div-eq_of_lt, one-le-pow, pow-le-pow_right, div-one, zero-div, zero-mul}
use Rattle.std.proofs.Math.Nat.{le-mul_of_pos_right, mul-lt-mul_of_pos_right}
use Rattle.std.proofs.lemmas.Bool.{cases_lt}
use Rattle.std.proofs.lemmas.Grind.{pow_more}
use Rattle.std.proofs.lemmas.List.{append-nil, take-append-drop, take-append-le, length-append, length-drop}
use Rattle.std.proofs.lemmas.List.{length-take, take_all}
use Rattle.std.proofs.Math.Seq.{take-append-add}
use Rattle.std.proofs.lemmas.Nat.{pow-add, div-mul-add, mul-le, le-div}
use Rattle.std.proofs.lemmas.List.FromFn.{get_or-map-range_with_len}
use Rattle.std.proofs.lemmas.Str.Parse.{digits_value_short}
use Rattle.fixed_mass.specs.declared.powers.TheConstants.{POWERS_OF_TEN}
use Rattle.fixed_mass.specs.Numeral.{is_mark, is_point, significand_of, exponent_of, whole_of, fraction_of, raise_of}
use Rattle.fixed_mass.specs.Numeral.{lower_of}
use Rattle.fixed_mass.specs.Units.{numerator_of, denominator_of, units_of}
use Rattle.fixed_mass.specs.inside.Tenths.{tenths_of, rounded_of, leading_of}
use Rattle.fixed_mass.proofs.DigitsValue.{own, after_append}
use Rattle.fixed_mass.proofs.IsNumeral.{all_back, all_join}

pub power_positive : (k : ℕ) → 0 < 10 ^ k
power_positive k = one-le-pow k 10 (omega arith)

-- half a unit up, by the tenths rounded down
half_up : (n d : ℕ) → 0 < d → (2 * n + d) / (2 * d) ≡ (10 * n / d + 5) / 10
half_up n d positive =
    let half : (10 * n + d * 5) / d ≡ 10 * n / d + 5 = add-mul-div_left (10 * n) 5 positive in
    let both : (10 * n + d * 5) / d / 10 ≡ (10 * n + d * 5) / (d * 10) = div-div-eq-div-mul (10 * n + d * 5) d 10 in
    let fifths : 5 * (2 * n + d) / (5 * (2 * d)) ≡ (2 * n + d) / (2 * d) =
    mul-div-mul_left {m = 5} (2 * n + d) (2 * d) (omega arith) in
    let top : 5 * (2 * n + d) ≡ 10 * n + d * 5 = omega arith in
    let bottom : 5 * (2 * d) ≡ d * 10 = omega arith in
    sym fifths ∙ ap (λ t. t / (5 * (2 * d))) top ∙ ap (λ b. (10 * n + d * 5) / b) bottom ∙ sym both
    ∙ ap (λ t. t / 10) half

ten_times : (d s r : ℕ) → 10 * (d * 10 ^ (s + r)) ≡ d * 10 ^ (s + 1 + r)
ten_times d s r =
    let e : 10 ^ (s + 1 + r) ≡ 10 ^ (s + r) * 10 = ap (λ k. 10 ^ k) (omega arith) ∙ pow_more 10 (s + r) in
    let f : d * 10 ^ (s + 1 + r) ≡ d * (10 ^ (s + r) * 10) = ap (λ p. d * p) e in
    omega arith

pub units_of-rounded : (scale : ℕ) (text : List ℕ)
    → units_of scale text ≡ rounded_of scale (whole_of text) (fraction_of text) (raise_of text) (lower_of text)
unfolding units_of tenths_of
units_of-rounded scale text =
    let n = numerator_of scale text in
    let d = denominator_of text in
    half_up n d (power_positive (length (fraction_of text) + lower_of text))
    ∙ ap (λ t. (t / d + 5) / 10)
    (ten_times (digits_value 10 (whole_of text ++ fraction_of text)) scale (raise_of text))

-- the number of digits behind a number
after_from : (n : ℕ) (digits : List ℕ)
    → digits_value_after 10 n digits ≡ n * 10 ^ length digits + digits_value 10 digits
after_from n [] = omega arith
after_from n (c ∷ digits) =
    let far = after_from (n * 10 + digit_value c) digits in
    let near = after_from (0 * 10 + digit_value c) digits in
    let power : 10 ^ suc (length digits) ≡ 10 ^ length digits * 10 =
    ap (λ k. 10 ^ k) (omega arith) ∙ pow_more 10 (length digits) in
    let product : n * 10 ^ suc (length digits) ≡ n * (10 ^ length digits * 10) = ap (λ p. n * p) power in
    omega arith

value_append : (front back : List ℕ)
    → digits_value 10 (front ++ back) ≡ digits_value 10 front * 10 ^ length back + digits_value 10 back
value_append front back = after_append 0 front back ∙ after_from (digits_value 10 front) back

value_below : (digits : List ℕ) → all_ascii_digits digits ≡ true → digits_value 10 digits < 10 ^ length digits
value_below digits h = digits_value_short own digits (length digits) h (omega arith)

-- without the last digits
value_div : (digits : List ℕ) (k : ℕ) → all_ascii_digits digits ≡ true
    → digits_value 10 digits / 10 ^ k ≡ leading_of k digits
unfolding leading_of
value_div digits k h = ⊎_elim past within (cases_lt (length digits) k) where
  past : length digits < k → digits_value 10 digits / 10 ^ k ≡ digits_value 10 (take (length digits - k) digits)
  past l =
      let none : length digits - k ≡ 0 = omega arith in
      let more : 10 ^ length digits ≤ 10 ^ k = pow-le-pow_right {n = 10} (omega arith) (omega arith) in
      let below : digits_value 10 digits < 10 ^ k = omega (arith, value_below digits h) in
      div-eq_of_lt below ∙ ap (λ n. digits_value 10 (take n digits)) (sym none)

  within : k ≤ length digits → digits_value 10 digits / 10 ^ k ≡ digits_value 10 (take (length digits - k) digits)
  within l =
      let front = take (length digits - k) digits in
      let back = drop (length digits - k) digits in
      let whole : front ++ back ≡ digits = take-append-drop (length digits - k) digits in
      let long : length back ≡ k = omega (arith, length-drop (length digits - k) digits) in
      let below : digits_value 10 back < 10 ^ length back =
      value_below back (all_back front back (ap all_ascii_digits whole ∙ h)) in
      ap (λ n. digits_value 10 digits / 10 ^ n) (sym long)
      ∙ ap (λ ds. digits_value 10 ds / 10 ^ length back) (sym whole)
      ∙ ap (λ n. n / 10 ^ length back) (value_append front back)
      ∙ div-mul-add (digits_value 10 front) (10 ^ length back) (digits_value 10 back) below

pub power_div : (digits : List ℕ) (up down : ℕ) → all_ascii_digits digits ≡ true
    → digits_value 10 digits * 10 ^ up / 10 ^ down ≡ leading_of (down - up) digits * 10 ^ (up - down)
power_div digits up down h = ⊎_elim lower raise (cases_lt up down) where
  lower : up < down → digits_value 10 digits * 10 ^ up / 10 ^ down ≡ leading_of (down - up) digits * 10 ^ (up - down)
  lower l =
      let power : 10 ^ down ≡ 10 ^ (down - up) * 10 ^ up = ap (λ k. 10 ^ k) (omega arith) ∙ pow-add 10 (down - up) up in
      let none : up - down ≡ 0 = omega arith in
      let one : 10 ^ (up - down) ≡ 1 = ap (λ k. 10 ^ k) none in
      let product : leading_of (down - up) digits * 10 ^ (up - down) ≡ leading_of (down - up) digits * 1 =
      ap (λ p. leading_of (down - up) digits * p) one in
      let once : leading_of (down - up) digits ≡ leading_of (down - up) digits * 10 ^ (up - down) = omega arith in
      ap (λ p. digits_value 10 digits * 10 ^ up / p) power
      ∙ mul-div-mul_right {m = 10 ^ up} (digits_value 10 digits) (10 ^ (down - up)) (power_positive up)
      ∙ value_div digits (down - up) h ∙ once

  raise : down ≤ up → digits_value 10 digits * 10 ^ up / 10 ^ down ≡ leading_of (down - up) digits * 10 ^ (up - down)
  raise l =
      let power : 10 ^ up ≡ 10 ^ (up - down) * 10 ^ down =
      ap (λ k. 10 ^ k) (omega arith) ∙ pow-add 10 (up - down) down in
      let turned : digits_value 10 digits * (10 ^ (up - down) * 10 ^ down)
      ≡ digits_value 10 digits * 10 ^ (up - down) * 10 ^ down = omega arith in
      let product : digits_value 10 digits * 10 ^ up ≡ digits_value 10 digits * 10 ^ (up - down) * 10 ^ down =
      ap (λ p. digits_value 10 digits * p) power ∙ turned in
      let none : 0 ≡ down - up = omega arith in
      let all : digits_value 10 digits ≡ leading_of (down - up) digits =
      sym (div-one (digits_value 10 digits)) ∙ value_div digits 0 h ∙ ap (λ k. leading_of k digits) none in
      ap (λ n. n / 10 ^ down) product ∙ mul-div_cancel (digits_value 10 digits * 10 ^ (up - down))
      (power_positive down) ∙ ap (λ n. n * 10 ^ (up - down)) all

-- the tenths by the first digits: as many are left out as places are lowered more than raised
pub tenths_of-leading : (scale : ℕ) (whole fraction : List ℕ) (raised lowered : ℕ)
    → all_ascii_digits (whole ++ fraction) ≡ true → tenths_of scale whole fraction raised lowered
    ≡ leading_of (length fraction + lowered - (scale + 1 + raised)) (whole ++ fraction) * 10 ^
    (scale + 1 + raised - (length fraction + lowered))
unfolding tenths_of
tenths_of-leading scale whole fraction raised lowered h =
    power_div (whole ++ fraction) (scale + 1 + raised) (length fraction + lowered) h

-- the same of a value that was read without the digits that fall away, and of the places that it is raised by
pub tenths_of-raised : (scale : ℕ) (whole fraction : List ℕ) (raised lowered dropped places value : ℕ)
    → all_ascii_digits whole ≡ true → all_ascii_digits fraction ≡ true
    → dropped ≡ length fraction + lowered - (scale + 1 + raised) → places ≡ scale + 1
    + raised - (length fraction + lowered)
    → value ≡ leading_of dropped (whole ++ fraction) → value * 10 ^ places
    ≡ tenths_of scale whole fraction raised lowered
tenths_of-raised scale whole fraction raised lowered dropped places value before behind falls rises is =
    let leading = leading_of (length fraction + lowered - (scale + 1 + raised)) (whole ++ fraction) in
    ap (λ v. v * 10 ^ places) (is ∙ ap (λ k. leading_of k (whole ++ fraction)) falls) ∙ ap (λ k. leading * 10 ^ k) rises
    ∙ sym (tenths_of-leading scale whole fraction raised lowered (all_join whole fraction before behind))

pub le_product : (v j : ℕ) → v ≤ v * 10 ^ j
le_product v j = le-mul_of_pos_right v (power_positive j)

-- digits that are raised far stand for many tenths, unless they are all 0
far_raised : (d up down : ℕ) → 1 ≤ d → down + 20 ≤ up → 10 ^ 20 ≤ d * 10 ^ up / 10 ^ down
far_raised d up down some far =
    let power : 10 ^ (20 + down) ≡ 10 ^ 20 * 10 ^ down = pow-add 10 20 down in
    let more : 10 ^ (20 + down) ≤ 10 ^ up = pow-le-pow_right {n = 10} (omega arith) (omega arith) in
    let product : 1 * 10 ^ up ≤ d * 10 ^ up = mul-le 1 (10 ^ up) d (10 ^ up) some (omega arith) in
    le-div (10 ^ 20) (d * 10 ^ up) (10 ^ down) (power_positive down) (omega arith)

-- digits that are lowered far stand for none
far_lowered : (d n up down : ℕ) → d < 10 ^ n → n + up ≤ down → d * 10 ^ up / 10 ^ down ≡ 0
far_lowered d n up down below far =
    let power : 10 ^ (n + up) ≡ 10 ^ n * 10 ^ up = pow-add 10 n up in
    let more : 10 ^ (n + up) ≤ 10 ^ down = pow-le-pow_right {n = 10} (omega arith) far in
    let product : d * 10 ^ up < 10 ^ n * 10 ^ up = mul-lt-mul_of_pos_right below (power_positive up) in
    div-eq_of_lt (omega arith)

-- the first bytes of two texts, one behind the other
take_both : (kept front : ℕ) (whole fraction : List ℕ) → front ≡ min kept (length whole)
    → take kept (whole ++ fraction) ≡ take front whole ++ take (kept - front) fraction
take_both kept front whole fraction e = ⊎_elim short long (cases_lt kept (length whole)) where
  short : kept < length whole → take kept (whole ++ fraction) ≡ take front whole ++ take (kept - front) fraction
  short l =
      let same : kept ≡ front = omega arith in
      let none : 0 ≡ kept - front = omega arith in
      take-append-le kept whole fraction (omega arith) ∙ ap (λ n. take n whole) same
      ∙ sym (append-nil (take front whole)) ∙ ap (λ n. take front whole ++ take n fraction) none

  long : length whole ≤ kept → take kept (whole ++ fraction) ≡ take front whole ++ take (kept - front) fraction
  long l =
      let all : length whole ≡ front = omega arith in
      let rest : length whole + (kept - front) ≡ kept = omega arith in
      ap (λ n. take n (whole ++ fraction)) (sym rest) ∙ take-append-add whole fraction (kept - front)
      ∙ ap (λ t. t ++ take (kept - front) fraction) (sym (take_all front whole (omega arith)))

pub leading_of-parts : (dropped kept front : ℕ) (whole fraction : List ℕ)
    → kept ≡ length whole + length fraction - dropped → front ≡ min kept (length whole)
    → digits_value_after 10 (digits_value_after 10 0 (take front whole)) (take (kept - front) fraction)
    ≡ leading_of dropped (whole ++ fraction)
unfolding leading_of
leading_of-parts dropped kept front whole fraction k f =
    let count : kept ≡ length (whole ++ fraction) - dropped = omega (arith, length-append whole fraction) in
    sym (after_append 0 (take front whole) (take (kept - front) fraction))
    ∙ ap (digits_value 10) (sym (take_both kept front whole fraction f))
    ∙ ap (λ n. digits_value 10 (take n (whole ++ fraction))) count

-- the table of the powers of ten
pub power_at : (k d : ℕ) → k < 20 → get_or POWERS_OF_TEN k d ≡ 10 ^ k
power_at k d l =
    let table : POWERS_OF_TEN ≡ map (λ n. 10 ^ n) (range_with_len 0 20) = refl in
    ap (λ t. get_or t k d) table ∙ get_or-map-range_with_len (λ n. 10 ^ n) 0 20 k k d l (omega arith)

-- a power past the table makes every number but 0 too great
pub past_table : (v k : ℕ) → 1 ≤ v → 20 ≤ k → 2 ^ 64 ≤ v * 10 ^ k
past_table v k some past =
    let more : 10 ^ 20 ≤ 10 ^ k = pow-le-pow_right {n = 10} (omega arith) past in
    let product : 1 * 10 ^ k ≤ v * 10 ^ k = mul-le 1 (10 ^ k) v (10 ^ k) some (omega arith) in
    omega arith

cut_short : (bytes : List ℕ) (place : ℕ) → length (take place bytes) + length (drop (place + 1) bytes) ≤ length bytes
cut_short bytes place = omega (arith, length-take place bytes, length-drop (place + 1) bytes)

front_short : (bytes : List ℕ) (front back : ℕ) → length (drop front (take back bytes)) ≤ length bytes
front_short bytes front back = omega (arith, length-drop front (take back bytes), length-take back bytes)

parts_short : (text : List ℕ) → length (whole_of text) + length (fraction_of text) ≤ length text
parts_short text =
    le_both (cut_short (significand_of text) (position_or_len is_point (significand_of text)))
    (front_short text (cond (eqb (get_or (before_first is_mark text) 0 0) 43) 1 0) (position_or_len is_mark text)) where
      le_both : {a b c : ℕ} → a ≤ b → b ≤ c → a ≤ c
      le_both p q = omega arith

-- an exponent raises or lowers, and never both
one_side : (minus : Bool) (v : ℕ) → (cond minus 0 v ≡ 0) ⊎ (cond minus v 0 ≡ 0)
one_side true v = inl refl
one_side false v = inr refl

-- two numbers are the same, or both are above the most units
abbrev pub SameOrGreat : ℕ → ℕ → Type 0
SameOrGreat m n = (m ≡ n) ⊎ ((10 ^ 18 < m) × (10 ^ 18 < n))

tenths_of-zero : (scale : ℕ) (whole fraction : List ℕ) (raised lowered : ℕ) → digits_value 10 (whole ++ fraction) ≡ 0
    → tenths_of scale whole fraction raised lowered ≡ 0
unfolding tenths_of
tenths_of-zero scale whole fraction raised lowered h =
    ap (λ d. d * 10 ^ (scale + 1 + raised) / 10 ^ (length fraction + lowered)) h
    ∙ ap (λ n. n / 10 ^ (length fraction + lowered)) (zero-mul (10 ^ (scale + 1 + raised)))
    ∙ zero-div (10 ^ (length fraction + lowered))

rounded_great : (t : ℕ) → 10 ^ 20 ≤ t → 10 ^ 18 < (t + 5) / 10
rounded_great t h = omega arith

rounded_of-raised : (scale : ℕ) (whole fraction : List ℕ) (raised lowered : ℕ) → length whole + length fraction ≤ 40
    → 1 ≤ digits_value 10 (whole ++ fraction) → 99 ≤ raised → lowered ≡ 0
    → 10 ^ 18 < rounded_of scale whole fraction raised lowered
unfolding tenths_of
rounded_of-raised scale whole fraction raised lowered short some far none =
    rounded_great (tenths_of scale whole fraction raised lowered)
    (far_raised (digits_value 10 (whole ++ fraction)) (scale + 1 + raised) (length fraction + lowered) some
    (omega arith))

tenths_of-lowered : (scale : ℕ) (whole fraction : List ℕ) (raised lowered : ℕ) → scale ≤ 9
    → length whole + length fraction ≤ 40 → all_ascii_digits (whole ++ fraction) ≡ true → raised ≡ 0 → 99 ≤ lowered
    → tenths_of scale whole fraction raised lowered ≡ 0
unfolding tenths_of
tenths_of-lowered scale whole fraction raised lowered small short all none far =
    far_lowered (digits_value 10 (whole ++ fraction)) (length (whole ++ fraction)) (scale + 1 + raised)
    (length fraction + lowered) (value_below (whole ++ fraction) all) (omega (arith, length-append whole fraction))

-- past the greatest number of places that matters the units stay the same, or stay out of range
rounded_of-capped : (scale : ℕ) (whole fraction : List ℕ) (raised lowered : ℕ) → scale ≤ 9
    → length whole + length fraction ≤ 40 → all_ascii_digits (whole ++ fraction) ≡ true → (raised ≡ 0) ⊎ (lowered ≡ 0)
    → SameOrGreat (rounded_of scale whole fraction raised lowered)
    (rounded_of scale whole fraction (min raised 99) (min lowered 99))
rounded_of-capped scale whole fraction raised lowered small short all side =
    ⊎_elim far_up near_up (cases_lt 99 raised) where
      far_up : 99 < raised
          → SameOrGreat (rounded_of scale whole fraction raised lowered)
          (rounded_of scale whole fraction (min raised 99) (min lowered 99))
      far_up far = ⊎_elim some none (cases_lt 0 (digits_value 10 (whole ++ fraction))) where
        level : lowered ≡ 0
        level = ⊎_elim (λ (e : raised ≡ 0). absurd (omega arith)) (λ (e : lowered ≡ 0). e) side

        some : 0 < digits_value 10 (whole ++ fraction)
            → SameOrGreat (rounded_of scale whole fraction raised lowered)
            (rounded_of scale whole fraction (min raised 99) (min lowered 99))
        some h =
            inr (
              rounded_of-raised scale whole fraction raised lowered short (omega arith) (omega arith) level,
              rounded_of-raised scale whole fraction (min raised 99) (min lowered 99) short (omega arith) (omega arith)
                  (let e : lowered ≡ 0 = level in omega arith),
            )

        none : digits_value 10 (whole ++ fraction) ≤ 0
            → SameOrGreat (rounded_of scale whole fraction raised lowered)
            (rounded_of scale whole fraction (min raised 99) (min lowered 99))
        none h =
            inl (ap (λ t. (t + 5) / 10)
            (tenths_of-zero scale whole fraction raised lowered (omega arith)
            ∙ sym (tenths_of-zero scale whole fraction (min raised 99) (min lowered 99) (omega arith))))

      near_up : raised ≤ 99
          → SameOrGreat (rounded_of scale whole fraction raised lowered)
          (rounded_of scale whole fraction (min raised 99) (min lowered 99))
      near_up near = ⊎_elim far_down near_down (cases_lt 99 lowered) where
        far_down : 99 < lowered
            → SameOrGreat (rounded_of scale whole fraction raised lowered)
            (rounded_of scale whole fraction (min raised 99) (min lowered 99))
        far_down far =
            let level : raised ≡ 0 = ⊎_elim (λ (e : raised ≡ 0). e) (λ (e : lowered ≡ 0). absurd (omega arith)) side in
            inl (ap (λ t. (t + 5) / 10)
            (tenths_of-lowered scale whole fraction raised lowered small short all level (omega arith)
            ∙ sym (tenths_of-lowered scale whole fraction (min raised 99) (min lowered 99) small short all
            (omega arith) (omega arith))))

        near_down : lowered ≤ 99
            → SameOrGreat (rounded_of scale whole fraction raised lowered)
            (rounded_of scale whole fraction (min raised 99) (min lowered 99))
        near_down h =
            let r : raised ≡ min raised 99 = omega arith in
            let l : lowered ≡ min lowered 99 = omega arith in
            inl (ap (λ n. rounded_of scale whole fraction n lowered) r
            ∙ ap (λ n. rounded_of scale whole fraction (min raised 99) n) l)

pub units_of-capped : (scale : ℕ) (text : List ℕ) → scale ≤ 9 → length text ≤ 40
    → all_ascii_digits (whole_of text ++ fraction_of text) ≡ true
    → SameOrGreat (units_of scale text)
    (rounded_of scale (whole_of text) (fraction_of text) (min (raise_of text) 99) (min (lower_of text) 99))
units_of-capped scale text small short all =
    let capped =
    rounded_of-capped scale (whole_of text) (fraction_of text) (raise_of text) (lower_of text) small
    (le_both (parts_short text) short) all
    (one_side (starts_with_minus (exponent_of text)) (digits_value 10 (without_leading_sign (exponent_of text)))) in
    subst (λ (n : ℕ). SameOrGreat n
    (rounded_of scale (whole_of text) (fraction_of text) (min (raise_of text) 99) (min (lower_of text) 99)))
    (sym (units_of-rounded scale text)) capped where
      le_both : {a b c : ℕ} → a ≤ b → b ≤ c → a ≤ c
      le_both p q = omega arith
