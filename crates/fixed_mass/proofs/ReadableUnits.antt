-- For `readable_units`: what a text is read as, by what its parts stand for.
use Rattle.std.proofs.Common.{◌≡◌, ℕ, ◌<◌, ◌≤◌, ◌^◌, ◌++◌, Bool, true, cond, leb, List, Some, None, length, min, ap}
use Rattle.std.proofs.Common.{sym, ◌∙◌, ⊎_elim, arith}
use Rattle.std.specs.Prelude.{◌&&◌}
use Rattle.std.specs.Str.{all_ascii_digits}
use Rattle.std.proofs.lemmas.Bool.Decides.{nat_tests}
use Rattle.fixed_mass.specs.Numeral.{is_numeral, is_digits, is_exponent, whole_of, fraction_of, raise_of, lower_of}
use Rattle.fixed_mass.specs.Units.{units_of, readable_units}
use Rattle.fixed_mass.specs.inside.Tenths.{rounded_of}
use Rattle.fixed_mass.proofs.IsNumeral.{and_left, all_of_digits}
use Rattle.fixed_mass.proofs.UnitsOf.{units_of-capped}

all_of_numeral : (text : List ℕ) → is_numeral text ≡ true → all_ascii_digits (whole_of text ++ fraction_of text) ≡ true
unfolding is_numeral
all_of_numeral text h =
    all_of_digits (whole_of text ++ fraction_of text)
    (and_left (is_digits (whole_of text ++ fraction_of text)) (is_exponent text) h)

pub capped_parts : (scale : ℕ) (text whole fraction : List ℕ) (raised lowered : ℕ) → whole ≡ whole_of text
    → fraction ≡ fraction_of text → raised ≡ min (raise_of text) 99 → lowered ≡ min (lower_of text) 99
    → rounded_of scale whole fraction raised lowered
    ≡ rounded_of scale (whole_of text) (fraction_of text) (min (raise_of text) 99) (min (lower_of text) 99)
capped_parts scale text whole fraction raised lowered w f r l =
    ap (λ t. rounded_of scale t fraction raised lowered) w
    ∙ ap (λ t. rounded_of scale (whole_of text) t raised lowered) f
    ∙ ap (λ n. rounded_of scale (whole_of text) (fraction_of text) n lowered) r
    ∙ ap (λ n. rounded_of scale (whole_of text) (fraction_of text) (min (raise_of text) 99) n) l

pub same_units : (scale : ℕ) (text : List ℕ) (units : ℕ) → scale ≤ 9 → length text ≤ 40 → is_numeral text ≡ true
    → units ≡ rounded_of scale (whole_of text) (fraction_of text) (min (raise_of text) 99) (min (lower_of text) 99)
    → units ≤ 10 ^ 18 → units ≡ units_of scale text
same_units scale text units small short numeral e within =
    ⊎_elim (λ (same : units_of scale text ≡ _). e ∙ sym same)
    (λ (great : _ × _). let high = great.1 in absurd (omega arith))
    (units_of-capped scale text small short (all_of_numeral text numeral))

pub great_units : (scale : ℕ) (text : List ℕ) (rounded : ℕ) → scale ≤ 9 → length text ≤ 40 → is_numeral text ≡ true
    → rounded ≡ rounded_of scale (whole_of text) (fraction_of text) (min (raise_of text) 99) (min (lower_of text) 99)
    → 10 ^ 18 < rounded → 10 ^ 18 < units_of scale text
great_units scale text rounded small short numeral e great =
    ⊎_elim (λ (same : units_of scale text ≡ _). omega arith) (λ (both : _ × _). both.0)
    (units_of-capped scale text small short (all_of_numeral text numeral))

choice_of : (numeral : Bool) (m n k l x : ℕ) → numeral ≡ true → m ≤ n → k ≤ l
    → Some x ≡ cond ((numeral && leb m n) && leb k l) (Some x) None
choice_of numeral m n k l x h short within = grind (arith, nat_tests)

choice_of-great : (numeral : Bool) (m n k l x : ℕ) → l < k → None ≡ cond ((numeral && leb m n) && leb k l) (Some x) None
choice_of-great numeral m n k l x great = grind (arith, nat_tests)

pub readable_units-some : (scale : ℕ) (text : List ℕ) (units : ℕ) → is_numeral text ≡ true → length text ≤ 40
    → units ≡ units_of scale text → units ≤ 10 ^ 18 → Some units ≡ readable_units scale text
readable_units-some scale text units numeral short e within =
    ap (λ n. Some n) e ∙ choice_of (is_numeral text) (length text) 40 (units_of scale text) (10 ^ 18)
    (units_of scale text) numeral short (omega arith)

pub readable_units-none : (scale : ℕ) (text : List ℕ) → 10 ^ 18 < units_of scale text → None ≡ readable_units scale text
readable_units-none scale text great =
    choice_of-great (is_numeral text) (length text) 40 (units_of scale text) (10 ^ 18) (units_of scale text) great
