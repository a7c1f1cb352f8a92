-- Of is_marked and marks_of: what setting and clearing one bit leaves, and lists of truth values that are kept as bits.
use Rattle.std.proofs.Common.{◌≡◌, ◌*◌, ◌-◌, ◌/◌, ◌%◌, ◌^◌, ◌<◌, ◌∙◌, ◌⊎◌, inl, inr, ℕ, Bool, not, ◌&&◌, ◌||◌, List}
use Rattle.std.proofs.Common.{length, get_or, set, eqb, ap, sym, arith}
use Rattle.std.proofs.lemmas.Bool.{cases_eq, eq-eqb, ne_eqb, or_left, and_left, not_from_true}
use Rattle.std.proofs.lemmas.List.{get_or-set_other, get_or-set_same}
use Rattle.std.proofs.lemmas.List.FromFn.{get_or-map-range_with_len, length-map-range_with_len}
use Rattle.std.proofs.lemmas.Nat.Bits.{bit_at_clear_other, bit_at_clear_same, bit_at_set_other, bit_at_set_same}
use Rattle.std.specs.Int.{bit_at, w64}
use Rattle.std.specs.Int.RustNames.{bit_or}
use lib.Bits.{bit_and}
use Rattle.colour_graph.specs.inside.Bits.{is_marked, marks_of}

abbrev bit : ℕ → ℕ → Bool
bit word place = eqb (bit_at word place) 1

same_place : (place other : ℕ) → other / 64 ≡ place / 64 → other % 64 ≡ place % 64 → other ≡ place
same_place place other word in_word = omega arith

word_within : (place long : ℕ) → place < 64 * long → place / 64 < long
word_within place long within = omega arith

bit_within : (place : ℕ) → place % 64 < 64
bit_within place = omega arith

pub is_marked-mark : (words : List ℕ) (place : ℕ) → place < 64 * length words → (other : ℕ)
    → is_marked (set words (place / 64) (bit_or (get_or words (place / 64) 0) (1 * 2 ^ (place % 64) % 2 ^ 64))) other
    ≡ (eqb other place || is_marked words other)
is_marked-mark words place within other =
    choose (cases_eq (other / 64) (place / 64)) (cases_eq (other % 64) (place % 64))
  where
    choose : (other / 64 ≡ place / 64) ⊎ (other / 64 ≡ place / 64 → ⊥)
        → (other % 64 ≡ place % 64) ⊎ (other % 64 ≡ place % 64 → ⊥)
        → is_marked (set words (place / 64) (bit_or (get_or words (place / 64) 0) (1 * 2 ^ (place % 64) % 2 ^ 64)))
        other ≡ (eqb other place || is_marked words other)
    choose (inl word) (inl in_word) =
        ap (λ at. bit (get_or (set words (place / 64)
        (bit_or (get_or words (place / 64) 0) (1 * 2 ^ (place % 64) % 2 ^ 64))) at 0) (other % 64)) word
        ∙ ap (λ n. bit n (other % 64))
        (get_or-set_same words (place / 64) (bit_or (get_or words (place / 64) 0) (1 * 2 ^ (place % 64) % 2 ^ 64))
        0 (word_within place (length words) within))
        ∙ ap (λ at. bit (bit_or (get_or words (place / 64) 0) (1 * 2 ^ (place % 64) % 2 ^ 64)) at) in_word
        ∙ ap (λ n. eqb n 1) (bit_at_set_same w64 (get_or words (place / 64) 0) (place % 64) (bit_within place))
        ∙ sym (or_left (eqb other place) (is_marked words other)
        (eq-eqb other place (same_place place other word in_word)))
    choose (inl word) (inr beside) =
        ap (λ at. bit (get_or (set words (place / 64)
        (bit_or (get_or words (place / 64) 0) (1 * 2 ^ (place % 64) % 2 ^ 64))) at 0) (other % 64)) word
        ∙ ap (λ n. bit n (other % 64))
        (get_or-set_same words (place / 64) (bit_or (get_or words (place / 64) 0) (1 * 2 ^ (place % 64) % 2 ^ 64))
        0 (word_within place (length words) within))
        ∙ ap (λ n. eqb n 1) (bit_at_set_other w64 (get_or words (place / 64) 0) (place % 64) (bit_within place)
        (other % 64) beside)
        ∙ ap (λ at. bit (get_or words at 0) (other % 64)) (sym word)
        ∙ sym (ap (λ same. same || is_marked words other) (ne_eqb other place (λ same. beside (ap (λ n. n % 64) same))))
    choose (inr apart) in_word =
        ap (λ n. bit n (other % 64))
        (get_or-set_other words (place / 64) (other / 64)
        (bit_or (get_or words (place / 64) 0) (1 * 2 ^ (place % 64) % 2 ^ 64)) 0 apart)
        ∙ sym (ap (λ same. same || is_marked words other) (ne_eqb other place (λ same. apart (ap (λ n. n / 64) same))))

pub is_marked-unmark : (words : List ℕ) (place : ℕ) → place < 64 * length words → (other : ℕ)
    → is_marked (set words (place / 64)
    (bit_and (get_or words (place / 64) 0) (2 ^ 64 - 1 - 1 * 2 ^ (place % 64) % 2 ^ 64))) other
    ≡ (not (eqb other place) && is_marked words other)
is_marked-unmark words place within other =
    choose (cases_eq (other / 64) (place / 64)) (cases_eq (other % 64) (place % 64))
  where
    choose : (other / 64 ≡ place / 64) ⊎ (other / 64 ≡ place / 64 → ⊥)
        → (other % 64 ≡ place % 64) ⊎ (other % 64 ≡ place % 64 → ⊥)
        → is_marked (set words (place / 64)
        (bit_and (get_or words (place / 64) 0) (2 ^ 64 - 1 - 1 * 2 ^ (place % 64) % 2 ^ 64))) other
        ≡ (not (eqb other place) && is_marked words other)
    choose (inl word) (inl in_word) =
        ap (λ at. bit (get_or (set words (place / 64)
        (bit_and (get_or words (place / 64) 0) (2 ^ 64 - 1 - 1 * 2 ^ (place % 64) % 2 ^ 64))) at 0) (other % 64))
        word
        ∙ ap (λ n. bit n (other % 64))
        (get_or-set_same words (place / 64)
        (bit_and (get_or words (place / 64) 0) (2 ^ 64 - 1 - 1 * 2 ^ (place % 64) % 2 ^ 64)) 0
        (word_within place (length words) within))
        ∙ ap (λ at. bit (bit_and (get_or words (place / 64) 0) (2 ^ 64 - 1 - 1 * 2 ^ (place % 64) % 2 ^ 64)) at) in_word
        ∙ ap (λ n. eqb n 1) (bit_at_clear_same w64 (get_or words (place / 64) 0) (place % 64) (bit_within place))
        ∙ sym (and_left (not (eqb other place)) (is_marked words other)
        (not_from_true (eqb other place) (eq-eqb other place (same_place place other word in_word))))
    choose (inl word) (inr beside) =
        ap (λ at. bit (get_or (set words (place / 64)
        (bit_and (get_or words (place / 64) 0) (2 ^ 64 - 1 - 1 * 2 ^ (place % 64) % 2 ^ 64))) at 0) (other % 64))
        word
        ∙ ap (λ n. bit n (other % 64))
        (get_or-set_same words (place / 64)
        (bit_and (get_or words (place / 64) 0) (2 ^ 64 - 1 - 1 * 2 ^ (place % 64) % 2 ^ 64)) 0
        (word_within place (length words) within))
        ∙ ap (λ n. eqb n 1) (bit_at_clear_other w64 (get_or words (place / 64) 0) (place % 64) (bit_within place)
        (other % 64) (bit_within other) beside)
        ∙ ap (λ at. bit (get_or words at 0) (other % 64)) (sym word)
        ∙ sym (ap (λ same. not same && is_marked words other)
        (ne_eqb other place (λ same. beside (ap (λ n. n % 64) same))))
    choose (inr apart) in_word =
        ap (λ n. bit n (other % 64))
        (get_or-set_other words (place / 64) (other / 64)
        (bit_and (get_or words (place / 64) 0) (2 ^ 64 - 1 - 1 * 2 ^ (place % 64) % 2 ^ 64)) 0 apart)
        ∙ sym (ap (λ same. not same && is_marked words other)
        (ne_eqb other place (λ same. apart (ap (λ n. n / 64) same))))

pub length-marks_of : (words : List ℕ) (count : ℕ) → length (marks_of words count) ≡ count
length-marks_of words count = length-map-range_with_len (is_marked words) 0 count

pub get_or-marks_of : (words : List ℕ) (count place : ℕ) (other : Bool) → place < count
    → get_or (marks_of words count) place other ≡ is_marked words place
get_or-marks_of words count place other within =
    get_or-map-range_with_len (is_marked words) 0 count place place other within (omega arith)
