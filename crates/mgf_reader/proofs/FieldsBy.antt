-- For `fields_by`: the fields of a list of bytes, taken one after another from its front.
use Rattle.std.proofs.Common.{◌≡◌, ◌<◌, ◌≤◌, ◌+◌, ◌∙◌, inl, inr, ℕ, suc, Bool, true, false, List, [], ◌∷◌, length, take}
use Rattle.std.proofs.Common.{drop, filter, refl, sym, ap, ltb, eqb, arith}
use Rattle.std.proofs.lemmas.Bool.{cases_Bool, cases_lt, lt-ltb, le-ltb, eqb-true, eqb-false}
use Rattle.std.proofs.lemmas.List.Sums.{prefix_len-le-length}
use Rattle.std.proofs.lemmas.List.{length-drop}
use Rattle.std.proofs.lemmas.Bool.Decides.{same_from_decides}
use Rattle.std.specs.Cmp.Lexicographic.{bytes_decides}
use Rattle.std.specs.Char.{to_ascii_lowercase}
use Rattle.std.specs.Str.{str_eq_ignore_ascii_case}
use Rattle.std.specs.Prelude.{IsTrue, map, position, unwrap_or, not}
use Rattle.std.specs.List.{position_or_len}
use Rattle.mgf_reader.proofs.Trimmed.{trimmed_front-head, length-trimmed_front}
use Rattle.mgf_reader.specs.Bytes.{parts_of, fields_by, trimmed_front}

pub place_is : (p : ℕ → Bool) (xs : List ℕ) → unwrap_or (position p xs) (length xs) ≡ position_or_len p xs
place_is p xs = elim (cases_lt (position_or_len p xs) (length xs)) [
  | inl below ↦ rw lt-ltb refl
  | inr past ↦ let within : position_or_len p xs ≤ length xs = prefix_len-le-length (λ x. not (p x)) xs in
      rw le-ltb (omega arith)
]

abbrev holds_some : List ℕ → Bool
holds_some part = ltb 0 (length part)

pub fields_by-trimmed_front : (p : ℕ → Bool) (xs : List ℕ) → fields_by p (trimmed_front p xs) ≡ fields_by p xs
fields_by-trimmed_front p [] = refl
fields_by-trimmed_front p (x ∷ xs) = elim (cases_Bool (p x)) [
  | inl is ↦ simp is (fields_by-trimmed_front p xs)
  | inr other ↦ simp other
]

take-past_one : (n x : ℕ) (xs : List ℕ) → take (1 + n) (x ∷ xs) ≡ x ∷ take n xs
take-past_one n x xs = let is : 1 + n ≡ suc n = omega arith in rw is refl

drop-past_one : (n x : ℕ) (xs : List ℕ) → drop (1 + n) (x ∷ xs) ≡ drop n xs
drop-past_one n x xs = let is : 1 + n ≡ suc n = omega arith in rw is refl

holds_some-more : (x : ℕ) (xs : List ℕ) → holds_some (x ∷ xs) ≡ true
holds_some-more x xs = lt-ltb 0 (suc (length xs)) (omega arith)

position_or_len-past : (p : ℕ → Bool) (x : ℕ) (xs : List ℕ) → p x ≡ false
    → position_or_len p (x ∷ xs) ≡ 1 + position_or_len p xs
position_or_len-past p x xs stays = rw stays refl

-- the first part, and that the others hold the fields behind it
record Cut (p : ℕ → Bool) (xs : List ℕ) : Type 0 where
  later : List (List ℕ)
  parts : parts_of p xs ≡ take (position_or_len p xs) xs ∷ later
  fields : filter holds_some later ≡ fields_by p (drop (position_or_len p xs) xs)

cut : (p : ℕ → Bool) (xs : List ℕ) → Cut p xs
cut p [] = record { later = []; parts = refl; fields = refl }
cut p (x ∷ xs) = elim (cases_Bool (p x)) [
  | inl is ↦ record { later = parts_of p xs; parts = simp is; fields = simp is }
  | inr other ↦ let rest : Cut p xs = cut p xs in let place = position_or_len-past p x xs other in
      record {
        later = rest.later;
        parts = rw place (rw take-past_one (simp (other, rest.parts)));
        fields = rw place (rw drop-past_one rest.fields);
      }
]

pub field_at_front : (p : ℕ → Bool) (x : ℕ) (rest : List ℕ) → p x ≡ false
    → fields_by p (x ∷ rest) ≡ take (position_or_len p (x ∷ rest)) (x ∷ rest)
    ∷ fields_by p (drop (position_or_len p (x ∷ rest)) (x ∷ rest))
field_at_front p x rest stays =
    let parts : Cut p rest = cut p rest in
    let place = position_or_len-past p x rest stays in
    rw place (rw take-past_one (rw drop-past_one (simp (stays, parts.parts, holds_some-more, parts.fields))))

pub first_field_is : (p : ℕ → Bool) (xs left : List ℕ) → left ≡ trimmed_front p xs → (left ≡ [] → ⊥)
    → fields_by p xs ≡ take (position_or_len p left) left ∷ fields_by p (drop (position_or_len p left) left)
first_field_is p xs [] is some = absurd (some refl)
first_field_is p xs (x ∷ rest) is some = sym (fields_by-trimmed_front p xs) ∙ ap (fields_by p) (sym is)
    ∙ field_at_front p x rest (trimmed_front-head p xs x rest (sym is))

pub no_field : (p : ℕ → Bool) (xs : List ℕ) → trimmed_front p xs ≡ [] → fields_by p xs ≡ []
no_field p xs is = sym (fields_by-trimmed_front p xs) ∙ ap (fields_by p) is

pub is_empty_true : (xs : List ℕ) → eqb (length xs) 0 ≡ true → xs ≡ []
is_empty_true [] is = refl
is_empty_true (x ∷ xs) is = absurd (omega (arith, eqb-true (suc (length xs)) 0 is))

pub is_empty_false : (xs : List ℕ) → eqb (length xs) 0 ≡ false → xs ≡ [] → ⊥
is_empty_false xs is same = eqb-false (length xs) 0 is (ap length same)

-- a list that does not begin with what parts fields begins with a field
pub fields_by-field : (p : ℕ → Bool) (x : ℕ) (rest : List ℕ) → p x ≡ false
    → fields_by p (x ∷ rest) ≡ (x ∷ take (position_or_len p rest) rest)
    ∷ fields_by p (drop (position_or_len p rest) rest)
fields_by-field p x rest stays =
    let place = position_or_len-past p x rest stays in
    sym (rw (sym (take-past_one (position_or_len p rest) x rest))
    (rw (sym (drop-past_one (position_or_len p rest) x rest)) (rw (sym place) (sym (field_at_front p x rest stays)))))

first_place_positive : (p : ℕ → Bool) (xs left : List ℕ) → left ≡ trimmed_front p xs → (left ≡ [] → ⊥)
    → 0 < position_or_len p left
first_place_positive p xs [] is some = absurd (some refl)
first_place_positive p xs (x ∷ rest) is some =
    omega (arith, position_or_len-past p x rest (trimmed_front-head p xs x rest (sym is)))

pub rest_is_shorter : (p : ℕ → Bool) (xs left : List ℕ) (end : ℕ) → left ≡ trimmed_front p xs → (left ≡ [] → ⊥)
    → end ≡ position_or_len p left → length (drop end left) < length xs
rest_is_shorter p xs left end is some place =
    let positive = first_place_positive p xs left is some in
    let within : position_or_len p left ≤ length left = prefix_len-le-length (λ x. not (p x)) left in
    let bound : length left ≤ length xs = rw is (length-trimmed_front p xs) in
    rw length-drop (omega arith)

-- what a test of two texts without ASCII case answers
pub same_words : (one other : List ℕ) (r : Bool)
    → ((IsTrue r → map to_ascii_lowercase one ≡ map to_ascii_lowercase other)
    × (map to_ascii_lowercase one ≡ map to_ascii_lowercase other → IsTrue r)) → r ≡ str_eq_ignore_ascii_case one other
same_words one other r told = same_from_decides r (str_eq_ignore_ascii_case one other) told
    (bytes_decides (map to_ascii_lowercase one) (map to_ascii_lowercase other))
