-- For `form_within`: the form of a line by its first byte.
use Rattle.std.proofs.Common.{◌≡◌, ◌<◌, ◌≤◌, ℕ, Bool, true, false, List, [], ◌∷◌, length, take, drop, refl, eqb, arith}
use Rattle.std.proofs.Common.{codes, get_or}
use Rattle.std.proofs.lemmas.Bool.Decides.{nat_tests}
use Rattle.std.proofs.lemmas.List.Folds.{list_any_none, list_any_at}
use Rattle.std.proofs.lemmas.List.Elements.{All-from_get_or}
use Rattle.std.proofs.lemmas.List.Sums.{fails_before_first, passes_at_first}
use Rattle.std.specs.List.{position_or_len, list_any}
use Rattle.std.specs.Char.{to_ascii_lowercase}
use Rattle.mgf_reader.specs.Bytes.{is_blank, is_name_byte, is_comment_mark, is_peak_start, is_equals, fields_of}
use Rattle.mgf_reader.specs.Bytes.{fields_by}
use Rattle.mgf_reader.specs.LineForm.{blank, begin, end, parameter_of, peak, remark, no_form, comment, are_words}
use Rattle.mgf_reader.specs.LineForm.{form_within}
use Rattle.mgf_reader.proofs.FieldsBy.{fields_by-field}

none_at_end : (p : ℕ → Bool) (xs : List ℕ) → length xs ≤ position_or_len p xs → list_any p xs ≡ false
none_at_end p xs h = list_any_none p xs (All-from_get_or (λ x. p x ≡ false) xs 0
    (λ i l. fails_before_first p xs i 0 (omega arith)))

some_before_end : (p : ℕ → Bool) (xs : List ℕ) → position_or_len p xs < length xs → list_any p xs ≡ true
some_before_end p xs h = list_any_at p xs (position_or_len p xs) 0 h (passes_at_first p xs 0 h)

is_comment_mark-peak_start : (b : ℕ) → is_peak_start b ≡ true → is_comment_mark b ≡ false
is_comment_mark-peak_start b h = grind (arith, nat_tests)

is_name_byte-peak_start : (b : ℕ) → is_peak_start b ≡ true → is_name_byte b ≡ false
is_name_byte-peak_start b h = grind (arith, nat_tests)

is_blank-peak_start : (b : ℕ) → is_peak_start b ≡ true → is_blank b ≡ false
is_blank-peak_start b h = grind (arith, nat_tests)

is_comment_mark-name_byte : (b : ℕ) → is_name_byte b ≡ true → is_comment_mark b ≡ false
is_comment_mark-name_byte b h = grind (arith, nat_tests)

-- a byte that is no letter is in no case this letter
is_no_letter : (b k : ℕ) → 97 ≤ k → k ≤ 122 → is_name_byte b ≡ false → eqb (to_ascii_lowercase b) k ≡ false
is_no_letter b k above below h = grind (arith, nat_tests)

is_peak_start-name_byte : (b : ℕ) → is_name_byte b ≡ true → is_peak_start b ≡ false
is_peak_start-name_byte b h = grind (arith, nat_tests)

are_words-other : (b k : ℕ) (field ks other : List ℕ) (more : List (List ℕ))
    → eqb (to_ascii_lowercase b) (to_ascii_lowercase k) ≡ false → are_words ((b ∷ field) ∷ more) (k ∷ ks) other ≡ false
are_words-other b k field ks other [] h = refl
are_words-other b k field ks other (second ∷ []) h = rw h refl
are_words-other b k field ks other (second ∷ (third ∷ more)) h = refl

-- a line that begins with no letter and no blank begins with no word of letters
no_words : (b k : ℕ) (rest ks other : List ℕ) → is_name_byte b ≡ false → is_blank b ≡ false → 97 ≤ to_ascii_lowercase k
    → to_ascii_lowercase k ≤ 122 → are_words (fields_of (b ∷ rest)) (k ∷ ks) other ≡ false
no_words b k rest ks other no_name no_blank above below =
    rw (fields_by-field is_blank b rest no_blank)
    (are_words-other b k (take (position_or_len is_blank rest) rest) ks other
    (fields_by is_blank (drop (position_or_len is_blank rest) rest))
    (is_no_letter b (to_ascii_lowercase k) above below no_name))

no_begin : (b : ℕ) (rest : List ℕ) → is_name_byte b ≡ false → is_blank b ≡ false
    → are_words (fields_of (b ∷ rest)) (codes "BEGIN") (codes "IONS") ≡ false
no_begin b rest no_name no_blank = no_words b 66 rest (codes "EGIN") (codes "IONS") no_name no_blank (omega arith)
    (omega arith)

no_end : (b : ℕ) (rest : List ℕ) → is_name_byte b ≡ false → is_blank b ≡ false
    → are_words (fields_of (b ∷ rest)) (codes "END") (codes "IONS") ≡ false
no_end b rest no_name no_blank = no_words b 69 rest (codes "ND") (codes "IONS") no_name no_blank (omega arith)
    (omega arith)

pub peak_by_first : (line : List ℕ) → is_peak_start (get_or line 0 0) ≡ true → peak (fields_of line) ≡ form_within line
unfolding form_within
peak_by_first [] h = cc
peak_by_first (b ∷ rest) h =
    let no_name : is_name_byte b ≡ false = is_name_byte-peak_start b h in
    let no_blank : is_blank b ≡ false = is_blank-peak_start b h in
    simp (h, no_name, is_comment_mark-peak_start b h, no_begin b rest no_name no_blank, no_end b rest no_name no_blank)

pub comment_by_first : (line : List ℕ) → is_comment_mark (get_or line 0 0) ≡ true → comment ≡ form_within line
unfolding form_within
comment_by_first [] h = cc
comment_by_first (b ∷ rest) h = simp h

pub no_form_by_first : (line : List ℕ) → (line ≡ [] → ⊥) → is_peak_start (get_or line 0 0) ≡ false
    → is_name_byte (get_or line 0 0) ≡ false → is_comment_mark (get_or line 0 0) ≡ false
    → is_blank (get_or line 0 0) ≡ false → no_form ≡ form_within line
unfolding form_within
no_form_by_first [] some no_peak no_name no_mark no_blank = absurd (some refl)
no_form_by_first (b ∷ rest) some no_peak no_name no_mark no_blank =
    simp (no_peak, no_name, no_mark, no_begin b rest no_name no_blank, no_end b rest no_name no_blank)

pub begin_by_words : (line : List ℕ) → is_name_byte (get_or line 0 0) ≡ true
    → are_words (fields_of line) (codes "BEGIN") (codes "IONS") ≡ true → begin ≡ form_within line
unfolding form_within
begin_by_words [] name is = cc
begin_by_words (b ∷ rest) name is = simp (is_comment_mark-name_byte b name, is)

pub end_by_words : (line : List ℕ) → is_name_byte (get_or line 0 0) ≡ true
    → are_words (fields_of line) (codes "BEGIN") (codes "IONS") ≡ false
    → are_words (fields_of line) (codes "END") (codes "IONS") ≡ true → end ≡ form_within line
unfolding form_within
end_by_words [] name not_begin is = cc
end_by_words (b ∷ rest) name not_begin is = simp (is_comment_mark-name_byte b name, not_begin, is)

pub remark_by_equals : (line : List ℕ) → is_name_byte (get_or line 0 0) ≡ true
    → are_words (fields_of line) (codes "BEGIN") (codes "IONS") ≡ false
    → are_words (fields_of line) (codes "END") (codes "IONS") ≡ false → length line ≤ position_or_len is_equals line
    → remark ≡ form_within line
unfolding form_within
remark_by_equals [] name not_begin not_end none = cc
remark_by_equals (b ∷ rest) name not_begin not_end none =
    let no_equals : list_any is_equals (b ∷ rest) ≡ false = none_at_end is_equals (b ∷ rest) none in
    simp (is_comment_mark-name_byte b name, not_begin, not_end, name, no_equals, is_peak_start-name_byte b name)

pub parameter_by_equals : (line : List ℕ) → is_name_byte (get_or line 0 0) ≡ true
    → are_words (fields_of line) (codes "BEGIN") (codes "IONS") ≡ false
    → are_words (fields_of line) (codes "END") (codes "IONS") ≡ false → position_or_len is_equals line < length line
    → parameter_of line ≡ form_within line
unfolding form_within
parameter_by_equals [] name not_begin not_end some = cc
parameter_by_equals (b ∷ rest) name not_begin not_end some =
    let equals : list_any is_equals (b ∷ rest) ≡ true = some_before_end is_equals (b ∷ rest) some in
    simp (is_comment_mark-name_byte b name, not_begin, not_end, name, equals)

pub blank_by_length : (line : List ℕ) → length line < 1 → blank ≡ form_within line
unfolding form_within
blank_by_length [] h = refl
blank_by_length (b ∷ rest) h = absurd (omega arith)
