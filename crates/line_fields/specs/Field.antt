-- How a line is taken apart: its first word, then a field after each space.
use Rattle.std.specs.Prelude.{◌+◌, ◌-◌, ◌*◌, ◌%◌, ◌==◌, ◌&&◌, ℕ, ℤ, pos, neg_ℤ, min, Bool, not, List, [], ◌∷◌, length}
use Rattle.std.specs.Prelude.{map, drop, codes, Option, Some, None, Result, Ok, Err, nat_eq, nat_le, nat_lt}
use Rattle.std.specs.Prelude.{slice_index, if◌then◌else◌}
use Rattle.std.specs.List.{before_first, position_or_len, slice_split, starts_with}
use Rattle.std.specs.Option.{option_and_then, option_map}
use Rattle.std.specs.Str.{bytes_eq}
use Rattle.std.specs.Str.Parse.{digits_value}
use Rattle.element_table.specs.FormulaReading.{formula_of}
use Rattle.element_table.specs.FormulaText.{formula_text}
use Rattle.element_table.specs.declared.reading.FormulaFault.{FormulaFault}
use Rattle.mgf_reader.specs.Fault.{kind_number, kind_of_text}
use Rattle.tree_document.specs.declared.entry.Mark.{Mark}
use Rattle.tree_document.specs.declared.entry.Mark.TheVariants.{Optimal, Gap}
use Rattle.tree_document.specs.Title.{are_bytes, escaped}
use Rattle.tree_document.specs.Line.{Field, a_word, a_number, a_signed, a_formula, a_mark, a_kind, a_title}
use Rattle.tree_document.specs.Line.{some_numbers, is_number}

abbrev pub is_space : ℕ → Bool
is_space byte = byte == 32

-- No field may have this number: every greater one is read as it.
abbrev pub greatest_read : ℕ
greatest_read = 1000000000000000001

abbrev pub capped : ℕ → ℕ
capped number = min number greatest_read

-- what stands between a space at the front and the next one, and the rest
abbrev pub token_at : List ℕ → Option (List ℕ × List ℕ)
token_at [] = None
token_at (byte ∷ rest) =
    if is_space byte then Some (before_first is_space rest, drop (position_or_len is_space rest) rest) else None

-- the rest behind a first word
abbrev pub behind_word : List ℕ → List ℕ → Option (List ℕ)
behind_word word text = if starts_with nat_eq text word then Some (drop (length word) text) else None

abbrev pub number_in : List ℕ → Option ℕ
number_in token = if is_number token then Some (capped (digits_value 10 token)) else None

-- a minus stands before a number that is not 0
abbrev pub signed_in : List ℕ → Option ℤ
signed_in [] = None
signed_in (byte ∷ digits) =
    if byte == 45
    then (if is_number digits && not (digits_value 10 digits == 0)
    then Some (neg_ℤ (pos (capped (digits_value 10 digits)))) else None)
    else option_map (λ number. pos number) (number_in (byte ∷ digits))

-- the counts of a formula that is spelled as it is printed
abbrev pub spelled_formula : List ℕ → Result (List ℕ) FormulaFault → Option (List ℕ)
spelled_formula token (Err fault) = None
spelled_formula token (Ok counts) = if bytes_eq (formula_text counts) token then Some counts else None

abbrev pub formula_in : List ℕ → Option (List ℕ)
formula_in token = spelled_formula token (formula_of token)

abbrev pub mark_in : List ℕ → Option Mark
mark_in token =
    if bytes_eq token (codes "optimal") then Some Optimal else (if bytes_eq token (codes "gap") then Some Gap else None)

abbrev pub kind_in : List ℕ → Option ℕ
kind_in token = option_map kind_number (kind_of_text token)

abbrev pub word_in : List ℕ → List ℕ → Option (Unit {0})
word_in word token = if bytes_eq token word then Some tt else None

-- the kinds of a field that ends before the next space
pub data Kind : Type 0 where
  word_kind : List ℕ → Kind
  number_kind : ℕ → ℕ → Kind
  signed_kind : ℕ → Kind
  formula_kind : Kind
  mark_kind : Kind
  kind_kind : Kind

-- what may stand behind them: nothing, a title, numbers, of which there may be none or not, or natural numbers, of
-- which there is one
pub data Tail : Type 0 where
  no_tail : Tail
  title_tail : Tail
  numbers_tail : Bool → ℕ → ℕ → Tail
  naturals_tail : ℕ → ℕ → Tail

abbrev pub Of : Kind → Type 0
Of (word_kind word) = Unit {0}
Of (number_kind least most) = ℕ
Of (signed_kind most) = ℤ
Of formula_kind = List ℕ
Of mark_kind = Mark
Of kind_kind = ℕ

abbrev pub OfTail : Tail → Type 0
OfTail no_tail = Unit {0}
OfTail title_tail = List ℕ
OfTail (numbers_tail none count most) = List ℤ
OfTail (naturals_tail count most) = List ℕ

abbrev pub Values : List Kind → Tail → Type 0
Values [] tail = OfTail tail
Values (kind ∷ kinds) tail = Of kind × Values kinds tail

abbrev pub field_of : (kind : Kind) → Of kind → Field
field_of (word_kind word) value = a_word word
field_of (number_kind least most) value = a_number least most value
field_of (signed_kind most) value = a_signed most value
field_of formula_kind value = a_formula value
field_of mark_kind value = a_mark value
field_of kind_kind value = a_kind value

abbrev pub tail_fields : (tail : Tail) → OfTail tail → List Field
tail_fields no_tail value = []
tail_fields title_tail value = a_title value ∷ []
tail_fields (numbers_tail none count most) value = some_numbers (if none then 0 else 1) count most value ∷ []
tail_fields (naturals_tail count most) value = some_numbers 1 count most (map (λ number. pos number) value) ∷ []

abbrev pub fields_of : (kinds : List Kind) (tail : Tail) → Values kinds tail → List Field
fields_of [] tail value = tail_fields tail value
fields_of (kind ∷ kinds) tail values = field_of kind values.0 ∷ fields_of kinds tail values.1

abbrev pub value_in : (kind : Kind) → List ℕ → Option (Of kind)
value_in (word_kind word) token = word_in word token
value_in (number_kind least most) token = number_in token
value_in (signed_kind most) token = signed_in token
value_in formula_kind token = formula_in token
value_in mark_kind token = mark_in token
value_in kind_kind token = kind_in token

-- the value of a kind that stands at the front, and the rest
abbrev pub value_at : (kind : Kind) → List ℕ → Option (Of kind × List ℕ)
value_at kind text =
    option_and_then (λ parts. option_map (λ value. (value, parts.1)) (value_in kind parts.0)) (token_at text)

-- the number of a hexadecimal digit, and some number of another byte
abbrev pub nibble_of : ℕ → ℕ
nibble_of digit = (if nat_le digit 57 then digit - 48 else digit - 87) % 16

-- the first byte of a title behind its spelling, and the rest
abbrev pub title_byte_at : List ℕ → Option (ℕ × List ℕ)
title_byte_at text =
    if length text == 0 then None
    else (if slice_index text 0 == 92
    then (if nat_lt (length text) 4 then None else Some (
      nibble_of (slice_index text 2) * 16 + nibble_of
          (slice_index text 3),
      drop 4 text,
    ))
    else Some (slice_index text 0, drop 1 text))

-- the title that a spelling has, if it is one; and some title, if it is none
abbrev pub title_of : List ℕ → List ℕ
title_of (byte ∷ mark ∷ high ∷ low ∷ rest) =
    if byte == 92 then (nibble_of high * 16 + nibble_of low) ∷ title_of rest else
    byte ∷ title_of (mark ∷ high ∷ low ∷ rest)
title_of (byte ∷ rest) = if byte == 92 then [] else byte ∷ title_of rest
title_of [] = []

abbrev pub title_at : List ℕ → Option (List ℕ)
title_at [] = None
title_at (byte ∷ rest) =
    if is_space byte && (are_bytes (title_of rest) && bytes_eq (escaped (title_of rest)) rest)
    then Some (title_of rest) else None

-- the numbers of tokens
abbrev pub numbers_in : List (List ℕ) → Option (List ℤ)
numbers_in [] = Some []
numbers_in (token ∷ tokens) =
    option_and_then (λ number. option_map (λ numbers. number ∷ numbers) (numbers_in tokens)) (signed_in token)

-- the numbers to the end of a line, each behind a space
abbrev pub numbers_at : List ℕ → Option (List ℤ)
numbers_at [] = Some []
numbers_at (byte ∷ rest) = if is_space byte then numbers_in (slice_split is_space rest) else None

abbrev pub some_numbers_at : List ℕ → Option (List ℤ)
some_numbers_at text = if length text == 0 then None else numbers_at text

-- the natural numbers of tokens
abbrev pub naturals_in : List (List ℕ) → Option (List ℕ)
naturals_in [] = Some []
naturals_in (token ∷ tokens) =
    option_and_then (λ number. option_map (λ numbers. number ∷ numbers) (naturals_in tokens)) (number_in token)

-- the natural numbers to the end of a line, each behind a space; there is at least one
abbrev pub naturals_at : List ℕ → Option (List ℕ)
naturals_at [] = None
naturals_at (byte ∷ rest) = if is_space byte then naturals_in (slice_split is_space rest) else None

abbrev pub tail_at : (tail : Tail) → List ℕ → Option (OfTail tail)
tail_at no_tail text = if length text == 0 then Some tt else None
tail_at title_tail text = title_at text
tail_at (numbers_tail none count most) text = if none then numbers_at text else some_numbers_at text
tail_at (naturals_tail count most) text = naturals_at text

-- the values of all fields behind the first word
abbrev pub values_at : (kinds : List Kind) (tail : Tail) → List ℕ → Option (Values kinds tail)
values_at [] tail text = tail_at tail text
values_at (kind ∷ kinds) tail text =
    option_and_then (λ value. option_map (λ values. (value.0, values)) (values_at kinds tail value.1))
    (value_at kind text)

-- the same of a whole line
abbrev pub form_at : List ℕ → (kinds : List Kind) (tail : Tail) → List ℕ → Option (Values kinds tail)
form_at word kinds tail text = option_and_then (values_at kinds tail) (behind_word word text)
