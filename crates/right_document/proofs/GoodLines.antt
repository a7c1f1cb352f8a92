-- `IsGoodLine`: a line whose fields have their spellings and their ranges is good.
use Rattle.std.proofs.Common.{◌≡◌, ◌≤◌, ◌<◌, ◌∷◌, ◌∙◌, ◌⊎◌, inl, inr, ◌^◌, [], ℕ, suc, ℤ, pos, negsuc, true}
use Rattle.std.proofs.Common.{false, List, length, get_or, Some, eqb, decimal, unsigned_abs, refl, ap, arith}
use Rattle.std.proofs.Common.{rules}
use Rattle.std.specs.Bool.{⊤}
use Rattle.std.proofs.lemmas.Bool.{and_from, and_parts, cases_eq, le-leb, leb-true, ne_eqb}
use Rattle.std.proofs.lemmas.Fmt.{decimal_digit, decimal_nonempty, digits_decimal, digits_value-decimal, first_decimal}
use Rattle.std.proofs.lemmas.Str.Parse.{IsNumeralModel, numerals_by_value}
use Rattle.std.specs.Fmt.{signed_decimal}
use Rattle.std.specs.List.{AllByRecursion, flat_map, list_all}
use Rattle.std.specs.Str.{all_ascii_digits}
use Rattle.std.specs.Str.Parse.{digits_value}
use Rattle.element_table.specs.Formula.{IsFormula}
use Rattle.mgf_reader.specs.Fault.{kind_number, kind_of_number}
use Rattle.mgf_reader.specs.declared.fault.MgfKind.{MgfKind}
use Rattle.mgf_reader.specs.declared.fault.MgfKind.TheVariants.{NestedBegin, StrayEnd, OpenBlock, PeakOutside, BadPeak}
use Rattle.mgf_reader.specs.declared.fault.MgfKind.TheVariants.{BadPrecursor, BadCharge, NoForm, LineTooLong}
use Rattle.mgf_reader.specs.declared.fault.MgfKind.TheVariants.{TooManyPeaks}
use Rattle.tree_document.specs.Document.{IsGoodLine}
use Rattle.tree_document.specs.Line.{Field, a_word, a_number, a_signed, a_formula, a_mark, a_kind, a_title}
use Rattle.tree_document.specs.Line.{some_numbers, Line, WritesAll, WritesField, WritesFields, WritesNumber}
use Rattle.tree_document.specs.Line.{WritesSigned, field_text, form_of, is_field_in_range, is_number, is_shallow}
use Rattle.tree_document.specs.Line.{word_of}
use Rattle.tree_certificate.specs.Number.{is_near}
use Rattle.tree_document.specs.Title.{are_bytes}

-- numbers and their digits

own : IsNumeralModel (λ digits. all_ascii_digits digits ≡ true) (digits_value 10)
own = numerals_by_value _ (search rules)

is_number-from : (digits : List ℕ) → all_ascii_digits digits ≡ true → 0 < length digits
    → (get_or digits 0 0 ≡ 48 → length digits ≡ 1)
    → is_number digits ≡ true
is_number-from [] all some nought = absurd (omega arith)
is_number-from (digit ∷ []) all some nought = (and_parts _ _ all).0
is_number-from (digit ∷ next ∷ digits) all some nought =
    let other : eqb digit 48 ≡ false = ne_eqb digit 48 (λ same. omega (arith, nought same)) in
    rw other all

number_written : (number : ℕ) → number < 2 ^ 64 → WritesNumber number (decimal number)
number_written number small = (
  is_number-from (decimal number) (digits_decimal own number small) (decimal_nonempty number small) nought,
  digits_value-decimal own number small,
)
  where
    nought : get_or (decimal number) 0 0 ≡ 48 → length (decimal number) ≡ 1
    nought first = choose (cases_eq number 0)
      where
        choose : (number ≡ 0) ⊎ (number ≡ 0 → ⊥) → length (decimal number) ≡ 1
        choose (inl none) = ap (λ (n : ℕ). length (decimal n)) none ∙ ap length (decimal_digit 0 (omega arith))
        choose (inr some) = absurd (omega (arith, first, first_decimal number (omega arith) small))

signed_written : (number : ℤ) → unsigned_abs number < 2 ^ 64 → WritesSigned number (signed_decimal number)
signed_written (pos n) small = number_written n small
signed_written (negsuc n) small = (decimal (suc n), refl, number_written (suc n) small)

all_written : (most : ℕ) (numbers : List ℤ) → most < 2 ^ 64 → list_all (is_near most) numbers ≡ true
    → WritesAll numbers (flat_map (λ number. 32 ∷ signed_decimal number) numbers)
all_written most [] small near = refl
all_written most (number ∷ numbers) small near =
    let parts = and_parts (is_near most number) (list_all (is_near most) numbers) near in
    let within : unsigned_abs number ≤ most = leb-true (unsigned_abs number) most parts.0 in (
      signed_decimal number,
      flat_map (λ number. 32 ∷ signed_decimal number) numbers,
      refl,
      signed_written number (omega arith),
      all_written most numbers small parts.1,
    )

kind_found : (kind : MgfKind) → kind_of_number (kind_number kind) ≡ Some kind
kind_found NestedBegin = refl
kind_found StrayEnd = refl
kind_found OpenBlock = refl
kind_found PeakOutside = refl
kind_found BadPeak = refl
kind_found BadPrecursor = refl
kind_found BadCharge = refl
kind_found NoForm = refl
kind_found LineTooLong = refl
kind_found TooManyPeaks = refl

-- what makes a field good: a number in its range, which is one of 64 bits; a formula; a kind; bytes; some numbers
abbrev pub IsGoodField : Field → Type 0
IsGoodField (a_word word) = ⊤
IsGoodField (a_number least most number) = (least ≤ number) × (number ≤ most) × (most < 2 ^ 64)
IsGoodField (a_signed most number) = (unsigned_abs number ≤ most) × (most < 2 ^ 64)
IsGoodField (a_formula counts) = IsFormula counts
IsGoodField (a_mark mark) = ⊤
IsGoodField (a_kind number) = (kind : MgfKind) × (number ≡ kind_number kind)
IsGoodField (a_title title) = are_bytes title ≡ true
IsGoodField (some_numbers least count most numbers) =
    (least ≤ length numbers) × (length numbers ≤ count) × (list_all (is_near most) numbers ≡ true) × (most < 2 ^ 64)

-- a number of which none is too small
pub within : (most number : ℕ) → number ≤ most → most < 2 ^ 64 → IsGoodField (a_number 0 most number)
within most number few wide = (omega arith, few, wide)

field_in_range : (field : Field) → IsGoodField field → is_field_in_range field ≡ true
field_in_range (a_word word) good = refl
field_in_range (a_number least most number) good = and_from _ _ (le-leb least number good.0) (le-leb number most good.1)
field_in_range (a_signed most number) good = le-leb (unsigned_abs number) most good.0
field_in_range (a_formula counts) good = refl
field_in_range (a_mark mark) good = refl
field_in_range (a_kind number) good = refl
field_in_range (a_title title) good = refl
field_in_range (some_numbers least count most numbers) good = and_from _ _ (le-leb (length numbers) count good.1) good.2

field_written : (field : Field) → IsGoodField field → WritesField field (field_text field)
field_written (a_word word) good = refl
field_written (a_number least most number) good =
    (decimal number, refl, number_written number (omega (arith, good.1, good.2)))
field_written (a_signed most number) good =
    (signed_decimal number, refl, signed_written number (omega (arith, good.0, good.1)))
field_written (a_formula counts) good = (good, refl)
field_written (a_mark mark) good = refl
field_written (a_kind number) good =
    let found = ap kind_of_number good.1 ∙ kind_found good.0 in
    (good.0, found, ap (λ kind. 32 ∷ word_of kind) found)
field_written (a_title title) good = (good, refl)
field_written (some_numbers least count most numbers) good = (good.0, all_written most numbers good.3 good.2)

fields_in_range : (fields : List Field) → AllByRecursion IsGoodField fields → list_all is_field_in_range fields ≡ true
fields_in_range [] good = refl
fields_in_range (field ∷ fields) good = and_from _ _ (field_in_range field good.0) (fields_in_range fields good.1)

fields_written : (fields : List Field) → AllByRecursion IsGoodField fields
    → WritesFields fields (flat_map field_text fields)
fields_written [] good = refl
fields_written (field ∷ fields) good =
    (field_text field, flat_map field_text fields, refl, field_written field good.0, fields_written fields good.1)

-- A line that is no split is good where each of its fields is.
pub line_is_good : (line : Line) → is_shallow line ≡ true → AllByRecursion IsGoodField (form_of line).fields
    → IsGoodLine line
line_is_good line shallow good = record {
  in_range = fields_in_range (form_of line).fields good;
  shallow = shallow;
  spelled = (flat_map field_text (form_of line).fields, refl, fields_written (form_of line).fields good);
}
