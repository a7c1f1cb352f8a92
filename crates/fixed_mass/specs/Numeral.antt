-- Numerals: the parts of a text, and which texts are numerals.
use Rattle.std.specs.Prelude.{◌++◌, ◌^◌, ℕ, List, Bool, Option, Some, None, ◌&&◌, ◌||◌, not, ◌==◌, nat_lt, length}
use Rattle.std.specs.Prelude.{if◌then◌else◌}
use Rattle.std.specs.List.{before_first, after_first, list_any}
use Rattle.std.specs.Str.{all_ascii_digits}
use Rattle.std.specs.Str.Parse.{without_leading_plus, without_leading_sign, starts_with_minus, digits_value}

-- `e` or `E`, which stands before the exponent
abbrev pub is_mark : ℕ → Bool
is_mark byte = byte == 101 || byte == 69

-- `.`
abbrev pub is_point : ℕ → Bool
is_point byte = byte == 46

-- what stands before the mark, without a leading plus
abbrev pub significand_of : List ℕ → List ℕ
significand_of text = without_leading_plus (before_first is_mark text)

-- what stands before the point, or all of it where there is none
abbrev pub whole_of : List ℕ → List ℕ
whole_of text = before_first is_point (significand_of text)

-- what stands behind the point, or nothing where there is none
abbrev pub fraction_of : List ℕ → List ℕ
fraction_of text = after_first is_point (significand_of text)

-- what stands behind the mark
abbrev pub exponent_of : List ℕ → List ℕ
exponent_of text = after_first is_mark text

-- at least one byte, and all of them decimal digits
abbrev pub is_digits : List ℕ → Bool
is_digits bytes = nat_lt 0 (length bytes) && all_ascii_digits bytes

-- the number that digits write, where there is one and it is below 2 ^ 64
abbrev pub number_of_digits : List ℕ → Option ℕ
number_of_digits bytes =
    if is_digits bytes && nat_lt (digits_value 10 bytes) (2 ^ 64) then Some (digits_value 10 bytes) else None

-- where there is a mark, an optional sign and at least one digit stand behind it
unfoldable pub is_exponent : List ℕ → Bool
is_exponent text = not (list_any is_mark text) || is_digits (without_leading_sign (exponent_of text))

-- a numeral: an optional plus, then digits, before and behind an optional point, at least one in all, and then the
-- exponent
unfoldable pub is_numeral : List ℕ → Bool
is_numeral text = is_digits (whole_of text ++ fraction_of text) && is_exponent text

-- by how many places an exponent raises the digits
abbrev pub raise_by : List ℕ → ℕ
raise_by exponent = if starts_with_minus exponent then 0 else digits_value 10 (without_leading_sign exponent)

-- by how many places an exponent lowers the digits
abbrev pub lower_by : List ℕ → ℕ
lower_by exponent = if starts_with_minus exponent then digits_value 10 (without_leading_sign exponent) else 0

-- by how many places the exponent of a text raises its digits
abbrev pub raise_of : List ℕ → ℕ
raise_of text = raise_by (exponent_of text)

-- by how many places the exponent of a text lowers its digits
abbrev pub lower_of : List ℕ → ℕ
lower_of text = lower_by (exponent_of text)
