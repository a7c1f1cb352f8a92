-- The value of a numeral in whole units.
use Rattle.std.specs.Prelude.{◌+◌, ◌*◌, ◌/◌, ◌^◌, ◌++◌, ℕ, List, Option, Some, None, length, nat_le, ◌&&◌}
use Rattle.std.specs.Prelude.{if◌then◌else◌}
use Rattle.std.specs.Str.Parse.{digits_value}
use Rattle.fixed_mass.specs.Numeral.{whole_of, fraction_of, raise_of, lower_of, is_numeral}

-- A numeral with the digits d, read as one whole number, p of them behind the point, and the exponent e has the value
-- d * 10 ^ (e - p). In units of 10 ^ -scale this is one fraction of two whole numbers.
abbrev pub numerator_of : ℕ → List ℕ → ℕ
numerator_of scale text = digits_value 10 (whole_of text ++ fraction_of text) * 10 ^ (scale + raise_of text)

-- its lower part, which is never 0
abbrev pub denominator_of : List ℕ → ℕ
denominator_of text = 10 ^ (length (fraction_of text) + lower_of text)

-- that fraction and one half, rounded down
unfoldable pub units_of : ℕ → List ℕ → ℕ
units_of scale text = (2 * numerator_of scale text + denominator_of text) / (2 * denominator_of text)

-- how many places the scale may have at which a numeral is read
abbrev pub greatest_scale : ℕ
greatest_scale = 9

-- how many bytes a numeral may have
abbrev pub greatest_numeral_length : ℕ
greatest_numeral_length = 40

-- how many units a numeral may stand for
abbrev pub greatest_units : ℕ
greatest_units = 10 ^ 18

-- the units of a text that is read: a numeral that is not too long and stands for no more than the most units
abbrev pub readable_units : ℕ → List ℕ → Option ℕ
readable_units scale text =
    if is_numeral text && nat_le (length text) greatest_numeral_length && nat_le (units_of scale text) greatest_units
    then Some (units_of scale text)
    else None
