-- The value of a numeral's parts in tenths of units, which is what rounding needs.
use Rattle.std.specs.Prelude.{◌+◌, ◌-◌, ◌*◌, ◌/◌, ◌^◌, ◌++◌, ℕ, List, length, take}
use Rattle.std.specs.Str.Parse.{digits_value}

-- from here on a further place of an exponent changes no answer for a text that is short enough to be read
abbrev pub greatest_places : ℕ
greatest_places = 99

-- the tenths of units, rounded down, of digits around a point, which an exponent raises and lowers
unfoldable pub tenths_of : ℕ → List ℕ → List ℕ → ℕ → ℕ → ℕ
tenths_of scale whole fraction raised lowered =
    digits_value 10 (whole ++ fraction) * 10 ^ (scale + 1 + raised) / 10 ^ (length fraction + lowered)

-- the whole units, half a unit up
abbrev pub rounded_of : ℕ → List ℕ → List ℕ → ℕ → ℕ → ℕ
rounded_of scale whole fraction raised lowered = (tenths_of scale whole fraction raised lowered + 5) / 10

-- the number that all digits but the last write
unfoldable pub leading_of : ℕ → List ℕ → ℕ
leading_of dropped digits = digits_value 10 (take (length digits - dropped) digits)
