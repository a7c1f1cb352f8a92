-- The text of a number of units.
use Rattle.std.specs.Prelude.{◌+◌, ◌-◌, ◌/◌, ◌%◌, ◌^◌, ◌++◌, ◌∷◌, ℕ, List, map, decimal}
use Rattle.std.specs.List.{range_with_len}

-- how many decimals a number of units of masses and m/z has
abbrev pub mass_places : ℕ
mass_places = 7

-- how many bytes the text of a number below 2 ^ 64 may have
abbrev pub greatest_text_length : ℕ
greatest_text_length = 24

-- the decimals of a number of units of 10 ^ -places
abbrev pub decimals_of : ℕ → ℕ → List ℕ
decimals_of places units = map (λ place. 48 + units / 10 ^ (places - 1 - place) % 10) (range_with_len 0 places)

-- the whole part without leading zeros, a point, and the decimals
abbrev pub fixed_text : ℕ → ℕ → List ℕ
fixed_text places units = decimal (units / 10 ^ places) ++ 46 ∷ decimals_of places units
