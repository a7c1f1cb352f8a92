-- Sets kept as bits, 64 in a word.
use Rattle.std.specs.Prelude.{ℕ, ◌/◌, ◌%◌, ◌==◌, Bool, List, map, slice_index}
use Rattle.std.specs.Int.{bit_at}
use Rattle.std.specs.List.{range_with_len}

-- whether the bit of a place is set
abbrev pub is_marked : List ℕ → ℕ → Bool
is_marked words place = bit_at (slice_index words (place / 64)) (place % 64) == 1

-- the first bits, as truth values
abbrev pub marks_of : List ℕ → ℕ → List Bool
marks_of words count = map (is_marked words) (range_with_len 0 count)
