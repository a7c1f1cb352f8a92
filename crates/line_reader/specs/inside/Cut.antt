-- The first whole line of a text.
use Rattle.std.specs.Prelude.{◌==◌, ℕ, Bool, List, [], ◌∷◌, Option, Some, None, if◌then◌else◌}
use Rattle.std.specs.Option.{option_map}

abbrev pub is_feed : ℕ → Bool
is_feed byte = byte == 10

-- what stands before the first line feed, and what stands behind it
abbrev pub cut_line : List ℕ → Option (List ℕ × List ℕ)
cut_line [] = None
cut_line (byte ∷ bytes) =
    if is_feed byte then Some ([], bytes) else
    option_map (λ parts. (byte ∷ parts.0, parts.1)) (cut_line bytes)
