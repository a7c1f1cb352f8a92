-- How a title is spelled.
use Rattle.std.specs.Prelude.{◌+◌, ◌/◌, ◌%◌, ℕ, List, [], ◌∷◌, if◌then◌else◌, nat_lt, nat_le, ◌&&◌, ◌==◌, not, Bool}
use Rattle.std.specs.List.{flat_map, list_all}

-- a small hexadecimal digit
abbrev pub hexadecimal : ℕ → ℕ
hexadecimal digit = if nat_lt digit 10 then 48 + digit else 87 + digit

-- a byte of a title: the ASCII characters from space to tilde as they are, but a backslash and all others by their
-- number
abbrev pub escaped_byte : ℕ → List ℕ
escaped_byte byte =
    if nat_le 32 byte && (nat_le byte 126 && not (byte == 92)) then byte ∷ [] else
    92 ∷ 120 ∷ hexadecimal (byte / 16) ∷ hexadecimal (byte % 16) ∷ []

abbrev pub escaped : List ℕ → List ℕ
escaped title = flat_map escaped_byte title

-- the items of a title are bytes
abbrev pub are_bytes : List ℕ → Bool
are_bytes title = list_all (λ byte. nat_lt byte 256) title
