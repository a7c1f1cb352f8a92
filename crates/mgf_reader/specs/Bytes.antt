-- Bytes of a line: which are dropped, and which part one field from the next.
use Rattle.std.specs.Prelude.{ℕ, List, [], ◌∷◌, Bool, ◌==◌, ◌||◌, ◌&&◌, nat_le, if◌then◌else◌, reverse, filter, length}
use Rattle.std.specs.Prelude.{nat_lt}
use Rattle.std.specs.Char.{is_ascii_digit}

-- a space or a tab
abbrev pub is_blank : ℕ → Bool
is_blank byte = byte == 32 || byte == 9

-- what is dropped at both ends of a line: a space, a tab or a carriage return
abbrev pub is_edge : ℕ → Bool
is_edge byte = byte == 32 || (byte == 9 || byte == 13)

-- what parts the items of a list of charges: a space, a tab or a comma
abbrev pub is_gap : ℕ → Bool
is_gap byte = byte == 32 || (byte == 9 || byte == 44)

-- an ASCII letter or an underscore
abbrev pub is_name_byte : ℕ → Bool
is_name_byte byte = (nat_le 65 byte && nat_le byte 90) || ((nat_le 97 byte && nat_le byte 122) || byte == 95)

-- `#`, `;`, `!` or `/`
abbrev pub is_comment_mark : ℕ → Bool
is_comment_mark byte = byte == 35 || (byte == 59 || (byte == 33 || byte == 47))

-- a digit, a point or a plus
abbrev pub is_peak_start : ℕ → Bool
is_peak_start byte = is_ascii_digit byte || (byte == 46 || byte == 43)

-- `=`
abbrev pub is_equals : ℕ → Bool
is_equals byte = byte == 61

-- a list without the bytes at its front that pass
abbrev pub trimmed_front : (ℕ → Bool) → List ℕ → List ℕ
trimmed_front drops [] = []
trimmed_front drops (byte ∷ bytes) = if drops byte then trimmed_front drops bytes else (byte ∷ bytes)

-- a list without the bytes at both ends that pass
abbrev pub trimmed : (ℕ → Bool) → List ℕ → List ℕ
trimmed drops bytes = reverse (trimmed_front drops (reverse (trimmed_front drops bytes)))

-- a byte put before the first part of a list of parts
abbrev pub put_first : ℕ → List (List ℕ) → List (List ℕ)
put_first byte [] = (byte ∷ []) ∷ []
put_first byte (part ∷ parts) = (byte ∷ part) ∷ parts

-- the parts between the bytes that pass
abbrev pub parts_of : (ℕ → Bool) → List ℕ → List (List ℕ)
parts_of parts_at [] = [] ∷ []
parts_of parts_at (byte ∷ bytes) =
    if parts_at byte then [] ∷ parts_of parts_at bytes else put_first byte (parts_of parts_at bytes)

-- the parts that hold something
abbrev pub fields_by : (ℕ → Bool) → List ℕ → List (List ℕ)
fields_by parts_at bytes = filter (λ part. nat_lt 0 (length part)) (parts_of parts_at bytes)

-- the fields of a line, parted by spaces and tabs
abbrev pub fields_of : List ℕ → List (List ℕ)
fields_of line = fields_by is_blank line
