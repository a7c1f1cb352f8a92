-- The lines of a text.
use Rattle.std.specs.Prelude.{◌++◌, ℕ, List, [], ◌∷◌, ◌==◌, if◌then◌else◌, length, nat_lt, drop, nat_eq}
use Rattle.std.specs.List.{starts_with}

-- how many bytes a line may have before its line feed
abbrev pub greatest_line : ℕ
greatest_line = 65536

-- the three bytes that may mark a text's start and belong to no line
abbrev pub byte_order_mark : List ℕ
byte_order_mark = 239 ∷ 187 ∷ 191 ∷ []

-- a text without the mark of its start
abbrev pub without_mark : List ℕ → List ℕ
without_mark text = if starts_with nat_eq text byte_order_mark then drop 3 text else text

-- the lines that a line feed ends
abbrev pub ended_lines : List ℕ → List (List ℕ)
ended_lines [] = []
ended_lines (byte ∷ bytes) = if byte == 10 then [] ∷ ended_lines bytes else put_within byte (ended_lines bytes) where
  put_within : ℕ → List (List ℕ) → List (List ℕ)
  put_within b [] = []
  put_within b (line ∷ lines) = (b ∷ line) ∷ lines

-- what stands after the last line feed
abbrev pub unfinished_line : List ℕ → List ℕ
unfinished_line [] = []
unfinished_line (byte ∷ bytes) =
    if nat_lt 0 (length (ended_lines (byte ∷ bytes))) then unfinished_line bytes else (byte ∷ bytes)

-- a list of one line, or of none where the line is empty
abbrev pub line_if_any : List ℕ → List (List ℕ)
line_if_any [] = []
line_if_any (byte ∷ bytes) = (byte ∷ bytes) ∷ []

-- all lines of a text: what follows the last line feed is one where it is not empty
abbrev pub text_lines : List ℕ → List (List ℕ)
text_lines text = ended_lines (without_mark text) ++ line_if_any (unfinished_line (without_mark text))

-- The lines that are judged while a text may still go on: those that are ended, and an unfinished one once it is too
-- long.
abbrev pub judged_lines : List ℕ → List (List ℕ)
judged_lines text = ended_lines (without_mark text) ++ (
    if nat_lt greatest_line (length (unfinished_line (without_mark text)))
    then unfinished_line (without_mark text) ∷ []
    else []
    )
