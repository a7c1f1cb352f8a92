-- How lines are taken one after another: what is needed is a list, the next need first.
use Rattle.std.specs.Prelude.{◌≡◌, ◌++◌, ℕ, List, [], ◌∷◌, Option, Some, None, if◌then◌else◌}
use Rattle.mgf_reader.specs.Text.{ended_lines, unfinished_line}
use Rattle.tree_document.specs.Document.{AreGoodLines, text_of}
use Rattle.tree_document.specs.Line.{Line, in_range, is_shallow}
use Rattle.line_fields.specs.Need.{Need, follow, line_at}

-- why the lines are not taken to the end: no line may stand there, or a number is past its range, or too many splits
-- stand above it, with the texts from there on; or something is still needed
pub data Stop : Type 0 where
  at_bad : List (List ℕ) → Stop
  at_big : List (List ℕ) → Stop
  at_deep : List (List ℕ) → Stop
  at_end : Stop

-- what is needed behind a line that may stand there
abbrev pub next_needs : Option (List Need) → List Need
next_needs None = []
next_needs (Some needs) = needs

abbrev pub judged : List (List ℕ) → Option Line → (Line → Option Stop) → Option Stop
judged texts None go = Some (at_bad texts)
judged texts (Some line) go =
    if in_range line then (if is_shallow line then go line else Some (at_deep texts)) else Some (at_big texts)

-- where the lines stop that are taken for some needs, if they do
unfoldable pub verdict : List Need → List (List ℕ) → Option Stop
verdict [] [] = None
verdict [] (text ∷ texts) = Some (at_bad (text ∷ texts))
verdict (need ∷ needs) [] = Some at_end
verdict (need ∷ needs) (text ∷ texts) =
    judged (text ∷ texts) (line_at need text) (λ line. verdict (next_needs (follow need line) ++ needs) texts)

-- Bytes begin with the spelling of some good lines, which leave some needs of others, and a rest.
pub record Took (needs left : List Need) (lines : List Line) (bytes rest : List ℕ) : Type 0 where
  pub spelled : bytes ≡ text_of lines ++ rest
  pub good : AreGoodLines lines
  pub unfinished : unfinished_line bytes ≡ unfinished_line rest
  pub same : (others : List Need)
      → verdict (needs ++ others) (ended_lines bytes) ≡ verdict (left ++ others) (ended_lines rest)

-- the same needs cannot be met by these bytes, whatever is needed behind them
abbrev pub Stops : List Need → List ℕ → Stop → Type 0
Stops needs bytes stop = (others : List Need) → verdict (needs ++ others) (ended_lines bytes) ≡ Some stop
