-- What the reading of one line tells of it.
use Rattle.std.specs.Prelude.{◌≡◌, ℕ, IsTrue, List, Some}
use Rattle.tree_document.specs.Line.{Line, Spells, in_range, line_text}
use Rattle.line_fields.specs.Need.{Need, follow, line_at}

-- a line is what is read of another one that the text spells: the same in its ranges, and in no range where that is in
-- none
pub record ReadAs (need : Need) (text : List ℕ) (line : Line) : Type 0 where
  pub whole : Line
  pub allowed : (more : List Need) × (follow need whole ≡ Some more)
  pub spelled : Spells whole text
  pub range : in_range line ≡ in_range whole
  pub same : IsTrue (in_range line) → line ≡ whole
  pub text_is : IsTrue (in_range line) → text ≡ line_text line

-- what may stand there is read
pub record IsRead (need : Need) (text : List ℕ) (whole : Line) : Type 0 where
  pub line : Line
  pub read : line_at need text ≡ Some line
  pub range : in_range line ≡ in_range whole
  pub same : IsTrue (in_range line) → line ≡ whole
