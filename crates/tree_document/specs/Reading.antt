-- What bytes read as: the document whose spelling they are, else the first refusal. A refusal is a fact about which
-- documents begin with the lines that came so far.
use Rattle.std.specs.Prelude.{◌≡◌, ◌≢◌, ◌+◌, ◌++◌, ◌⊎◌, ℕ, List, [], ◌∷◌, length, Result, Ok, Err}
use Rattle.mgf_reader.specs.Text.{ended_lines, unfinished_line}
use Rattle.tree_document.specs.declared.document.Document.{Document}
use Rattle.tree_document.specs.declared.fault.CertFault.{CertFault}
use Rattle.tree_document.specs.declared.fault.CertFault.TheVariants.{BadLine, TooBig, TooDeep, Truncated}
use Rattle.tree_document.specs.declared.fault.DocumentError.{DocumentError}
use Rattle.tree_document.specs.declared.fault.DocumentError.TheVariants.{OutOfMemory, Refused}
use Rattle.tree_document.specs.Document.{IsGood, IsInRange, lines_of, spelling_of}
use Rattle.tree_document.specs.Line.{Line, Spells}

-- The bytes of a document are at most so many.
abbrev pub greatest_document : ℕ
greatest_document = 268435456

-- texts that are spellings of lines, one each
abbrev pub Spelled : List Line → List (List ℕ) → Type 0
Spelled [] [] = Unit {0}
Spelled (line ∷ lines) (text ∷ texts) = Spells line text × Spelled lines texts
Spelled lines texts = ⊥

-- Some document of a kind begins with lines of which these are spellings.
pub record Begins (Which : Document → Type 0) (texts : List (List ℕ)) : Type 0 where
  pub whole : Document
  pub which : Which whole
  pub front : List Line
  pub rest : List Line
  pub begins : lines_of whole ≡ front ++ rest
  pub spelled : Spelled front texts

-- any document, however great its numbers
abbrev pub IsAny : Document → Type 0
IsAny document = Unit {0}

-- A text among the lines: those before it begin a good document.
pub record Reaches (texts : List (List ℕ)) (line : ℕ) (before : List (List ℕ)) (text : List ℕ) : Type 0 where
  pub after : List (List ℕ)
  pub stands : texts ≡ before ++ text ∷ after
  pub line_is : line ≡ length before + 1
  pub good : Begins IsGood before

-- The line of this number is refused since no document has it there, whatever numbers are put.
pub record IsBadLine (texts : List (List ℕ)) (line : ℕ) : Type 0 where
  pub before : List (List ℕ)
  pub text : List ℕ
  pub reached : Reaches texts line before text
  pub no_document : ¬ Begins IsAny (before ++ text ∷ [])

-- The lines are all of a good document, and bytes that are no whole line stand behind them.
pub record IsPastEnd (texts : List (List ℕ)) (unfinished : List ℕ) (line : ℕ) : Type 0 where
  pub whole : Document
  pub good : IsGood whole
  pub spelled : Spelled (lines_of whole) texts
  pub line_is : line ≡ length texts + 1
  pub more : unfinished ≢ []

-- The line of this number is refused since a document has it there, but none whose numbers are in their ranges.
pub record IsTooBig (texts : List (List ℕ)) (line : ℕ) : Type 0 where
  pub before : List (List ℕ)
  pub text : List ℕ
  pub reached : Reaches texts line before text
  pub some_document : Begins IsAny (before ++ text ∷ [])
  pub no_document_in_range : ¬ Begins IsInRange (before ++ text ∷ [])

-- The line of this number is refused since a document has it there with all numbers in their ranges, but none with so
-- few splits above each line as may stand there.
pub record IsTooDeep (texts : List (List ℕ)) (line : ℕ) : Type 0 where
  pub before : List (List ℕ)
  pub text : List ℕ
  pub reached : Reaches texts line before text
  pub document_in_range : Begins IsInRange (before ++ text ∷ [])
  pub no_good_document : ¬ Begins IsGood (before ++ text ∷ [])

-- All whole lines begin a good document that has a further line.
pub record IsTruncated (texts : List (List ℕ)) : Type 0 where
  pub whole : Document
  pub good : IsGood whole
  pub front : List Line
  pub next : Line
  pub rest : List Line
  pub begins : lines_of whole ≡ front ++ next ∷ rest
  pub spelled : Spelled front texts

-- Bytes with these whole lines and this rest are refused so.
abbrev pub IsRefusal : List (List ℕ) → List ℕ → CertFault → Type 0
IsRefusal texts unfinished (BadLine line) = IsBadLine texts line ⊎ IsPastEnd texts unfinished line
IsRefusal texts unfinished (TooBig line) = IsTooBig texts line
IsRefusal texts unfinished (TooDeep line) = IsTooDeep texts line
IsRefusal texts unfinished Truncated = IsTruncated texts

-- Bytes read as a document, or are refused.
abbrev pub IsReading : List ℕ → Result Document CertFault → Type 0
IsReading bytes (Ok document) = IsGood document × (bytes ≡ spelling_of document)
IsReading bytes (Err fault) = IsRefusal (ended_lines bytes) (unfinished_line bytes) fault

-- What is answered for bytes: their reading, or want of memory.
abbrev pub IsAnswer : List ℕ → Result Document DocumentError → Type 0
IsAnswer bytes (Ok document) = IsReading bytes (Ok document)
IsAnswer bytes (Err (Refused fault)) = IsReading bytes (Err fault)
IsAnswer bytes (Err OutOfMemory) = Unit {0}
