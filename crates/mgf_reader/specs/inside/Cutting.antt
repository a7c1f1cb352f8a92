-- What taking bytes in leaves, whatever text they follow.
use Rattle.std.specs.Prelude.{◌≡◌, ◌++◌, ℕ, List, false, Option, Some, None, Result, Ok, Err}
use Rattle.std.specs.List.{AllByRecursion}
use Rattle.mgf_reader.specs.declared.fault.FeedFault.{FeedFault}
use Rattle.mgf_reader.specs.declared.fault.FeedFault.TheVariants.{Mgf, OutOfMemory}
use Rattle.mgf_reader.specs.Spectrum.{SpectrumValue}
use Rattle.mgf_reader.specs.Grammar.{Reads, SoFar}
use Rattle.mgf_reader.specs.inside.Judging.{Judged}
use Rattle.mgf_reader.specs.Stands.{ReaderValue, Stands, Answers, Broken}

-- the bytes since the last line feed, and what the lines before them left
pub record Kept : Type 0 where
  pub unfinished : List ℕ
  pub lines : Judged

-- a reader that holds this, and failed so
abbrev pub reader_with : Option FeedFault → Kept → ReaderValue
reader_with failed kept = record {
  fed = 0;
  ended = false;
  waiting = kept.lines.waiting;
  failed = failed;
  unfinished = kept.unfinished;
  judged = kept.lines.judged;
  defaults = kept.lines.defaults;
  block = kept.lines.block;
}

-- some bytes are taken in behind any text
abbrev pub TakesIn : Kept → List ℕ → Result (Unit {0}) FeedFault → Kept → Type 0
TakesIn old bytes (Ok done) new =
    (text : List ℕ) (out : List SpectrumValue) → Stands (reader_with None old) text out
    → Stands (reader_with None new) (text ++ bytes) out
TakesIn old bytes (Err (Mgf fault)) new =
    (text : List ℕ) (out : List SpectrumValue) → Stands (reader_with None old) text out
    → Stands (reader_with (Some (Mgf fault)) new) (text ++ bytes) out
TakesIn old bytes (Err OutOfMemory) new =
    (text : List ℕ) (out : List SpectrumValue) → Stands (reader_with None old) text out
    → Broken (SoFar (text ++ bytes)) (out ++ new.lines.waiting)

-- the text is at its end, whatever it was
abbrev pub Ends : Kept → Result (Unit {0}) FeedFault → Kept → Type 0
Ends old (Ok done) new =
    (text : List ℕ) (out : List SpectrumValue) → Stands (reader_with None old) text out
    → Answers (Reads text) (out ++ new.lines.waiting) (Ok done)
Ends old (Err (Mgf fault)) new =
    (text : List ℕ) (out : List SpectrumValue) → Stands (reader_with None old) text out
    → Answers (Reads text) (out ++ new.lines.waiting) (Err (Mgf fault))
Ends old (Err OutOfMemory) new =
    (text : List ℕ) (out : List SpectrumValue) → Stands (reader_with None old) text out
    → Broken (Reads text) (out ++ new.lines.waiting)

-- bytes among which there is no line feed
abbrev pub HasNoLineFeed : List ℕ → Type 0
HasNoLineFeed bytes = AllByRecursion (λ byte. byte ≡ 10 → ⊥) bytes
