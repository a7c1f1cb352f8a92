-- What a reader holds, and the text that it stands for.
use Rattle.std.specs.Prelude.{◌≡◌, ◌+◌, ◌++◌, ℕ, List, [], ◌∷◌, Bool, false, Option, Some, None, length, Result, Ok}
use Rattle.std.specs.Prelude.{Err}
use Rattle.std.specs.Option.{option_map}
use Rattle.std.specs.List.{AllByRecursion, flat_map}
use Rattle.mgf_reader.specs.declared.fault.FeedFault.{FeedFault}
use Rattle.mgf_reader.specs.declared.fault.FeedFault.TheVariants.{Mgf}
use Rattle.mgf_reader.specs.declared.fault.MgfFault.{MgfFault}
use Rattle.mgf_reader.specs.declared.spectrum.Charge.{Charge}
use Rattle.mgf_reader.specs.Spectrum.{SpectrumValue}
use Rattle.mgf_reader.specs.Text.{judged_lines, unfinished_line}
use Rattle.mgf_reader.specs.Parameter.{title_of, precursor_of, charge_list_of}
use Rattle.mgf_reader.specs.Grammar.{Piece, outside, block, IsPiece, Rest, piece_lines, spectra_of, spectrum_of}

-- what the lines outside so far set for every block that begins
pub record Defaults : Type 0 where
  pub title : List ℕ
  pub precursor : Option ℕ
  pub charges : List Charge

-- what some lines outside set
abbrev pub defaults_of : List (List ℕ) → Defaults
defaults_of lines = record { title = title_of lines; precursor = precursor_of lines; charges = charge_list_of lines }

-- how many bytes a reader may be fed in all: one more than a text may have, so that one too long is seen to be so
abbrev pub greatest_fed : ℕ
greatest_fed = 67108865

-- What a reader holds: how many bytes were fed, whether an end answered Ok, the spectra that wait, why it takes nothing
-- in any more, the bytes since the last line feed, how many lines were judged, the defaults, and the block that is
-- open, as a spectrum so far. The unfinished line is kept as it was fed, a byte order mark at the start included, which
-- is left out when the line is judged: so a reader needs no further sign of the mark.
pub record ReaderValue : Type 0 where
  pub fed : ℕ
  pub ended : Bool
  pub waiting : List SpectrumValue
  pub failed : Option FeedFault
  pub unfinished : List ℕ
  pub judged : ℕ
  pub defaults : Defaults
  pub block : Option SpectrumValue

-- the lines outside among some pieces
abbrev pub outside_lines : List Piece → List (List ℕ)
outside_lines [] = []
outside_lines (outside line ∷ pieces) = line ∷ outside_lines pieces
outside_lines (block first body last ∷ pieces) = outside_lines pieces

-- the open block of a rest that begins with a begin line of this number, behind these lines outside
abbrev pub block_of : List (List ℕ) → ℕ → List (List ℕ) → Option SpectrumValue
block_of before number [] = None
block_of before number (first ∷ body) = Some (spectrum_of before number body)

-- what a text leaves in a reader that has refused nothing
pub record IsLeft (reader : ReaderValue) (text : List ℕ) (pieces : List Piece) (rest : List (List ℕ)) : Type 0 where
  pub unfinished : reader.unfinished ≡ unfinished_line text
  pub judged : reader.judged ≡ length (judged_lines text)
  pub defaults : reader.defaults ≡ defaults_of (outside_lines pieces)
  pub open_block : reader.block ≡ block_of (outside_lines pieces) (1 + length (flat_map piece_lines pieces)) rest

-- A reader stands for a text and the spectra that were handed out: these and the ones that wait are those of the text
-- so far, its fault is that of the text so far, and where there is none it holds what the text leaves.
pub record Stands (reader : ReaderValue) (text : List ℕ) (out : List SpectrumValue) : Type 0 where
  pub pieces : List Piece
  pub rest : List (List ℕ)
  pub fault : Option MgfFault
  pub whole : judged_lines text ≡ flat_map piece_lines pieces ++ rest
  pub right : AllByRecursion IsPiece pieces
  pub spectra : out ++ reader.waiting ≡ spectra_of [] 1 pieces
  pub is_fault : Rest false (1 + length (flat_map piece_lines pieces)) rest fault
  pub failed : reader.failed ≡ option_map Mgf fault
  pub left : fault ≡ None → IsLeft reader text pieces rest

-- what a call answers where the text has this fault
abbrev pub answer_of : Option MgfFault → Result (Unit {0}) FeedFault
answer_of None = Ok tt
answer_of (Some fault) = Err (Mgf fault)

-- spectra that are a first part of some others
abbrev pub IsFirstPart : List SpectrumValue → List SpectrumValue → Type 0
IsFirstPart part whole = (rest : List SpectrumValue) × (whole ≡ part ++ rest)

-- a call answers the fault of a reading, and the spectra handed out and those that wait are that reading's
pub record Answers (reading : List SpectrumValue → Option MgfFault → Type 0) (spectra : List SpectrumValue)
    (result : Result (Unit {0}) FeedFault) : Type 0 where
  pub fault : Option MgfFault
  pub reads : reading spectra fault
  pub answer : result ≡ answer_of fault

-- after want of memory the spectra handed out and those that wait are a first part of a reading's
pub record Broken (reading : List SpectrumValue → Option MgfFault → Type 0) (spectra : List SpectrumValue)
    : Type 0 where
  pub all : List SpectrumValue
  pub fault : Option MgfFault
  pub reads : reading all fault
  pub part : IsFirstPart spectra all
