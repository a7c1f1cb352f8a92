-- The grammar of a text as a relation on its whole list of lines: lines outside and blocks in any order, and then a
-- rest. The format is the Mascot generic format as Matrix Science describes it; the leniencies and the refusals are
-- this project's own.
use Rattle.std.specs.Prelude.{◌≡◌, ◌+◌, ◌≤◌, ◌++◌, ℕ, List, [], ◌∷◌, Bool, true, false, nat_le, if◌then◌else◌, Option}
use Rattle.std.specs.Prelude.{Some, None, is_none, length}
use Rattle.std.specs.Option.{option_to_list}
use Rattle.std.specs.List.{AllByRecursion, flat_map}
use Rattle.mgf_reader.specs.declared.fault.MgfKind.{MgfKind}
use Rattle.mgf_reader.specs.declared.fault.MgfKind.TheVariants.{NestedBegin, StrayEnd, OpenBlock, PeakOutside, BadPeak}
use Rattle.mgf_reader.specs.declared.fault.MgfKind.TheVariants.{NoForm, LineTooLong, TooManyPeaks}
use Rattle.mgf_reader.specs.declared.fault.MgfFault.{MgfFault}
use Rattle.mgf_reader.specs.Spectrum.{PeakValue, SpectrumValue}
use Rattle.mgf_reader.specs.LineForm.{LineForm, too_long, begin, end, parameter, peak, no_form, line_form}
use Rattle.mgf_reader.specs.Parameter.{parameter_fault, title_of, precursor_of, charge_list_of}
use Rattle.mgf_reader.specs.PeakLine.{peak_of}
use Rattle.mgf_reader.specs.Text.{text_lines, judged_lines}

-- how many peaks a block may have
abbrev pub greatest_peaks_of_a_block : ℕ
greatest_peaks_of_a_block = 100000

-- what is wrong with a line outside a block; a begin line is right there
abbrev pub fault_outside : LineForm → Option MgfKind
fault_outside too_long = Some LineTooLong
fault_outside end = Some StrayEnd
fault_outside (parameter name value) = parameter_fault name value
fault_outside (peak fields) = Some PeakOutside
fault_outside no_form = Some NoForm
fault_outside form = None

-- what is wrong with a line in a block that has so many peaks; an end line is right there
abbrev pub fault_inside : ℕ → LineForm → Option MgfKind
fault_inside peaks too_long = Some LineTooLong
fault_inside peaks begin = Some NestedBegin
fault_inside peaks (parameter name value) = parameter_fault name value
fault_inside peaks (peak fields) =
    if is_none (peak_of 0 fields) then Some BadPeak
    else if nat_le greatest_peaks_of_a_block peaks then Some TooManyPeaks
    else None
fault_inside peaks no_form = Some NoForm
fault_inside peaks form = None

-- the peak that a line of this number says, where it is a good peak line
abbrev pub peak_in : ℕ → LineForm → List PeakValue
peak_in number (peak fields) = option_to_list (peak_of number fields)
peak_in number form = []

-- the peaks of a block's lines, of which the first has this number
abbrev pub peaks_of : ℕ → List (List ℕ) → List PeakValue
peaks_of number [] = []
peaks_of number (line ∷ lines) = peak_in number (line_form line) ++ peaks_of (number + 1) lines

-- a line that may stand outside a block and opens none
pub record IsOutside (line : List ℕ) : Type 0 where
  pub right : fault_outside (line_form line) ≡ None
  pub no_begin : line_form line ≡ begin → ⊥

-- a line that may stand in a block and does not close it, whatever the number of peaks
pub record IsInside (line : List ℕ) : Type 0 where
  pub right : fault_inside 0 (line_form line) ≡ None
  pub no_end : line_form line ≡ end → ⊥

-- the lines of a block behind its begin line: each may stand there, and there are not too many peaks
pub record IsBlockBody (body : List (List ℕ)) : Type 0 where
  pub lines : AllByRecursion IsInside body
  pub peaks : length (peaks_of 0 body) ≤ greatest_peaks_of_a_block

-- what a text consists of: a line outside, or a block with its begin line, its body and its end line
pub data Piece : Type 0 where
  outside : List ℕ → Piece
  block : List ℕ → List (List ℕ) → List ℕ → Piece

-- the lines of a piece
abbrev pub piece_lines : Piece → List (List ℕ)
piece_lines (outside line) = line ∷ []
piece_lines (block first body last) = first ∷ (body ++ last ∷ [])

-- a piece that is right
abbrev pub IsPiece : Piece → Type 0
IsPiece (outside line) = IsOutside line
IsPiece (block first body last) = (line_form first ≡ begin) × IsBlockBody body × (line_form last ≡ end)

-- The spectrum of a block, of which the begin line has this number. A key's value is that of the block's own last line
-- of the key, or else of the last line outside before it.
abbrev pub spectrum_of : List (List ℕ) → ℕ → List (List ℕ) → SpectrumValue
spectrum_of before number body = record {
  line = number;
  title = title_of (before ++ body);
  precursor = precursor_of (before ++ body);
  charges = charge_list_of (before ++ body);
  peaks = peaks_of (number + 1) body;
}

-- the spectra of the blocks, in order, with the lines outside so far and the number of the next line
abbrev pub spectra_of : List (List ℕ) → ℕ → List Piece → List SpectrumValue
spectra_of before number [] = []
spectra_of before number (outside line ∷ pieces) = spectra_of (before ++ line ∷ []) (number + 1) pieces
spectra_of before number (block first body last ∷ pieces) =
    spectrum_of before number body ∷ spectra_of before (number + 2 + length body) pieces

-- The rest of a text, of which the first line has this number, and the fault that it leads to: nothing is left; a line
-- has no place outside; a line has no place in a block that was begun; or a block is still open, which is a fault where
-- the text is at its end.
pub data Rest (at_end : Bool) (number : ℕ) (rest : List (List ℕ)) (fault : Option MgfFault) : Type 0 where
  nothing : rest ≡ [] → fault ≡ None → Rest at_end number rest fault
  stray : (line : List ℕ) (more : List (List ℕ)) (kind : MgfKind) → rest ≡ line ∷ more
      → fault_outside (line_form line) ≡ Some kind
      → fault ≡ Some (record { line = number; kind = kind }) → Rest at_end number rest fault
  refused : (first : List ℕ) (body : List (List ℕ)) (line : List ℕ) (more : List (List ℕ)) (kind : MgfKind)
      → rest ≡ first ∷ (body ++ line ∷ more) → line_form first ≡ begin → IsBlockBody body
      → fault_inside (length (peaks_of 0 body)) (line_form line) ≡ Some kind
      → fault ≡ Some (record { line = number + 1 + length body; kind = kind }) → Rest at_end number rest fault
  open_block : (first : List ℕ) (body : List (List ℕ)) → rest ≡ first ∷ body → line_form first ≡ begin
      → IsBlockBody body
      → fault ≡ (if at_end then Some (record { line = number; kind = OpenBlock }) else None)
      → Rest at_end number rest fault

-- how some lines are read: as pieces, which give the spectra, and a rest, which gives the fault
pub record ReadsLines (at_end : Bool) (lines : List (List ℕ)) (spectra : List SpectrumValue) (fault : Option MgfFault)
    : Type 0 where
  pub pieces : List Piece
  pub rest : List (List ℕ)
  pub whole : lines ≡ flat_map piece_lines pieces ++ rest
  pub right : AllByRecursion IsPiece pieces
  pub are_spectra : spectra ≡ spectra_of [] 1 pieces
  pub is_fault : Rest at_end (1 + length (flat_map piece_lines pieces)) rest fault

-- the reading of a text
abbrev pub Reads : List ℕ → List SpectrumValue → Option MgfFault → Type 0
Reads text spectra fault = ReadsLines true (text_lines text) spectra fault

-- the reading of a text that may still go on
abbrev pub SoFar : List ℕ → List SpectrumValue → Option MgfFault → Type 0
SoFar text spectra fault = ReadsLines false (judged_lines text) spectra fault
