-- What one line changes in what the lines before it left.
use Rattle.std.specs.Prelude.{◌≡◌, ◌+◌, ◌++◌, ℕ, List, [], ◌∷◌, ◌==◌, if◌then◌else◌, Option, Some, None, unwrap_or}
use Rattle.std.specs.Prelude.{length, Result, Ok, Err}
use Rattle.mgf_reader.specs.declared.spectrum.Charge.{Charge}
use Rattle.mgf_reader.specs.declared.fault.MgfKind.{MgfKind}
use Rattle.mgf_reader.specs.declared.fault.MgfKind.TheVariants.{OpenBlock}
use Rattle.mgf_reader.specs.declared.fault.FeedFault.{FeedFault}
use Rattle.mgf_reader.specs.declared.block.LineFault.{LineFault}
use Rattle.mgf_reader.specs.declared.block.LineFault.TheVariants as Fault
use Rattle.mgf_reader.specs.declared.fault.FeedFault.TheVariants.{Mgf, OutOfMemory}
use Rattle.mgf_reader.specs.Spectrum.{PeakValue, SpectrumValue}
use Rattle.mgf_reader.specs.Text.{without_mark}
use Rattle.mgf_reader.specs.LineForm.{LineForm, begin, end}
use Rattle.mgf_reader.specs.Parameter.{title, precursor, charge, value_in, precursor_units, charges_of}
use Rattle.mgf_reader.specs.Grammar.{fault_outside, fault_inside, peak_in}
use Rattle.mgf_reader.specs.Stands.{Defaults}

-- what a line sets, or else what was set
abbrev pub title_after : List ℕ → Option (List ℕ) → List ℕ
title_after old None = old
title_after old (Some value) = value

-- likewise of the precursor
abbrev pub precursor_after : Option ℕ → Option (List ℕ) → Option ℕ
precursor_after old None = old
precursor_after old (Some value) = precursor_units value

-- likewise of the charges
abbrev pub charges_after : List Charge → Option (List ℕ) → List Charge
charges_after old None = old
charges_after old (Some value) = unwrap_or (charges_of value) []

-- what is set behind a line of this form
abbrev pub set_by : Defaults → LineForm → Defaults
set_by old form = record {
  title = title_after old.title (value_in title form);
  precursor = precursor_after old.precursor (value_in precursor form);
  charges = charges_after old.charges (value_in charge form);
}

-- what is set for a block
abbrev pub settings_of_block : SpectrumValue → Defaults
settings_of_block block = record { title = block.title; precursor = block.precursor; charges = block.charges }

-- a block with these settings and peaks, begun at this line
abbrev pub block_with : ℕ → Defaults → List PeakValue → SpectrumValue
block_with number settings peaks = record {
  line = number;
  title = settings.title;
  precursor = settings.precursor;
  charges = settings.charges;
  peaks = peaks;
}

-- an open block behind a line of this number and form
abbrev pub block_after : SpectrumValue → ℕ → LineForm → SpectrumValue
block_after block number form =
    block_with block.line (set_by (settings_of_block block) form) (block.peaks ++ peak_in number form)

-- what some lines leave: how many they were, the defaults, the open block, and the spectra that wait
pub record Judged : Type 0 where
  pub waiting : List SpectrumValue
  pub judged : ℕ
  pub defaults : Defaults
  pub block : Option SpectrumValue

-- what no line leaves
abbrev pub nothing_judged : Judged
nothing_judged = record {
  waiting = [];
  judged = 0;
  defaults = record { title = []; precursor = None; charges = [] };
  block = None;
}

-- what is wrong with a line of this form behind them
abbrev pub fault_behind : Judged → LineForm → Option MgfKind
fault_behind old form = by_block old.block where
  by_block : Option SpectrumValue → Option MgfKind
  by_block None = fault_outside form
  by_block (Some block) = fault_inside (length block.peaks) form

-- what a line of this form leaves that is right outside a block, and is counted among them
abbrev pub left_outside : Judged → LineForm → Judged
left_outside old begin = record old { block = Some (block_with old.judged old.defaults []) }
left_outside old form = record old { defaults = set_by old.defaults form }

-- what a line of this form leaves that is right in an open block
abbrev pub left_inside : Judged → SpectrumValue → LineForm → Judged
left_inside old block end = record old { block = None; waiting = old.waiting ++ block ∷ [] }
left_inside old block form = record old { block = Some (block_after block old.judged form) }

-- what a line of this form leaves that is right behind them, whether a block is open or not
abbrev pub left_behind : Judged → LineForm → Judged
left_behind old form = by_block old.block where
  by_block : Option SpectrumValue → Judged
  by_block None = left_outside old form
  by_block (Some block) = left_inside old block form

-- one line more is counted
abbrev pub counted : Judged → Judged
counted old = record old { judged = old.judged + 1 }

-- the kind of a line that is not taken in; want of memory is none
abbrev pub kind_in : LineFault → Option MgfKind
kind_in (Fault.Refused kind) = Some kind
kind_in Fault.OutOfMemory = None

-- how the next line of this form is judged
abbrev pub Judges : Judged → LineForm → Result (Unit {0}) FeedFault → Judged → Type 0
Judges old form (Ok done) new = (fault_behind old form ≡ None) × (new ≡ left_behind (counted old) form)
Judges old form (Err (Mgf fault)) new =
    (fault_behind old form ≡ Some fault.kind) × (fault.line ≡ old.judged + 1) × (new.waiting ≡ old.waiting)
Judges old form (Err OutOfMemory) new = new.waiting ≡ old.waiting

-- what the end of the text answers
abbrev pub end_of : Option SpectrumValue → Result (Unit {0}) FeedFault
end_of None = Ok tt
end_of (Some block) = Err (Mgf (record { line = block.line; kind = OpenBlock }))

-- a line as the reader gathered it, without the mark of the text's start where it is the first
abbrev pub line_at : ℕ → List ℕ → List ℕ
line_at judged bytes = if judged == 0 then without_mark bytes else bytes
