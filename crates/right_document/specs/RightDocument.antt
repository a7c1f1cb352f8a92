-- Which document is right for a text.
use Rattle.std.specs.Prelude.{◌≡◌, ◌++◌, ℕ, List, Option}
use Rattle.mgf_reader.specs.Grammar.{Reads}
use Rattle.mgf_reader.specs.Spectrum.{SpectrumValue}
use Rattle.mgf_reader.specs.declared.fault.MgfFault.{MgfFault}
use Rattle.tree_document.specs.declared.document.Document.{Document}
use Rattle.right_document.specs.Ending.{ending_of}
use Rattle.right_document.specs.OneEach.{OneEach}
use Rattle.right_document.specs.RightSection.{SectionIsRight}
use Rattle.right_document.specs.SolveSettings.{SolveSettingsValue}

-- The document is right for a text that is read with this fault: a right section for each of its spectra, in order, and
-- the ending.
pub record DocumentIsRight (settings : SolveSettingsValue) (text : List ℕ) (fault : Option MgfFault)
    (document : Document) : Type 0 where
  pub spectra : List SpectrumValue
  pub reads : Reads text spectra fault
  pub sections : OneEach (SectionIsRight settings) spectra document.sections
  pub ending : document.ending ≡ ending_of fault

-- some bytes are the first of others
abbrev pub IsPrefix : List ℕ → List ℕ → Type 0
IsPrefix bytes whole = (rest : List ℕ) × (whole ≡ bytes ++ rest)
