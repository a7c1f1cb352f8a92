-- What a check finds of the bytes of a document for a text.
use Rattle.std.specs.Prelude.{◌≡◌, ℕ, List, length, Option, Ok, Err}
use Rattle.mgf_reader.specs.Grammar.{Reads}
use Rattle.mgf_reader.specs.Spectrum.{SpectrumValue}
use Rattle.mgf_reader.specs.declared.fault.MgfFault.{MgfFault}
use Rattle.tree_document.specs.Reading.{IsReading}
use Rattle.tree_document.specs.declared.document.Document.{Document}
use Rattle.tree_document.specs.declared.fault.CertFault.{CertFault}
use Rattle.run_plan.specs.declared.reject.RejectPlace.{RejectPlace}
use Rattle.right_document.specs.RightDocument.{DocumentIsRight}
use Rattle.right_document.specs.SolveSettings.{SolveSettingsValue}
use Rattle.check_command.specs.CheckPlaces.{IsDocumentPlace}

-- what a check finds of some bytes: that they are refused as a document, or that the document that they spell differs
-- from the right ones of the text, or that it is right, its number of sections, and how the text was read
pub data CheckOutcome : Type 0 where
  refused : CertFault → CheckOutcome
  rejected : RejectPlace → CheckOutcome
  accepted : ℕ → Option MgfFault → CheckOutcome

-- the bytes spell a document that differs first here from the right ones of the text
pub record IsRejected (settings : SolveSettingsValue) (text bytes : List ℕ) (place : RejectPlace) : Type 0 where
  pub document : Document
  pub read : IsReading bytes (Ok document)
  pub spectra : List SpectrumValue
  pub fault : Option MgfFault
  pub reads : Reads text spectra fault
  pub is_place : IsDocumentPlace settings spectra fault document place.section place.part

-- the bytes spell a document that is right for the text, which is read with this fault
pub record IsAccepted (settings : SolveSettingsValue) (text bytes : List ℕ) (count : ℕ) (fault : Option MgfFault)
    : Type 0 where
  pub document : Document
  pub read : IsReading bytes (Ok document)
  pub right : DocumentIsRight settings text fault document
  pub counted : count ≡ length document.sections

-- What a check finds. The bytes have one reading, and a text has one; what is accepted is nothing else.
abbrev pub IsOutcome : SolveSettingsValue → List ℕ → List ℕ → CheckOutcome → Type 0
IsOutcome settings text bytes (refused fault) = IsReading bytes (Err fault)
IsOutcome settings text bytes (rejected place) = IsRejected settings text bytes place
IsOutcome settings text bytes (accepted count fault) = IsAccepted settings text bytes count fault
