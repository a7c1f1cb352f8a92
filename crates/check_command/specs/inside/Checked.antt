-- What a check that was made stands for.
use Rattle.std.specs.Prelude.{◌≡◌, ℕ, List, Option, length}
use Rattle.mgf_reader.specs.Grammar.{Reads}
use Rattle.mgf_reader.specs.Spectrum.{SpectrumValue}
use Rattle.mgf_reader.specs.declared.fault.MgfFault.{MgfFault}
use Rattle.tree_document.specs.declared.document.Document.{Document}
use Rattle.right_document.specs.RightDocument.{DocumentIsRight}
use Rattle.right_document.specs.SolveSettings.{SolveSettingsValue}
use Rattle.check_command.specs.CheckPlaces.{IsDocumentPlace}
use Rattle.check_command.specs.CheckOutcome.{CheckOutcome, accepted, refused, rejected}
use Rattle.check_command.specs.declared.document.Checked.{Checked}
use Rattle.check_command.specs.declared.document.Checked.TheVariants.{Refused, Rejected, Accepted}

abbrev pub check_outcome : Checked → CheckOutcome
check_outcome (Refused fault) = refused fault
check_outcome (Rejected place) = rejected place
check_outcome (Accepted count fault) = accepted count fault

-- what is answered of a document that was read
abbrev pub IsComparison : SolveSettingsValue → List ℕ → Document → Checked → Type 0
IsComparison settings text document (Refused fault) = ⊥
IsComparison settings text document (Rejected place) =
    (spectra : List SpectrumValue) × (fault : Option MgfFault) × Reads text spectra fault
    × IsDocumentPlace settings spectra fault document place.section place.part
IsComparison settings text document (Accepted count fault) =
    DocumentIsRight settings text fault document × (count ≡ length document.sections)
