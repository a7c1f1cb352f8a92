-- `list_meaning`: what a list owes to its text by its report.
use Rattle.std.proofs.Common.{◌≡◌, ◌≤◌, ℕ, List, length, take, Option, Some, None, subst}
use Rattle.frag_io.specs.declared.desk.Slot.TheVariants.{Spectra, Report}
use Rattle.frag_io.specs.DeskState.{DeskState}
use Rattle.frag_io.specs.Desk.{IsEmpty, appended}
use Rattle.mgf_reader.specs.declared.fault.MgfFault.{MgfFault}
use Rattle.run_plan.specs.Class.{class_of}
use Rattle.run_plan.specs.Limits.{greatest_text_of}
use Rattle.right_document.specs.RunSettings.{RunSettingsValue}
use Rattle.run_plan.specs.TextPromise.{OwesText}
use Rattle.run_plan.specs.TextSteps.{IsWriteStop}
use Rattle.list_command.specs.ListPromise.{IsListed, list_meaning}
use Rattle.list_command.specs.Sections.{IsReport, IsReportPart}
use Rattle.run_plan.specs.declared.status.Status.{Status}
use Rattle.run_plan.specs.declared.status.Status.TheVariants.{Done, MgfRefused}
use Rattle.list_command.proofs.IsReport.{part_of}
use Rattle.run_plan.proofs.TextPromise.{answered_owes, partly_owes, written_alone}

-- what is owed where the report was not written whole
pub partly_lists : (settings : RunSettingsValue) (text : List ℕ) (now : DeskState) (before : Option (List ℕ)) (found :
    Option MgfFault)
    (bytes : List ℕ) (n : ℕ) (status : Status)
    → IsWriteStop (class_of status)
    → length text ≤ greatest_text_of Spectra
    → IsReport settings text found bytes
    → IsEmpty before
    → now.written Report ≡ appended before (take n bytes)
    → OwesText (list_meaning settings text) text now status
partly_lists settings text now before found bytes n status stop short right empty is =
    partly_owes (list_meaning settings text) text now status stop short
    (written_alone before (now.written Report) (take n bytes) (IsReportPart settings text) empty is
    (part_of settings text found bytes n right))

-- the whole report was written
listed : (settings : RunSettingsValue) (text : List ℕ) (now before : Option (List ℕ)) (found fault : Option MgfFault)
    (bytes : List ℕ)
    → found ≡ fault → IsReport settings text found bytes → IsEmpty before → now ≡ appended before bytes → IsListed
    settings text fault now
listed settings text now before found fault bytes told right empty is =
    let whole : IsReport settings text fault bytes = subst (λ f. IsReport settings text f bytes) told right in
    ((whole.spectra, whole.reads), written_alone before now bytes (IsReport settings text fault) empty is whole)

-- what is owed where the whole report was written
pub done_lists : (settings : RunSettingsValue) (text : List ℕ) (now : DeskState) (before : Option (List ℕ)) (found :
    Option MgfFault)
    (bytes : List ℕ)
    → found ≡ None → IsReport settings text found bytes → IsEmpty before → now.written Report ≡ appended before bytes
    → OwesText (list_meaning settings text) text now Done
done_lists settings text now before found bytes clean right empty is =
    answered_owes (list_meaning settings text) text now Done tt (listed settings text (now.written Report) before
    found None bytes clean
    right empty is)

-- what is owed where the whole report was written of a text that a line refuses
pub refused_lists : (settings : RunSettingsValue) (text : List ℕ) (now : DeskState) (before : Option (List ℕ)) (found
    : Option MgfFault)
    (fault : MgfFault) (bytes : List ℕ)
    → found ≡ Some fault → IsReport settings text found bytes → IsEmpty before → now.written Report ≡ appended before
    bytes
    → OwesText (list_meaning settings text) text now (MgfRefused fault)
refused_lists settings text now before found fault bytes told right empty is =
    answered_owes (list_meaning settings text) text now (MgfRefused fault) tt
    (listed settings text (now.written Report) before found (Some fault) bytes told right empty is)
