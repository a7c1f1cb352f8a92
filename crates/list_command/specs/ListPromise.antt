-- What a run that was ordered to list owes to the text that it was named.
use Rattle.std.specs.Prelude.{ℕ, List, Option, Some, None, IfSome}
use Rattle.frag_io.specs.declared.desk.Slot.{Slot}
use Rattle.frag_io.specs.declared.desk.Slot.TheVariants.{Report}
use Rattle.frag_io.specs.DeskState.{DeskState}
use Rattle.mgf_reader.specs.declared.fault.MgfFault.{MgfFault}
use Rattle.mgf_reader.specs.Spectrum.{SpectrumValue}
use Rattle.mgf_reader.specs.Grammar.{Reads}
use Rattle.run_plan.specs.Leaves.{Meaning}
use Rattle.order_words.specs.Orders.{ListNames}
use Rattle.right_document.specs.RunSettings.{RunSettingsValue, run_settings_of}
use Rattle.run_plan.specs.TextPromise.{TextPromise}
use Rattle.list_command.specs.Sections.{IsReport, IsReportPart}
use Rattle.run_plan.specs.declared.status.Status.{Status}
use Rattle.run_plan.specs.declared.status.Status.TheVariants.{Done, MgfRefused}

-- the text is read with this fault, and the report tells so
abbrev pub IsListed : RunSettingsValue → List ℕ → Option MgfFault → Option (List ℕ) → Type 0
IsListed settings text fault report =
    ((spectra : List SpectrumValue) × Reads text spectra fault) × IfSome report (IsReport settings text fault)

-- which status answers a text, with which report
abbrev pub ListAnswers : RunSettingsValue → List ℕ → Status → (Slot → Option (List ℕ)) → Type 0
ListAnswers settings text Done written = IsListed settings text None (written Report)
ListAnswers settings text (MgfRefused fault) written = IsListed settings text (Some fault) (written Report)
ListAnswers settings text status written = ⊥

-- what a text means to a list: its answers, and a first part of its report
abbrev pub list_meaning : RunSettingsValue → List ℕ → Meaning
list_meaning settings text = record {
  right = ListAnswers settings text;
  part = λ written. IfSome (written Report) (IsReportPart settings text);
}

-- The promise of the command.
abbrev pub ListPromise : ListNames → DeskState → DeskState → Status → Type 0
ListPromise names before now status =
    TextPromise (λ profile text. list_meaning (run_settings_of profile names.adduct) text) names.profile names.spectra
    before now status
