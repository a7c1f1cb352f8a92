-- What a run that was ordered to solve owes to the text that it was named.
use Rattle.std.specs.Prelude.{◌≡◌, ℕ, List, length, Option, Some, None, IfSome}
use Rattle.frag_io.specs.declared.desk.Slot.{Slot}
use Rattle.frag_io.specs.declared.desk.Slot.TheVariants.{Report, CertOut}
use Rattle.frag_io.specs.DeskState.{DeskState}
use Rattle.mgf_reader.specs.declared.fault.MgfFault.{MgfFault}
use Rattle.rank_report.specs.Report.{report_text_of}
use Rattle.tree_document.specs.Document.{IsGood, spelling_of}
use Rattle.tree_document.specs.declared.document.Document.{Document}
use Rattle.run_plan.specs.Leaves.{Meaning}
use Rattle.order_words.specs.Orders.{DocumentNames}
use Rattle.right_document.specs.RightDocument.{DocumentIsRight}
use Rattle.solve_command.specs.RightPart.{PartIsRight}
use Rattle.right_document.specs.SolveSettings.{SolveSettingsValue, solve_settings_of}
use Rattle.run_plan.specs.TextPromise.{TextPromise}
use Rattle.run_plan.specs.declared.status.Status.{Status}
use Rattle.run_plan.specs.declared.status.Status.TheVariants.{Done, MgfRefused}

-- The text is read with this fault, and there is a right document for it, which has a spelling: where they are told,
-- what was written to the document's slot is its spelling, and what was written to the report's slot the report of the
-- same document.
pub record IsSolved (settings : SolveSettingsValue) (text : List ℕ) (fault : Option MgfFault)
    (written : Slot → Option (List ℕ)) : Type 0 where
  pub document : Document
  pub right : DocumentIsRight settings text fault document
  pub good : IsGood document
  pub spelled : IfSome (written CertOut) (λ bytes. bytes ≡ spelling_of document)
  pub reported : IfSome (written Report) (λ bytes. bytes ≡ report_text_of document)

-- which status answers a text, with which document and report
abbrev pub SolveAnswers : SolveSettingsValue → List ℕ → Status → (Slot → Option (List ℕ)) → Type 0
SolveAnswers settings text Done written = IsSolved settings text None written
SolveAnswers settings text (MgfRefused fault) written = IsSolved settings text (Some fault) written
SolveAnswers settings text status written = ⊥

-- what a text means to a solving: its answers, and first parts of its document and of its report
abbrev pub solve_meaning : SolveSettingsValue → List ℕ → Meaning
solve_meaning settings text = record {
  right = SolveAnswers settings text;
  part = λ written. PartIsRight settings text (written CertOut) (written Report);
}

-- The promise of the command.
abbrev pub SolvePromise : DocumentNames → DeskState → DeskState → Status → Type 0
SolvePromise names before now status =
    TextPromise (λ profile text. solve_meaning (solve_settings_of profile names.adduct) text) names.profile
    names.spectra before now status
