-- What holds between the steps of a command on a text.
use Rattle.std.specs.Prelude.{◌≡◌, ◌≢◌, ℕ, List, Option, is_some, take, true, ⊤}
use Rattle.frag_io.specs.declared.desk.Slot.{Slot}
use Rattle.frag_io.specs.declared.desk.Slot.TheVariants.{Profile, CertIn, Report, CertOut}
use Rattle.frag_io.specs.Desk.{appended}
use Rattle.frag_io.specs.DeskState.{DeskState}
use Rattle.run_plan.specs.declared.text_steps.DocumentSlot.{DocumentSlot}
use Rattle.run_plan.specs.Plan.{Step, begin, document_steps, name_in}
use Rattle.run_plan.specs.Class.{Class, memory, open_fault, read_fault, write_fault, too_long}

-- the slots of documents: of one that is read, and of one that is written
abbrev pub IsDocumentSlot : Slot → Type 0
IsDocumentSlot CertIn = ⊤
IsDocumentSlot CertOut = ⊤
IsDocumentSlot slot = ⊥

-- the begin of a document that the code names
abbrev pub begin_of : DocumentSlot → Step
begin_of document = begin document.slot document.name.now

-- the report was begun, and of the slots of documents that of the document, where there is one
pub record HasSlots (document : Option Step) (now : DeskState) : Type 0 where
  pub report : now.begun Report ≡ true
  pub documents : (slot : Slot) → IsDocumentSlot slot
      → now.begun slot ≡ is_some (name_in (document_steps document) slot)

-- the classes that a text which is no profile leads to before anything is written
abbrev pub IsTextStop : Class → Type 0
IsTextStop memory = ⊤
IsTextStop (open_fault slot) = slot ≢ Profile
IsTextStop (read_fault slot) = slot ≢ Profile
IsTextStop (too_long slot) = slot ≢ Profile
IsTextStop class = ⊥

-- the classes that writes and ends of slots lead to
abbrev pub IsWriteStop : Class → Type 0
IsWriteStop memory = ⊤
IsWriteStop (write_fault slot) = ⊤
IsWriteStop class = ⊥

-- some first bytes of a document and of a report were written
pub record ArePartlyWritten (before now : DeskState) (document report : List ℕ) : Type 0 where
  pub of_document : ℕ
  pub of_report : ℕ
  pub document_part : now.written CertOut ≡ appended (before.written CertOut) (take of_document document)
  pub report_part : now.written Report ≡ appended (before.written Report) (take of_report report)
