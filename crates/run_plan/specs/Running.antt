-- What holds of a run between its steps, and where a step ends it.
use Rattle.std.specs.Prelude.{◌≡◌, ◌≤◌, ◌⊎◌, ℕ, true, false, List, Result, Ok, Err, IfSome}
use Rattle.frag_io.specs.declared.desk.Slot.{Slot}
use Rattle.frag_io.specs.declared.desk.DeskFault.{DeskFault}
use Rattle.frag_io.specs.declared.desk.DeskFault.TheVariants.{Failed, OutOfMemory}
use Rattle.frag_io.specs.declared.whole.ReadWhole.{ReadWhole}
use Rattle.frag_io.specs.declared.whole.ReadWhole.TheVariants as whole
use Rattle.frag_io.specs.DeskState.{DeskState}
use Rattle.frag_io.specs.Desk.{IsEmpty}
use Rattle.frag_io.specs.Slot.{IsRead, IsWritten}
use Rattle.run_plan.specs.Plan.{HasBegun, Step, is_finished_in, is_read_in, is_written_in, text_in}
use Rattle.run_plan.specs.Causes.{Causes}
use Rattle.run_plan.specs.Limits.{IsLeft}
use Rattle.run_plan.specs.Steps.{Steps}
use Rattle.run_plan.specs.declared.status.Status.{Status}
use Rattle.run_plan.specs.declared.status.Status.TheVariants.{Done, Memory, ReadFault, WriteFault, OpenFault, TooLong}

-- A run has done these steps and no other: it has begun, read and finished exactly the slots that they begin, read and
-- finish, of which each that is read was begun, and has written to none but where they write; each name gives what it
-- gave, and no count fell.
pub record HasDone (done : List Step) (before now : DeskState) : Type 0 where
  pub begun : HasBegun done now
  pub finished : (slot : Slot) → now.finished slot ≡ is_finished_in done slot
  pub opened : (slot : Slot) → is_read_in done slot ≡ true → now.begun slot ≡ true
  pub left : (slot : Slot) → IsRead slot
      → IfSome (text_in done before slot) (λ text. IsLeft (is_read_in done slot) slot text (now.left slot))
  pub unwritten : (slot : Slot) → IsWritten slot → is_written_in done slot ≡ false → IsEmpty (now.written slot)
  pub gives : (name : List ℕ) → now.gives name ≡ before.gives name
  pub counts : (slot : Slot) → before.faults slot ≤ now.faults slot

-- A run over this plan ends so.
pub record Ends (plan : List Step) (before now : DeskState) (status : Status) : Type 0 where
  pub causes : Causes before now status
  pub steps : Steps plan before now status

-- no slot was finished
abbrev pub IsUnfinished : DeskState → Type 0
IsUnfinished now = (slot : Slot) → now.finished slot ≡ false

-- the status that an outcome is told by
abbrev pub status_of : {T : Type 0} → Result T Status → Status
status_of (Ok value) = Done
status_of (Err status) = status

-- the statuses that a failed begin of a slot leads to
abbrev pub IsOpenAnswer : Slot → Status → Type 0
IsOpenAnswer slot status = (status ≡ Memory) ⊎ (status ≡ OpenFault slot)

-- the statuses that reading a slot leads to
abbrev pub IsReadAnswer : Slot → Status → Type 0
IsReadAnswer slot status = (status ≡ Memory) ⊎ (status ≡ ReadFault slot) ⊎ (status ≡ TooLong slot)

-- the statuses that writing or finishing a slot leads to
abbrev pub IsWriteAnswer : Slot → Status → Type 0
IsWriteAnswer slot status = (status ≡ Memory) ⊎ (status ≡ WriteFault slot)

-- what a failed begin of a slot answers
abbrev pub open_status_of : Slot → DeskFault → Status
open_status_of slot Failed = OpenFault slot
open_status_of slot OutOfMemory = Memory

-- what a failed reading of a slot answers
abbrev pub read_status_of : Slot → ReadWhole → Status
read_status_of slot whole.Failed = ReadFault slot
read_status_of slot whole.TooLong = TooLong slot
read_status_of slot whole.OutOfMemory = Memory

-- what a failed write or end of a slot answers
abbrev pub write_status_of : Slot → DeskFault → Status
write_status_of slot Failed = WriteFault slot
write_status_of slot OutOfMemory = Memory
