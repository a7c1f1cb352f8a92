-- Why a run answers as it does: the cause of each class of statuses.
use Rattle.std.specs.Prelude.{◌≡◌, true, false, ⊤}
use Rattle.frag_io.specs.declared.desk.Slot.{Slot}
use Rattle.frag_io.specs.DeskState.{DeskState}
use Rattle.frag_io.specs.Slot.{IsRead, IsWritten}
use Rattle.frag_io.specs.Desk.{IsCounted, IsEmpty}
use Rattle.run_plan.specs.declared.status.Status.{Status}
use Rattle.run_plan.specs.Class.{Class, class_of, ended, refused, open_fault, read_fault, write_fault, too_long}

-- where the bytes of the written slots are told, there are none
abbrev pub IsUnwritten : DeskState → Type 0
IsUnwritten now = (slot : Slot) → IsWritten slot → IsEmpty (now.written slot)

-- What a class says of the desk, between the state before a run and that after it. A fault is one of the slot that it
-- names, counted in the run, which was begun or not as it says; what is too long or refused is a read slot that was
-- begun; and at the end of all work every written slot that was begun was finished.
abbrev pub CauseOf : DeskState → DeskState → Class → Type 0
CauseOf before now (open_fault slot) = IsCounted slot before now × (now.begun slot ≡ false)
CauseOf before now (read_fault slot) = IsRead slot × IsCounted slot before now × (now.begun slot ≡ true)
CauseOf before now (write_fault slot) = IsWritten slot × IsCounted slot before now × (now.begun slot ≡ true)
CauseOf before now (too_long slot) = IsRead slot × (now.begun slot ≡ true)
CauseOf before now (refused slot) = IsRead slot × (now.begun slot ≡ true)
CauseOf before now ended = (slot : Slot) → IsWritten slot → now.begun slot ≡ true → now.finished slot ≡ true
CauseOf before now class = ⊤

-- A status has the cause of its class.
abbrev pub Causes : DeskState → DeskState → Status → Type 0
Causes before now status = CauseOf before now (class_of status)
