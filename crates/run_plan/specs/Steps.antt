-- What any command owes to its plan: how far it came, what it did, and when it answers.
use Rattle.std.specs.Prelude.{◌≡◌, ◌++◌, ◌⊎◌, false, true, List, IfSome}
use Rattle.frag_io.specs.declared.desk.Slot.{Slot}
use Rattle.frag_io.specs.DeskState.{DeskState}
use Rattle.frag_io.specs.Desk.{IsCounted, IsEmpty}
use Rattle.frag_io.specs.Slot.{IsRead, IsWritten}
use Rattle.run_plan.specs.Class.{class_of, IsAnswer, StopsAt, memory}
use Rattle.run_plan.specs.Limits.{AreWithinLimits, FitsLimit, IsLeft}
use Rattle.run_plan.specs.Plan.{HasBegun, Step, is_finished_in, is_next, is_read_in, is_read_of, is_write_to}
use Rattle.run_plan.specs.Plan.{is_written_in, text_in}
use Rattle.run_plan.specs.declared.status.Status.{Status}

-- The first steps of the plan were done, the next one was not, and no later one was begun. Exactly the slots were begun
-- that these steps begin, each under its name, and exactly those finished that they finish. A text that they read was
-- read
-- whole, within its limit; one that the next step reads was read up to its limit at most; of any other nothing was
-- read.
-- Nothing was written to a slot but where they write to it, or the next step does. Where the run stops, its status
-- says.
-- The texts are answered where each is within its limit, no fault was counted, and memory is there.
pub record Steps (plan : List Step) (before now : DeskState) (status : Status) : Type 0 where
  pub done : List Step
  pub rest : List Step
  pub parts : plan ≡ done ++ rest
  pub stop : StopsAt (class_of status) done rest
  pub begun : HasBegun done now
  pub finished : (slot : Slot) → now.finished slot ≡ is_finished_in done slot
  pub left : (slot : Slot) → IsRead slot → is_next (is_read_of slot) rest ≡ false
      → IfSome (text_in done before slot) (λ text. IsLeft (is_read_in done slot) slot text (now.left slot))
  pub reached : (slot : Slot) → IsRead slot → is_next (is_read_of slot) rest ≡ true
      → IfSome (text_in done before slot) (λ text. FitsLimit slot text (now.left slot) (class_of status))
  pub unwritten : (slot : Slot) → IsWritten slot → is_written_in done slot ≡ false
      → is_next (is_write_to slot) rest ≡ false → IsEmpty (now.written slot)
  pub answers : AreWithinLimits plan before → ((slot : Slot) → IsCounted slot before now → ⊥)
      → IsAnswer (class_of status) ⊎ (class_of status ≡ memory)
