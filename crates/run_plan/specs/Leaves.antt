-- What a run leaves in its written slots, by what its texts mean.
use Rattle.std.specs.Prelude.{◌⊎◌, ℕ, List, Option}
use Rattle.frag_io.specs.declared.desk.Slot.{Slot}
use Rattle.frag_io.specs.DeskState.{DeskState}
use Rattle.run_plan.specs.declared.status.Status.{Status}
use Rattle.run_plan.specs.Class.{class_of, IsAnswer}
use Rattle.run_plan.specs.Causes.{IsUnwritten}

-- What a command's texts mean: which statuses answer them, with which bytes in the written slots; and which bytes are
-- first parts of those, so that they may stand where a run stops early.
pub record Meaning : Type 1 where
  pub right : Status → (Slot → Option (List ℕ)) → Type 0
  pub part : (Slot → Option (List ℕ)) → Type 0

-- An answer is right, and a run that stops without one leaves nothing or a first part of what is right.
pub record Leaves (meaning : Meaning) (now : DeskState) (status : Status) : Type 0 where
  pub answer : IsAnswer (class_of status) → meaning.right status now.written
  pub early : (IsAnswer (class_of status) → ⊥) → IsUnwritten now ⊎ meaning.part now.written
