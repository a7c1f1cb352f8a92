-- What a run that was ordered to work on a text owes to it.
use Rattle.std.specs.Prelude.{◌≡◌, ◌≤◌, ℕ, List, length, Option, Some, Ok, IfSome, ⊤}
use Rattle.frag_io.specs.declared.desk.Slot.TheVariants.{Spectra}
use Rattle.frag_io.specs.DeskState.{DeskState}
use Rattle.profile.specs.Profile.{ProfileValue}
use Rattle.run_plan.specs.Causes.{IsUnwritten}
use Rattle.run_plan.specs.Class.{Class, class_of, read_fault, write_fault, too_long}
use Rattle.run_plan.specs.Leaves.{Leaves, Meaning}
use Rattle.run_plan.specs.Limits.{greatest_text_of}
use Rattle.run_plan.specs.ProfilePromise.{profile_outcome}
use Rattle.run_plan.specs.declared.status.Status.{Status}

-- All that a text means is formed, from a text that was read whole, before its first byte is written.
abbrev pub IsFormedFirst : Meaning → List ℕ → DeskState → Class → Type 0
IsFormedFirst meaning text now (read_fault slot) = IsUnwritten now
IsFormedFirst meaning text now (too_long slot) = IsUnwritten now
IsFormedFirst meaning text now (write_fault slot) =
    (length text ≤ greatest_text_of Spectra) × meaning.part now.written
IsFormedFirst meaning text now class = ⊤

-- What is owed to a text that the desk tells, by what it means: the answer is right, what is left early is a first part
-- of what is right, and all of it is formed first.
pub record OwesText (meaning : Meaning) (text : List ℕ) (now : DeskState) (status : Status) : Type 0 where
  pub leaves : Leaves meaning now status
  pub formed_first : IsFormedFirst meaning text now (class_of status)

-- Under a profile that is not refused, what is owed to the text that the name gives, by what it means under that
-- profile.
abbrev pub TextPromise : (ProfileValue → List ℕ → Meaning) → Option (List ℕ) → List ℕ → DeskState → DeskState → Status
    → Type 0
TextPromise meaning profile_name name before now status =
    (profile : ProfileValue) → profile_outcome before.gives profile_name ≡ Some (Ok profile)
    → IfSome (before.gives name) (λ text. OwesText (meaning profile text) text now status)
