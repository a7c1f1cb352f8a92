-- What a run owes to the profile text that it was named, before anything else of it.
use Rattle.std.specs.Prelude.{◌≡◌, ◌≢◌, ◌≤◌, ◌⊎◌, ℕ, false, List, length, Option, Some, None, option_map}
use Rattle.std.specs.Prelude.{option_and_then, Result, Ok, Err, IfSome}
use Rattle.frag_io.specs.declared.desk.Slot.{Slot}
use Rattle.frag_io.specs.declared.desk.Slot.TheVariants.{Profile}
use Rattle.frag_io.specs.DeskState.{DeskState}
use Rattle.frag_io.specs.Desk.{IsCounted}
use Rattle.profile.specs.Profile.{ProfileValue, default_profile_value}
use Rattle.profile.specs.ProfileOf.{profile_of}
use Rattle.profile.specs.declared.fault.ProfileFault.{ProfileFault}
use Rattle.run_plan.specs.Class.{class_of, memory, IsOfProfile}
use Rattle.run_plan.specs.Limits.{greatest_text_of}
use Rattle.run_plan.specs.declared.status.Status.{Status}
use Rattle.run_plan.specs.declared.status.Status.TheVariants.{ProfileRefused}

-- The profile of a run, or why its text is refused, where the desk tells it: the default one where no text is named.
abbrev pub profile_outcome : (List ℕ → Option (List ℕ)) → Option (List ℕ) → Option (Result ProfileValue ProfileFault)
profile_outcome gives None = Some (Ok default_profile_value)
profile_outcome gives (Some name) = option_map profile_of (gives name)

-- no slot was begun but that of the profile
abbrev pub OnlyProfile : DeskState → Type 0
OnlyProfile now = (slot : Slot) → slot ≢ Profile → now.begun slot ≡ false

-- The promise on the profile: a refusal is that of its text; where the profile stops the
-- run, or its text is refused, no other slot is begun; a text that is refused stops the run; and one within the limit
-- is told as refused where no fault of it is counted and memory is there.
pub record ProfilePromise (name : Option (List ℕ)) (before now : DeskState) (status : Status) : Type 0 where
  pub refusal : (fault : ProfileFault) → status ≡ ProfileRefused fault
      → IfSome (option_and_then before.gives name) (λ text. profile_of text ≡ Err fault)
  pub alone : IsOfProfile (class_of status) → OnlyProfile now
  pub unused : (fault : ProfileFault) → profile_outcome before.gives name ≡ Some (Err fault) → OnlyProfile now
  pub stops : (fault : ProfileFault) → profile_outcome before.gives name ≡ Some (Err fault)
      → (class_of status ≡ memory) ⊎ IsOfProfile (class_of status)
  pub refuses : (text : List ℕ) (fault : ProfileFault) → option_and_then before.gives name ≡ Some text
      → length text ≤ greatest_text_of Profile → profile_of text ≡ Err fault → (IsCounted Profile before now → ⊥)
      → (class_of status ≡ memory) ⊎ (status ≡ ProfileRefused fault)
