-- `OwesText` and `TextPromise`: what is owed to a text at each end of a command on it.
use Rattle.std.proofs.Common.{◌≡◌, ◌≤◌, ◌++◌, ◌⊎◌, inl, inr, ℕ, List, length, Option, Some, None, Result, Ok, IfSome}
use Rattle.std.proofs.Common.{sym, subst, refl}
use Rattle.frag_io.specs.declared.desk.Slot.{Slot}
use Rattle.frag_io.specs.declared.desk.Slot.TheVariants.{Spectra, Profile}
use Rattle.frag_io.specs.DeskState.{DeskState}
use Rattle.frag_io.specs.Desk.{IsEmpty, appended}
use Rattle.profile.specs.Profile.{ProfileValue}
use Rattle.profile.specs.declared.fault.ProfileFault.{ProfileFault}
use Rattle.run_plan.specs.Causes.{IsUnwritten}
use Rattle.run_plan.specs.Class.{Class, class_of, no_order, ended, refused, memory, open_fault, read_fault, write_fault}
use Rattle.run_plan.specs.Class.{too_long, IsAnswer, IsOfProfile}
use Rattle.run_plan.specs.Leaves.{Meaning}
use Rattle.run_plan.specs.Limits.{greatest_text_of}
use Rattle.run_plan.specs.ProfilePromise.{profile_outcome}
use Rattle.run_plan.specs.TextPromise.{IsFormedFirst, OwesText, TextPromise}
use Rattle.run_plan.specs.ProfileTaken.{IsTaken}
use Rattle.run_plan.specs.TextSteps.{IsTextStop, IsWriteStop}
use Rattle.run_plan.specs.declared.status.Status.{Status}
use Rattle.run_plan.specs.declared.status.Status.TheVariants.{Words}
use Rattle.run_plan.proofs.Running.{at_some}

-- what is owed where nothing was written, and neither an answer nor a failed write is told
pub unwritten_owes : (meaning : Meaning) (text : List ℕ) (now : DeskState) (status : Status) → IsUnwritten now
    → (IsAnswer (class_of status) → ⊥) → ((slot : Slot) → class_of status ≡ write_fault slot → ⊥)
    → OwesText meaning text now status
unwritten_owes meaning text now status unwritten other unfailed = record {
  leaves = record { answer = λ is. absurd (other is); early = λ stops. inl unwritten };
  formed_first = formed (class_of status) unfailed;
}
  where
    formed : (class : Class) → ((slot : Slot) → class ≡ write_fault slot → ⊥) → IsFormedFirst meaning text now class
    formed (read_fault slot) none = unwritten
    formed (too_long slot) none = unwritten
    formed (write_fault slot) none = absurd (none slot refl)
    formed class none = tt

-- a class that stops a command before it writes is none of these
pub stop_of_text : (class : Class) → IsTextStop class → (IsAnswer class → ⊥) × ((slot : Slot) → class ≡ write_fault
    slot → ⊥)
    × (IsOfProfile class → ⊥) × (class ≡ no_order → ⊥)
stop_of_text no_order stop = absurd stop
stop_of_text ended stop = absurd stop
stop_of_text (refused slot) stop = absurd stop
stop_of_text (write_fault slot) stop = absurd stop
stop_of_text memory stop = ((λ is. is), (λ slot told. cc), (λ is. is), λ told. cc)
stop_of_text (open_fault slot) stop = ((λ is. is), (λ other told. cc), not_profile slot stop, λ told. cc)
  where
    not_profile : (slot : Slot) → (slot ≡ Profile → ⊥) → IsOfProfile (open_fault slot) → ⊥
    not_profile Profile stop is = stop refl
    not_profile slot stop is = is
stop_of_text (read_fault slot) stop = ((λ is. is), (λ other told. cc), not_profile slot stop, λ told. cc)
  where
    not_profile : (slot : Slot) → (slot ≡ Profile → ⊥) → IsOfProfile (read_fault slot) → ⊥
    not_profile Profile stop is = stop refl
    not_profile slot stop is = is
stop_of_text (too_long slot) stop = ((λ is. is), (λ other told. cc), not_profile slot stop, λ told. cc)
  where
    not_profile : (slot : Slot) → (slot ≡ Profile → ⊥) → IsOfProfile (too_long slot) → ⊥
    not_profile Profile stop is = stop refl
    not_profile slot stop is = is

-- a class that its profile leads to is no failed write
pub profile_writes_nothing : (class : Class) → (class ≡ memory) ⊎ IsOfProfile class → (slot : Slot) → class ≡
    write_fault slot → ⊥
profile_writes_nothing class (inl no_memory) slot told = clash (sym no_memory) told
  where
    clash : memory ≡ class → class ≡ write_fault slot → ⊥
    clash one other = cc
profile_writes_nothing class (inr of) slot told = subst IsOfProfile told of

-- what was written to an empty slot is all that is there
pub written_alone : (before now : Option (List ℕ)) (bytes : List ℕ) (P : List ℕ → Type 0) → IsEmpty before → now ≡
    appended before bytes
    → P bytes → IfSome now P
written_alone None now bytes P empty is holds = subst (λ o. IfSome o P) (sym is) tt
written_alone (Some old) now bytes P empty is holds =
    subst (λ o. IfSome o P) (sym is) (subst (λ (b : List ℕ). P (b ++ bytes)) (sym empty) holds)

-- what is owed where the writes stopped early
pub partly_owes : (meaning : Meaning) (text : List ℕ) (now : DeskState) (status : Status) → IsWriteStop (class_of
    status)
    → length text ≤ greatest_text_of Spectra → meaning.part now.written → OwesText meaning text now status
partly_owes meaning text now status stop short part = record {
  leaves = record { answer = λ is. absurd (no_answer (class_of status) stop is); early = λ stops. inr part };
  formed_first = formed (class_of status) stop;
}
  where
    no_answer : (class : Class) → IsWriteStop class → IsAnswer class → ⊥
    no_answer ended stop is = stop
    no_answer (refused slot) stop is = stop
    no_answer class stop is = is

    formed : (class : Class) → IsWriteStop class → IsFormedFirst meaning text now class
    formed (read_fault slot) stop = absurd stop
    formed (too_long slot) stop = absurd stop
    formed (write_fault slot) stop = (short, part)
    formed class stop = tt

-- what is owed where the text is answered
pub answered_owes : (meaning : Meaning) (text : List ℕ) (now : DeskState) (status : Status) → IsAnswer (class_of status)
    → meaning.right status now.written → OwesText meaning text now status
answered_owes meaning text now status is right = record {
  leaves = record { answer = λ told. right; early = λ other. absurd (other is) };
  formed_first = formed (class_of status) is;
}
  where
    formed : (class : Class) → IsAnswer class → IsFormedFirst meaning text now class
    formed ended is = tt
    formed (refused slot) is = tt
    formed class is = absurd is

-- the promise of a command that its profile stopped
pub stopped_text : (meaning : ProfileValue → List ℕ → Meaning) (profile_name : Option (List ℕ)) (name : List ℕ)
    (before now : DeskState)
    (status : Status) → IsUnwritten now
    → (class_of status ≡ memory) ⊎ IsOfProfile (class_of status)
    → ((profile : ProfileValue) → profile_outcome before.gives profile_name ≡ Some (Ok profile) → IsAnswer (class_of
    status) → ⊥)
    → TextPromise meaning profile_name name before now status
stopped_text meaning profile_name name before now status unwritten own accepted = λ profile is.
    at_some (before.gives name) (λ text. OwesText (meaning profile text) text now status) (λ text told.
    unwritten_owes (meaning profile text) text now status unwritten (accepted profile is) (profile_writes_nothing
    (class_of status) own))

-- what holds of a profile that was taken holds of the one that is told
pub taken_for : (P : ProfileValue → Type 0) (gives : List ℕ → Option (List ℕ)) (profile_name : Option (List ℕ))
    (profile : ProfileValue)
    → IsTaken gives profile_name profile → P profile
    → (told : ProfileValue) → profile_outcome gives profile_name ≡ Some (Ok told) → P told
taken_for P gives profile_name profile taken holds told is = subst P (same_profile profile told (taken (Ok told) is))
    holds
  where
    the_outcome : ProfileValue → Result ProfileValue ProfileFault
    the_outcome profile = Ok profile

    same_profile : (one other : ProfileValue) → the_outcome other ≡ Ok one → one ≡ other
    same_profile one other same = cc

-- the promise of a command behind a profile that was taken
pub taken_text : (meaning : ProfileValue → List ℕ → Meaning) (profile_name : Option (List ℕ)) (name : List ℕ) (before
    mid now : DeskState)
    (profile : ProfileValue) (status : Status)
    → IsTaken before.gives profile_name profile
    → mid.gives name ≡ before.gives name
    → IfSome (mid.gives name) (λ text. OwesText (meaning profile text) text now status)
    → TextPromise meaning profile_name name before now status
taken_text meaning profile_name name before mid now profile status taken same owes =
    taken_for (λ told. IfSome (before.gives name) (λ text. OwesText (meaning told text) text now status)) before.gives
    profile_name profile
    taken (subst (λ o. IfSome o (λ text. OwesText (meaning profile text) text now status)) same owes)

-- a class that its profile leads to is none of words
pub profile_is_ordered : (status : Status) → (class_of status ≡ memory) ⊎ IsOfProfile (class_of status) → status ≡
    Words → ⊥
profile_is_ordered status own told = by_class (subst (λ s. (class_of s ≡ memory) ⊎ IsOfProfile (class_of s)) told own)
  where
    by_class : (no_order ≡ memory) ⊎ IsOfProfile no_order → ⊥
    by_class (inl is) = cc
    by_class (inr of) = of
