-- `ProfilePromise`: what is owed to a profile where it stopped a run, and where it was taken.
use Rattle.std.proofs.Common.{◌≡◌, ◌≤◌, ◌<◌, ◌++◌, ◌⊎◌, inl, inr, ℕ, List, [], length, Option, Some, None, Result, Ok}
use Rattle.std.proofs.Common.{Err, IfSome, sym, ◌∙◌, ap, subst, refl, arith, length-append}
use Rattle.std.specs.Prelude.{option_and_then, option_map}
use Rattle.std.proofs.lemmas.Option.{IfSome_then, MatchOption-at_some}
use Rattle.frag_io.specs.declared.desk.Slot.{Slot}
use Rattle.frag_io.specs.declared.desk.Slot.TheVariants.{Profile}
use Rattle.frag_io.specs.DeskState.{DeskState}
use Rattle.frag_io.specs.Desk.{IsCounted}
use Rattle.profile.specs.Profile.{ProfileValue}
use Rattle.profile.specs.ProfileOf.{profile_of}
use Rattle.profile.specs.declared.fault.ProfileFault.{ProfileFault}
use Rattle.profile.specs.declared.fault.ProfileError.{ProfileError}
use Rattle.profile.specs.declared.fault.ProfileError.TheVariants as P
use Rattle.run_plan.specs.Plan.{Step, is_next, is_read_of, name_in, profile_steps, read}
use Rattle.run_plan.specs.Causes.{CauseOf}
use Rattle.run_plan.specs.Class.{Class, class_of, ended, refused, memory, open_fault, read_fault, too_long, IsAnswer}
use Rattle.run_plan.specs.Class.{IsNext, IsOfProfile, StopsAt}
use Rattle.run_plan.specs.Limits.{FitsLimit, greatest_text_of}
use Rattle.run_plan.specs.ProfilePromise.{OnlyProfile, ProfilePromise, profile_outcome}
use Rattle.run_plan.specs.ProfileTaken.{IsTaken, status_of_error}
use Rattle.run_plan.specs.Running.{Ends, IsOpenAnswer, IsReadAnswer}
use Rattle.run_plan.specs.declared.status.Status.{Status}
use Rattle.run_plan.specs.declared.status.Status.TheVariants.{Memory, OpenFault, ProfileRefused, ReadFault, TooLong}
use Rattle.run_plan.proofs.Plan.{is_same_slot-own, name_in-earlier, some_in}

-- a status that says that a profile is refused names the fault
pub refused_profile : (status : Status) → class_of status ≡ refused Profile → (fault : ProfileFault) × (status ≡
    ProfileRefused fault)
refused_profile (ProfileRefused fault) is = (fault, refl)
refused_profile status is = cc

-- what a plan has under a name is longer than its limit where it is called too long
pub long_text : (plan : List Step) (before now : DeskState) (status : Status) (slot : Slot) (name text : List ℕ) →
    Ends plan before now status
    → class_of status ≡ too_long slot → name_in plan slot ≡ Some name → before.gives name ≡ Some text →
    greatest_text_of slot < length text
long_text plan before now status slot name text ends long named told =
    let steps = ends.steps in
    let cause : CauseOf before now (too_long slot) = subst (CauseOf before now) long ends.causes in
    let stop : IsNext (read slot) steps.rest = subst (λ class. StopsAt class steps.done steps.rest) long steps.stop in
    let found = some_in (name_in steps.done slot) (sym (steps.begun.slots slot) ∙ cause.1) in
    let whole : name_in plan slot ≡ Some found.0 =
    ap (λ (all : List Step). name_in all slot) steps.parts ∙ name_in-earlier steps.done steps.rest slot found.0
    found.1 in
    let same : found.0 ≡ name = one_name (sym whole ∙ named) in
    let fit = MatchOption-at_some _ (λ text. FitsLimit slot text (now.left slot) (class_of status)) text
    (ap (option_and_then before.gives) (found.1 ∙ ap Some same) ∙ told)
    (steps.reached slot cause.0 (ap (is_next (is_read_of slot)) stop.1 ∙ is_same_slot-own slot)) in
    longer text fit.0 fit.1 (greatest_text_of slot) fit.3 (fit.4.0 long)
  where
    one_name : {one other : List ℕ} → Some one ≡ Some other → one ≡ other
    one_name same = cc

    longer : (text read left : List ℕ) (limit : ℕ) → text ≡ read ++ left → limit < length read → limit < length text
    longer text front left limit parts more = omega (arith, ap length parts ∙ length-append front left, more)

same_fault : (outcome : Result ProfileValue ProfileFault) (one other : ProfileFault) → outcome ≡ Err one → outcome ≡
    Err other → one ≡ other
same_fault outcome one other is also = cc

pub not_both : (profile : ProfileValue) (fault : ProfileFault) (outcome : Result ProfileValue ProfileFault) → outcome
    ≡ Ok profile → outcome ≡ Err fault → ⊥
not_both profile fault outcome one other = cc

-- a refused text of a profile that is named
pub named_outcome : (gives : List ℕ → Option (List ℕ)) (name : Option (List ℕ)) (text : List ℕ) (fault : ProfileFault)
    → option_and_then gives name ≡ Some text → profile_of text ≡ Err fault → profile_outcome gives name ≡ Some (Err
    fault)
named_outcome gives None text fault told barred = cc
named_outcome gives (Some name) text fault told barred = ap (option_map profile_of) told ∙ ap Some barred

-- the promise where the profile that is named stopped the run
pub stopped_promise : (name : List ℕ) (rest : List Step) (before now : DeskState) (status : Status)
    → Ends (profile_steps (Some name) ++ rest) before now status
    → OnlyProfile now
    → (class_of status ≡ memory) ⊎ IsOfProfile (class_of status)
    → ((fault : ProfileFault) → status ≡ ProfileRefused fault → IfSome (before.gives name) (λ text. profile_of text ≡
    Err fault))
    → ProfilePromise (Some name) before now status
stopped_promise name rest before now status ends only own refusal = record {
  refusal = refusal;
  alone = λ is. only;
  unused = λ fault is. only;
  stops = λ fault is. own;
  refuses = λ text fault told short is none. elim own [
    | inl no_memory ↦ inl no_memory
    | inr of ↦ told_as text fault told short is none (class_of status) refl of
  ];
}
  where
    told_as : (text : List ℕ) (fault : ProfileFault) → before.gives name ≡ Some text → length text ≤ greatest_text_of
        Profile → profile_of text ≡ Err fault
        → (IsCounted Profile before now → ⊥) → (class : Class) → class_of status ≡ class → IsOfProfile class →
        (class_of status ≡ memory) ⊎ (status ≡ ProfileRefused fault)
    told_as text fault told short is none (refused Profile) class of =
        let known = refused_profile status class in
        inr (known.1 ∙ ap ProfileRefused (same_fault (profile_of text) known.0 fault
        (MatchOption-at_some _ (λ text. profile_of text ≡ Err known.0) text told (refusal known.0 known.1)) is))
    told_as text fault told short is none (open_fault Profile) class of =
        let cause : CauseOf before now (open_fault Profile) = subst (CauseOf before now) class ends.causes in absurd
        (none cause.0)
    told_as text fault told short is none (read_fault Profile) class of =
        let cause : CauseOf before now (read_fault Profile) = subst (CauseOf before now) class ends.causes in absurd
        (none cause.1)
    told_as text fault told short is none (too_long Profile) class of =
        absurd (not_both_ways _ _ short (long_text (profile_steps (Some name) ++ rest) before now status Profile name
        text ends class refl told))
      where
        not_both_ways : (many limit : ℕ) → many ≤ limit → limit < many → ⊥
        not_both_ways many limit few more = omega arith
    told_as text fault told short is none class same of = absurd of

-- the promise on a profile that was taken, where the rest of the run does not stop for it
pub taken_promise : (name : Option (List ℕ)) (before now : DeskState) (profile : ProfileValue) (status : Status)
    → IsTaken before.gives name profile
    → (IsOfProfile (class_of status) → ⊥)
    → ProfilePromise name before now status
taken_promise name before now profile status taken other = record {
  refusal = λ fault told. absurd (other (subst (λ s. IsOfProfile (class_of s)) (sym told) tt));
  alone = λ own. absurd (other own);
  unused = λ fault outcome. absurd (not_both profile fault (Err fault) (taken (Err fault) outcome) refl);
  stops = λ fault outcome. absurd (not_both profile fault (Err fault) (taken (Err fault) outcome) refl);
  refuses = λ text fault told short barred none.
      absurd (not_both profile fault (Err fault) (taken (Err fault) (named_outcome before.gives name text fault told
      barred)) refl);
}

-- the statuses of a begin and of a read of the profile are its own, and no refusal
pub own_open : (status : Status) → IsOpenAnswer Profile status
    → ((class_of status ≡ memory) ⊎ IsOfProfile (class_of status)) × ((fault : ProfileFault) → status ≡ ProfileRefused
    fault → ⊥)
own_open status (inl is) = (inl (ap class_of is), λ fault told. clash fault (sym is ∙ told))
  where
    clash : (fault : ProfileFault) → Memory ≡ ProfileRefused fault → ⊥
    clash fault told = cc
own_open status (inr is) = (
  inr (subst (λ s. IsOfProfile (class_of s)) (sym is) tt),
  λ fault told. clash fault (sym is
      ∙ told),
)
  where
    clash : (fault : ProfileFault) → OpenFault Profile ≡ ProfileRefused fault → ⊥
    clash fault told = cc

pub own_read : (status : Status) → IsReadAnswer Profile status
    → ((class_of status ≡ memory) ⊎ IsOfProfile (class_of status)) × ((fault : ProfileFault) → status ≡ ProfileRefused
    fault → ⊥)
own_read status (inl is) = own_open status (inl is)
own_read status (inr (inl is)) = (
  inr (subst (λ s. IsOfProfile (class_of s)) (sym is) tt),
  λ fault told. clash fault
      (sym is ∙ told),
)
  where
    clash : (fault : ProfileFault) → ReadFault Profile ≡ ProfileRefused fault → ⊥
    clash fault told = cc
own_read status (inr (inr is)) = (
  inr (subst (λ s. IsOfProfile (class_of s)) (sym is) tt),
  λ fault told. clash fault
      (sym is ∙ told),
)
  where
    clash : (fault : ProfileFault) → TooLong Profile ≡ ProfileRefused fault → ⊥
    clash fault told = cc

pub own_error : (error : ProfileError) → (class_of (status_of_error error) ≡ memory) ⊎ IsOfProfile (class_of
    (status_of_error error))
own_error P.OutOfMemory = inl refl
own_error (P.Refused fault) = inr tt

-- a refusal is for the fault that was found
same_refusal : (error : ProfileError) (fault : ProfileFault) → status_of_error error ≡ ProfileRefused fault → error ≡
    P.Refused fault
same_refusal P.OutOfMemory fault told = cc
same_refusal (P.Refused own) fault told = cc

-- the promise where the text of the profile was read and is refused, or there was no memory for it
pub error_promise : (name : List ℕ) (before now : DeskState) (error : ProfileError) (bytes : List ℕ)
    → Ends (profile_steps (Some name) ++ []) before now (status_of_error error)
    → OnlyProfile now
    → IfSome (before.gives name) (λ text. text ≡ bytes)
    → ((fault : ProfileFault) → error ≡ P.Refused fault → profile_of bytes ≡ Err fault)
    → ProfilePromise (Some name) before now (status_of_error error)
error_promise name before now error bytes ends only text barred =
    stopped_promise name [] before now (status_of_error error) ends only (own_error error)
    (λ fault told. IfSome_then (before.gives name) text (λ t is. ap profile_of is ∙ barred fault (same_refusal error
    fault told)))

-- a profile that is not refused is not answered by a refusal
pub accepted_profile : (name : List ℕ) (before now : DeskState) (status : Status) (profile : ProfileValue)
    → ProfilePromise (Some name) before now status → (class_of status ≡ memory) ⊎ IsOfProfile (class_of status)
    → profile_outcome before.gives (Some name) ≡ Some (Ok profile) → IsAnswer (class_of status) → ⊥
accepted_profile name before now status profile promise own is answer = elim own [
  | inl no_memory ↦ subst IsAnswer no_memory answer
  | inr of ↦ by_class (class_of status) refl of answer
]
  where
    one_outcome : {one other : Result ProfileValue ProfileFault} → Some one ≡ Some other → one ≡ other
    one_outcome same = cc

    by_text : (fault : ProfileFault) (text : Option (List ℕ)) → option_map profile_of text ≡ Some (Ok profile) →
        IfSome text (λ t. profile_of t ≡ Err fault) → ⊥
    by_text fault None same barred = cc
    by_text fault (Some text) same barred = not_both profile fault (profile_of text) (one_outcome same) barred

    by_class : (class : Class) → class_of status ≡ class → IsOfProfile class → IsAnswer class → ⊥
    by_class (refused Profile) told of answer =
        let known = refused_profile status told in by_text known.0 (before.gives name) is (promise.refusal known.0
        known.1)
    by_class ended told of answer = of
    by_class (refused slot) told of answer = of
    by_class class told of answer = answer
