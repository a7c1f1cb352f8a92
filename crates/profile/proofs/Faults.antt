-- Places of which nothing is refused.
use Rattle.std.proofs.Common.{◌≡◌, ◌∙◌, List, [], ◌∷◌, ◌++◌, Option, Some, None, refl, sym, ap}
use Rattle.std.specs.Option.{option_or}
use Rattle.profile.specs.Places.{Place}
use Rattle.profile.specs.Refusal.{first_fault, unknown_at, bad_at, over_at, refusal_of}
use Rattle.profile.specs.declared.fault.ProfileFault.{ProfileFault}

-- neither of two is there
pub neither : {A : Type 0} (one other : Option A) → option_or one other ≡ None → (one ≡ None) × (other ≡ None)
neither None other none = (refl, none)
neither (Some x) other none = cc

both_none : {A : Type 0} (one other : Option A) → one ≡ None → other ≡ None → option_or one other ≡ None
both_none one other a b = rw (a, b)

option_or_assoc : {A : Type 0} (a b c : Option A) → option_or (option_or a b) c ≡ option_or a (option_or b c)
option_or_assoc None b c = refl
option_or_assoc (Some x) b c = refl

pub first_fault-append : (fault_at : Place → Option ProfileFault) (some more : List Place)
    → first_fault fault_at (some ++ more) ≡ option_or (first_fault fault_at some) (first_fault fault_at more)
first_fault-append fault_at [] more = refl
first_fault-append fault_at (place ∷ some) more =
    ap (option_or (fault_at place)) (first_fault-append fault_at some more)
    ∙ sym (option_or_assoc (fault_at place) (first_fault fault_at some) (first_fault fault_at more))

-- no search finds a fault
pub record NoFault (places : List Place) : Type 0 where
  pub unknown : first_fault unknown_at places ≡ None
  pub bad : first_fault bad_at places ≡ None
  pub over : first_fault over_at places ≡ None

pub NoFault-from_refusal : (places : List Place) → refusal_of places ≡ None → NoFault places
NoFault-from_refusal places none =
    let (unknown, more) = neither _ _ none in
    let (bad, over) = neither _ _ more in
    record { unknown = unknown; bad = bad; over = over }

pub refusal_from_NoFault : (places : List Place) → NoFault places → refusal_of places ≡ None
refusal_from_NoFault places fine = rw (fine.unknown, fine.bad) fine.over

-- of two parts
pub parts_fine : (some more : List Place) → refusal_of (some ++ more) ≡ None
    → (refusal_of some ≡ None) × (refusal_of more ≡ None)
parts_fine some more none =
    let fine = NoFault-from_refusal (some ++ more) none in
    let unknown = neither _ _ (sym (first_fault-append unknown_at some more) ∙ fine.unknown) in
    let bad = neither _ _ (sym (first_fault-append bad_at some more) ∙ fine.bad) in
    let over = neither _ _ (sym (first_fault-append over_at some more) ∙ fine.over) in (
      refusal_from_NoFault some (record { unknown = unknown.0; bad = bad.0; over = over.0 }),
      refusal_from_NoFault more (record { unknown = unknown.1; bad = bad.1; over = over.1 }),
    )

-- of the first place and the others
pub first_fine : (place : Place) (places : List Place) → refusal_of (place ∷ places) ≡ None
    → (bad_at place ≡ None) × (over_at place ≡ None) × (refusal_of places ≡ None)
first_fine place places none =
    let fine = NoFault-from_refusal (place ∷ places) none in
    let unknown = neither _ _ fine.unknown in
    let bad = neither _ _ fine.bad in
    let over = neither _ _ fine.over in
    (bad.0, over.0, refusal_from_NoFault places (record { unknown = unknown.1; bad = bad.1; over = over.1 }))
