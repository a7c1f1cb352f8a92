-- `name_in` and the tests of steps: what one step more changes of them.
use Rattle.std.proofs.Common.{◌≡◌, ◌≢◌, ◌++◌, ◌⊎◌, inl, inr, ℕ, Bool, true, false, ◌||◌, List, [], ◌∷◌, Option, Some}
use Rattle.std.proofs.Common.{None, IfSome, sym, ◌∙◌, ap, subst, refl}
use Rattle.std.specs.List.{list_any}
use Rattle.std.proofs.lemmas.List.Folds.{list_any-append}
use Rattle.std.specs.Prelude.{is_some, option_and_then, if◌then◌else◌}
use Rattle.frag_io.specs.declared.desk.Slot.{Slot}
use Rattle.frag_io.specs.declared.desk.Slot.TheVariants.{Spectra, Profile, CertIn, Report, CertOut}
use Rattle.frag_io.specs.DeskState.{DeskState}
use Rattle.run_plan.specs.Plan.{Step, begin, read, write, finish, is_same_slot, name_in, text_in}

-- a slot is another one or is not
pub same_slot : (one other : Slot) → (one ≡ other) ⊎ ((is_same_slot one other ≡ false) × (other ≢ one))
same_slot Spectra Spectra = inl refl
same_slot Profile Profile = inl refl
same_slot CertIn CertIn = inl refl
same_slot Report Report = inl refl
same_slot CertOut CertOut = inl refl
same_slot one other = inr (refl, λ is. cc)

pub is_same_slot-own : (slot : Slot) → is_same_slot slot slot ≡ true
is_same_slot-own Spectra = refl
is_same_slot-own Profile = refl
is_same_slot-own CertIn = refl
is_same_slot-own Report = refl
is_same_slot-own CertOut = refl

not_true : false ≡ true → ⊥
not_true is = cc

pub not_both : (test : Bool) → test ≡ false → test ≡ true → ⊥
not_both test fails passes = not_true (sym fails ∙ passes)

pub slot_is : (one other : Slot) → is_same_slot one other ≡ true → one ≡ other
slot_is one other is = elim (same_slot one other) [
  | inl same ↦ same
  | inr differs ↦ absurd (not_both (is_same_slot one other) differs.0 is)
]

pub slot_differs : (one other : Slot) → is_same_slot one other ≡ false → other ≢ one
slot_differs one other differs = λ same. not_both (is_same_slot one other) differs (ap (is_same_slot one) same ∙
    is_same_slot-own one)

pub none_in : (found : Option (List ℕ)) → is_some found ≡ false → found ≡ None
none_in None is = refl
none_in (Some name) is = cc

pub some_in : (found : Option (List ℕ)) → is_some found ≡ true → (name : List ℕ) × (found ≡ Some name)
some_in None is = cc
some_in (Some name) is = (name, refl)

if_none : (same : Bool) (name : List ℕ) (rest : Option (List ℕ)) → (if same then Some name else rest) ≡ None
    → (same ≡ false) × (rest ≡ None)
if_none true name rest is = cc
if_none false name rest is = (refl, is)

if_some : (same : Bool) (own name : List ℕ) (rest more : Option (List ℕ)) → (if same then Some own else rest) ≡ Some
    name
    → (rest ≡ Some name → more ≡ Some name) → (if same then Some own else more) ≡ Some name
if_some true own name rest more is next = is
if_some false own name rest more is next = next is

-- a name that no earlier step has is that of the later ones
pub name_in-later : (done later : List Step) (slot : Slot) → name_in done slot ≡ None
    → name_in (done ++ later) slot ≡ name_in later slot
name_in-later [] later slot none = refl
name_in-later (begin own name ∷ done) later slot none =
    let parts = if_none (is_same_slot own slot) name (name_in done slot) none in
    ap (λ (same : Bool). if same then Some name else name_in (done ++ later) slot) parts.0
    ∙ name_in-later done later slot parts.1
name_in-later (read own ∷ done) later slot none = name_in-later done later slot none
name_in-later (write own ∷ done) later slot none = name_in-later done later slot none
name_in-later (finish own ∷ done) later slot none = name_in-later done later slot none

-- a name that an earlier step has stays
pub name_in-earlier : (done later : List Step) (slot : Slot) (name : List ℕ) → name_in done slot ≡ Some name
    → name_in (done ++ later) slot ≡ Some name
name_in-earlier [] later slot name is = cc
name_in-earlier (begin own named ∷ done) later slot name is =
    if_some (is_same_slot own slot) named name (name_in done slot) (name_in (done ++ later) slot) is
    (name_in-earlier done later slot name)
name_in-earlier (read own ∷ done) later slot name is = name_in-earlier done later slot name is
name_in-earlier (write own ∷ done) later slot name is = name_in-earlier done later slot name is
name_in-earlier (finish own ∷ done) later slot name is = name_in-earlier done later slot name is

pub name_in-own : (done : List Step) (slot : Slot) (name : List ℕ) → name_in done slot ≡ None
    → name_in (done ++ begin slot name ∷ []) slot ≡ Some name
name_in-own done slot name none =
    name_in-later done (begin slot name ∷ []) slot none
    ∙ ap (λ (same : Bool). if same then Some name else None) (is_same_slot-own slot)

-- a step that does not begin the slot leaves its name
pub name_in-same : (done : List Step) (step : Step) (slot : Slot) → name_in (step ∷ []) slot ≡ None
    → name_in (done ++ step ∷ []) slot ≡ name_in done slot
name_in-same done step slot none = by_name (name_in done slot) refl
  where
    by_name : (found : Option (List ℕ)) → name_in done slot ≡ found → name_in (done ++ step ∷ []) slot ≡ name_in done
        slot
    by_name None is = name_in-later done (step ∷ []) slot is ∙ none ∙ sym is
    by_name (Some name) is = name_in-earlier done (step ∷ []) slot name is ∙ sym is

pub name_in-other : (done : List Step) (own slot : Slot) (name : List ℕ) → is_same_slot own slot ≡ false
    → name_in (done ++ begin own name ∷ []) slot ≡ name_in done slot
name_in-other done own slot name differs =
    name_in-same done (begin own name) slot (ap (λ (same : Bool). if same then Some name else None) differs)

-- what holds of the text of a slot does so behind a step that does not begin it
pub text_on : (done : List Step) (step : Step) (before : DeskState) (slot : Slot) (P : List ℕ → Type 0)
    → name_in (step ∷ []) slot ≡ None → IfSome (text_in done before slot) P → IfSome (text_in (done ++ step ∷ [])
    before slot) P
text_on done step before slot P none =
    subst (λ o. IfSome (option_and_then before.gives o) P) (sym (name_in-same done step slot none))

or_false : (one other : Bool) → other ≡ false → (one || other) ≡ one
or_false true other is = refl
or_false false other is = is

or_true : (one other : Bool) → other ≡ true → (one || other) ≡ true
or_true true other is = refl
or_true false other is = is

-- a step that passes no test changes nothing, and one that passes it settles it
pub any_same : (test : Step → Bool) (done : List Step) (step : Step) → test step ≡ false
    → list_any test (done ++ step ∷ []) ≡ list_any test done
any_same test done step fails =
    list_any-append test done (step ∷ []) ∙ or_false (list_any test done) (list_any test (step ∷ []))
    (or_false (test step) false refl ∙ fails)

pub any_new : (test : Step → Bool) (done : List Step) (step : Step) → test step ≡ true
    → list_any test (done ++ step ∷ []) ≡ true
any_new test done step passes =
    list_any-append test done (step ∷ []) ∙ or_true (list_any test done) (list_any test (step ∷ []))
    (or_false (test step) false refl ∙ passes)
