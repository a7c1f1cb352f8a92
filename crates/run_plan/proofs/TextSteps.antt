-- `read_spectra` and what writes: what holds between the steps of a command on a text.
use Rattle.std.proofs.Common.{◌≡◌, ◌≢◌, ◌++◌, ◌||◌, ℕ, Bool, true, false, List, [], ◌∷◌, length, take, Option, Some}
use Rattle.std.proofs.Common.{None, Result, Ok, Err, sym, ◌∙◌, ap, subst, refl, append_assoc, append-nil}
use Rattle.std.proofs.Math.Seq.{take-length}
use Rattle.std.proofs.lemmas.List.Folds.{list_any-append}
use Rattle.std.specs.Prelude.{OnOk, OnErr, option_map}
use Rattle.frag_io.specs.declared.desk.Slot.{Slot}
use Rattle.frag_io.specs.declared.desk.Slot.TheVariants.{Spectra, Profile, CertIn, Report, CertOut}
use Rattle.frag_io.specs.DeskState.{DeskState}
use Rattle.frag_io.specs.Desk.{appended}
use Rattle.frag_io.specs.Slot.{Gains, IsWritten, Same}
use Rattle.run_plan.specs.Class.{class_of, ended}
use Rattle.run_plan.specs.Plan.{Step, begin, document_steps, is_read_in, is_read_of}
use Rattle.run_plan.specs.Running.{Ends, HasDone}
use Rattle.run_plan.specs.TextSteps.{begin_of}
use Rattle.run_plan.specs.declared.status.Status.{Status}
use Rattle.run_plan.specs.declared.text_steps.DocumentSlot.{DocumentSlot}
use Rattle.run_plan.proofs.Plan.{any_same}
use Rattle.run_plan.proofs.Running.{ended_ends}

pub on_err : {T E : Type 0} (result : Result T E) (P : Type 0) → P → OnErr result P
on_err (Ok value) P holds = tt
on_err (Err error) P holds = holds

pub on_ok_then : {T E : Type 0} (result : Result T E) (P Q : Type 0) → OnOk result P → (P → Q) → OnOk result Q
on_ok_then (Ok value) P Q holds next = next holds
on_ok_then (Err error) P Q holds next = tt

pub on_ok : {T E : Type 0} (result : Result T E) (P : Type 0) → P → OnOk result P
on_ok (Ok value) P holds = holds
on_ok (Err error) P holds = tt

pub both : {T E : Type 0} (result : Result T E) (P Q : Type 0) → OnOk result P → OnOk result Q → OnOk result (P × Q)
both (Ok value) P Q one other = (one, other)
both (Err error) P Q one other = tt

-- the slots that a begin of another one leaves
pub others_begun : {T E : Type 0} (result : Result T E) (own : Slot) (before now : Slot → Bool) → OnOk result (Gains
    own before now)
    → OnErr result (Same before now)
    → (slot : Slot) → slot ≢ own → now slot ≡ before slot
others_begun (Ok value) own before now gains same slot other = gains.others slot other
others_begun (Err error) own before now gains same slot other = same slot

-- steps that are done one by one are those of a plan
pub behind_first : (done middle last later : List Step) (first : Step)
    → (done ++ first ∷ []) ++ (middle ++ (last ++ later)) ≡ done ++ (first ∷ ((middle ++ last) ++ later))
behind_first done middle last later first =
    append_assoc done (first ∷ []) (middle ++ (last ++ later))
    ∙ ap (λ (steps : List Step). done ++ first ∷ steps) (sym (append_assoc middle last later))

pub behind_middle : (done middle last later : List Step) (first : Step)
    → ((done ++ first ∷ []) ++ middle) ++ (last ++ later) ≡ done ++ (first ∷ ((middle ++ last) ++ later))
behind_middle done middle last later first =
    append_assoc (done ++ first ∷ []) middle (last ++ later) ∙ behind_first done middle last later first

pub behind_third : (done middle later : List Step) (first third last : Step)
    → (((done ++ first ∷ []) ++ middle) ++ third ∷ []) ++ (last ∷ later) ≡ done ++ (first ∷ ((middle ++ third ∷ last ∷
    []) ++ later))
behind_third done middle later first third last =
    append_assoc ((done ++ first ∷ []) ++ middle) (third ∷ []) (last ∷ later)
    ∙ behind_middle done middle (third ∷ last ∷ []) later first

pub all_done : (done middle : List Step) (first third last : Step)
    → (((done ++ first ∷ []) ++ middle) ++ third ∷ []) ++ (last ∷ []) ≡ done ++ (first ∷ (middle ++ third ∷ last ∷ []))
all_done done middle first third last =
    behind_third done middle [] first third last ∙ ap (λ (steps : List Step). done ++ first ∷ steps) (append-nil
    (middle ++ third ∷ last ∷ []))

pub ends_as : (one other : List Step) (before now : DeskState) (status : Status) → one ≡ other → Ends one before now
    status
    → Ends other before now status
ends_as one other before now status same = subst (λ (steps : List Step). Ends steps before now status) same

pub ends_behind : (done some later : List Step) (before now : DeskState) (status : Status)
    → Ends ((done ++ some) ++ later) before now status → Ends (done ++ (some ++ later)) before now status
ends_behind done some later before now status = ends_as _ _ before now status (append_assoc done some later)

-- three steps that are done one by one
pub behind_two : (done later : List Step) (one two : Step) → ((done ++ one ∷ []) ++ two ∷ []) ++ later ≡ done ++ (one
    ∷ two ∷ later)
behind_two done later one two =
    append_assoc (done ++ one ∷ []) (two ∷ []) later ∙ append_assoc done (one ∷ []) (two ∷ later)

pub behind_three : (done later : List Step) (one two three : Step)
    → (((done ++ one ∷ []) ++ two ∷ []) ++ three ∷ []) ++ later ≡ done ++ (one ∷ two ∷ three ∷ later)
behind_three done later one two three =
    append_assoc ((done ++ one ∷ []) ++ two ∷ []) (three ∷ []) later ∙ behind_two done (three ∷ later) one two

-- a slot that neither some steps nor those behind them read
pub unread_behind : (done some : List Step) (slot : Slot) → is_read_in done slot ≡ false → is_read_in some slot ≡ false
    → is_read_in (done ++ some) slot ≡ false
unread_behind done some slot is also = list_any-append (is_read_of slot) done some ∙ none (is_read_in done slot)
    (is_read_in some slot) is also
  where
    none : (one other : Bool) → one ≡ false → other ≡ false → (one || other) ≡ false
    none false other is also = also
    none true other is also = is

-- a text is unread as long as slots are begun
pub still_unread : (done : List Step) (document : Option DocumentSlot) (name : List ℕ) → is_read_in done Spectra ≡ false
    → is_read_in (((done ++ begin Spectra name ∷ []) ++ document_steps (option_map begin_of document)) ++ begin Report
    [] ∷ []) Spectra ≡ false
still_unread done None name is =
    any_same (is_read_of Spectra) ((done ++ begin Spectra name ∷ []) ++ []) (begin Report []) refl
    ∙ ap (λ (steps : List Step). is_read_in steps Spectra) (append-nil (done ++ begin Spectra name ∷ []))
    ∙ any_same (is_read_of Spectra) done (begin Spectra name) refl ∙ is
still_unread done (Some document) name is =
    any_same (is_read_of Spectra) ((done ++ begin Spectra name ∷ []) ++ begin_of document ∷ []) (begin Report []) refl
    ∙ any_same (is_read_of Spectra) (done ++ begin Spectra name ∷ []) (begin_of document) refl
    ∙ any_same (is_read_of Spectra) done (begin Spectra name) refl ∙ is

no_written : false ≡ true → ⊥
no_written is = cc

-- the end of all work, where the report is finished, and the document if it was begun
pub outputs_ended : (plan : List Step) (before now : DeskState) (status : Status) → class_of status ≡ ended
    → HasDone plan before now → (now.begun CertOut ≡ true → now.finished CertOut ≡ true) → now.finished Report ≡ true
    → Ends plan before now status
outputs_ended plan before now status is did document_done report_done = ended_ends plan before now status is did
    all_finished
  where
    all_finished : (slot : Slot) → IsWritten slot → now.begun slot ≡ true → now.finished slot ≡ true
    all_finished Report written begun = report_done
    all_finished CertOut written begun = document_done begun
    all_finished Spectra written begun = absurd (no_written (sym written))
    all_finished Profile written begun = absurd (no_written (sym written))
    all_finished CertIn written begun = absurd (no_written (sym written))

-- a slot that is not begun is none to be finished
pub unbegun_is_done : (begun finished : Bool) → begun ≡ false → begun ≡ true → finished ≡ true
unbegun_is_done begun finished not is = absurd (both (sym not ∙ is))
  where
    both : false ≡ true → ⊥
    both told = cc

-- no bytes more are a first part of any
pub appended_none : (before : Option (List ℕ)) (bytes : List ℕ) → before ≡ appended before (take 0 bytes)
appended_none None bytes = refl
appended_none (Some old) bytes = ap Some (sym (append-nil old))

pub appended_all : (before : Option (List ℕ)) (bytes : List ℕ) → appended before bytes ≡ appended before (take (length
    bytes) bytes)
appended_all before bytes = ap (appended before) (sym (take-length bytes))
