-- `SolvedAndChecked`: both runs answer alike.
use Rattle.std.proofs.Common.{◌≡◌, ◌∙◌, ℕ, List, Option, Some, None, length, IfSome, sym, subst, refl}
use Rattle.std.proofs.lemmas.Option.{MatchOption-at_some}
use Rattle.frag_io.specs.declared.desk.Slot.{Slot}
use Rattle.frag_io.specs.declared.desk.Slot.TheVariants.{CertOut}
use Rattle.frag_io.specs.DeskState.{DeskState}
use Rattle.mgf_reader.specs.declared.fault.MgfFault.{MgfFault}
use Rattle.tree_document.specs.Document.{IsGood, spelling_of}
use Rattle.tree_document.specs.declared.document.Document.{Document}
use Rattle.order_words.specs.Orders.{DocumentNames}
use Rattle.right_document.specs.RightDocument.{DocumentIsRight}
use Rattle.right_document.specs.SolveSettings.{SolveSettingsValue, solve_settings_of}
use Rattle.run_plan.specs.TextPromise.{OwesText}
use Rattle.run_plan.specs.declared.status.Status.{Status}
use Rattle.run_plan.specs.declared.status.Status.TheVariants.{Done, MgfRefused, DocumentRefused, DocumentRejected}
use Rattle.check_command.specs.CheckOutcome.{CheckOutcome, IsOutcome, accepted, refused, rejected}
use Rattle.check_command.specs.CheckPromise.{CheckAnswers, check_meaning}
use Rattle.solve_command.specs.SolvePromise.{IsSolved, SolveAnswers, solve_meaning}
use Rattle.fragment_run.specs.SolvedAndChecked.{SolvedAndChecked}

abbrev pub RightIsAccepted : Type 0
RightIsAccepted = (settings : SolveSettingsValue) (text : List ℕ) (fault : Option MgfFault) (document : Document)
    → IsGood document → DocumentIsRight settings text fault document
    → IsOutcome settings text (spelling_of document) (accepted (length document.sections) fault)

abbrev pub AcceptedAlone : Type 0
AcceptedAlone = (settings : SolveSettingsValue) (text bytes : List ℕ) (count : ℕ) (fault : Option MgfFault)
    (other : CheckOutcome) → IsOutcome settings text bytes (accepted count fault)
    → IsOutcome settings text bytes other → other ≡ accepted count fault

-- the status that tells a text which is read with this fault
abbrev answer_to : Option MgfFault → Status
answer_to None = Done
answer_to (Some fault) = MgfRefused fault

-- what a solving answers
solved_as : (settings : SolveSettingsValue) (text : List ℕ) (status : Status) (written : Slot → Option (List ℕ))
    → SolveAnswers settings text status written
    → (fault : Option MgfFault) × IsSolved settings text fault written × (status ≡ answer_to fault)
solved_as settings text Done written is = (None, is, refl)
solved_as settings text (MgfRefused fault) written is = (Some fault, is, refl)
solved_as settings text status written is = absurd is

same_fault : (count other : ℕ) (one fault : Option MgfFault) → accepted count one ≡ accepted other fault → one ≡ fault
same_fault count other one fault same = cc

-- a check of bytes that are accepted answers no otherwise
checked_as : AcceptedAlone → (settings : SolveSettingsValue) (text bytes : List ℕ) (status : Status)
    (written : Slot → Option (List ℕ)) (count : ℕ) (fault : Option MgfFault) → IsOutcome settings text bytes (accepted
    count fault)
    → CheckAnswers settings text bytes status written → status ≡ answer_to fault
checked_as alone settings text bytes Done written count fault is told =
    subst (λ f. Done ≡ answer_to f) (same_fault told.0 count None fault (alone settings text bytes count fault _ is
    told.1)) refl
checked_as alone settings text bytes (MgfRefused own) written count fault is told =
    subst (λ f. MgfRefused own ≡ answer_to f) (same_fault told.0 count (Some own) fault (alone settings text bytes
    count fault _ is told.1)) refl
checked_as alone settings text bytes (DocumentRefused own) written count fault is told =
    absurd (other (alone settings text bytes count fault (refused own) is told))
  where
    other : refused own ≡ accepted count fault → ⊥
    other same = cc
checked_as alone settings text bytes (DocumentRejected place) written count fault is told =
    absurd (other (alone settings text bytes count fault (rejected place) is told))
  where
    other : rejected place ≡ accepted count fault → ⊥
    other same = cc
checked_as alone settings text bytes status written count fault is told = absurd told

pub answered_alike : RightIsAccepted → AcceptedAlone → (names : DocumentNames) (before now later last : DeskState)
    (solved checked : Status) → SolvedAndChecked names before now later last solved checked → checked ≡ solved
answered_alike right alone names before now later last solved checked both =
    let settings : SolveSettingsValue = solve_settings_of both.profile names.adduct in
    let solving : OwesText (solve_meaning settings both.text) both.text now solved =
    MatchOption-at_some _ (λ text. OwesText (solve_meaning settings text) text now solved) both.text both.solved_text
    (both.solve both.profile both.solved_profile) in
    let checking : OwesText (check_meaning settings both.text both.bytes) both.text last checked =
    MatchOption-at_some _ (λ bytes. OwesText (check_meaning settings both.text bytes) both.text last checked)
    both.bytes both.document
    (MatchOption-at_some _ (λ text. IfSome (later.gives names.document) (λ bytes. OwesText (check_meaning settings
    text bytes) text last checked))
    both.text both.checked_text (both.check both.profile both.checked_profile)) in
    let answer = solved_as settings both.text solved now.written (solving.leaves.answer both.solved_answer) in
    let document : Document = answer.1.document in
    let spelled : both.bytes ≡ spelling_of document =
    MatchOption-at_some _ (λ bytes. bytes ≡ spelling_of document) both.bytes both.wrote answer.1.spelled in
    let outcome : IsOutcome settings both.text both.bytes (accepted (length document.sections) answer.0) =
    subst (λ (bytes : List ℕ). IsOutcome settings both.text bytes (accepted (length document.sections) answer.0)) (sym
    spelled)
    (right settings both.text answer.0 document answer.1.good answer.1.right) in
    checked_as alone settings both.text both.bytes checked last.written (length document.sections) answer.0 outcome
    (checking.leaves.answer both.checked_answer) ∙ sym answer.2
