use Rattle.std.proofs.Common.{◌≤◌, ◌++◌, ◌∙◌, List, [], ◌∷◌, ℕ, Some, length, refl, subst, sym}
use Rattle.std.proofs.lemmas.Option.{MatchOption-at_some}
use Rattle.std.proofs.lemmas.Result.{err_from_is_err_and}
use Rattle.frag_io.specs.declared.desk.Slot.TheVariants.{Spectra, CertIn}
use Rattle.frag_io.specs.DeskState.{DeskState}
use Rattle.run_plan.specs.Plan.{Step, begin, read, report_steps, text_steps}
use Rattle.run_plan.specs.Running.{Ends}
use Rattle.run_plan.specs.declared.status.Status.{Status}
use Rattle.run_plan.specs.Limits.{greatest_text_of}
use Rattle.check_command.specs.CheckOutcome.{IsOutcome}
use Rattle.check_command.specs.inside.Checked.{check_outcome}
use Rattle.right_document.specs.SettingsOf.{solve_settings_value_of}
use Rattle.check_command.specs.declared.document.Checked.{Checked}
use Rattle.run_plan.specs.declared.status.Status.TheVariants.{DocumentRefused, DocumentRejected}
use Rattle.run_plan.proofs.Running.{at_some, memory_ends, refused_ends, unread}
use Rattle.run_plan.proofs.TextSteps.{ends_behind, unread_behind}
use Rattle.check_command.proofs.checking.check_steps.Goals as goal

-- steps that are done behind others, with one more
read_behind : (done some later : List Step) (one : Step) (before now : DeskState) (status : Status)
    → Ends (((done ++ some) ++ one ∷ []) ++ later) before now status → Ends (done ++ (some ++ (one ∷ later))) before
    now status
read_behind done some later one before now status ends =
    ends_behind done some (one ∷ later) before now status (ends_behind (done ++ some) (one ∷ []) later before now
    status ends)

pub returns-in_err-text-clause-ends : goal.returns-in_err-text-clause-ends
returns-in_err-text-clause-ends g c = λ done before did.
    let p = err_from_is_err_and c.from_residual.result c.from_residual.ensures.1 in
    rw (p.1, p.2) (c.in_err-text.ensures.ends done (read CertIn ∷ report_steps) before did)

pub returns-in_err-bytes-clause-ends : goal.returns-in_err-bytes-clause-ends
returns-in_err-bytes-clause-ends g c = λ done before did.
    let text : List Step = text_steps c.args.name.now (Some (begin CertIn c.args.document.now)) in
    let unread_document = unread_behind done text CertIn
    (unread done before (g.D.Desk.state c.args.desk.now) CertIn did (c.requires.only CertIn (λ is. cc))) refl in
    let p = err_from_is_err_and c.from_residual-in_err-bytes.result c.from_residual-in_err-bytes.ensures.1 in
    rw (p.1, p.2) (ends_behind done text (read CertIn ∷ report_steps) before (g.D.Desk.state c.read_text.new.desk) _
    (c.in_err-bytes.ensures.ends (done ++ text) report_steps before (c.in_ok-text.ensures.done done before did)
    unread_document))

pub returns-in_err-fault-clause-ends : goal.returns-in_err-fault-clause-ends
returns-in_err-fault-clause-ends g c = λ done before did.
    let text : List Step = text_steps c.args.name.now (Some (begin CertIn c.args.document.now)) in
    let unread_document = unread_behind done text CertIn
    (unread done before (g.D.Desk.state c.args.desk.now) CertIn did (c.requires.only CertIn (λ is. cc))) refl in
    let p = err_from_is_err_and c.from_residual-in_err-fault.result c.from_residual-in_err-fault.ensures.1 in
    rw (p.1, p.2) (read_behind done text report_steps (read CertIn) before (g.D.Desk.state c.read_text.new.desk) _
    (memory_ends ((done ++ text) ++ read CertIn ∷ []) report_steps before (g.D.Desk.state c.read_text.new.desk)
    (c.in_ok-bytes.ensures.done (done ++ text) before (c.in_ok-text.ensures.done done before did) unread_document)))

pub returns-in-Refused-clause-ends : goal.returns-in-Refused-clause-ends
returns-in-Refused-clause-ends g c = λ done before did.
    let text : List Step = text_steps c.args.name.now (Some (begin CertIn c.args.document.now)) in
    let unread_document = unread_behind done text CertIn
    (unread done before (g.D.Desk.state c.args.desk.now) CertIn did (c.requires.only CertIn (λ is. cc))) refl in
    read_behind done text report_steps (read CertIn) before (g.D.Desk.state c.read_text.new.desk) (DocumentRefused
    c.in-Refused.fault)
    (refused_ends (done ++ text) report_steps before (g.D.Desk.state c.read_text.new.desk) CertIn (DocumentRefused
    c.in-Refused.fault) refl refl
    (c.read_text.ensures.begun CertIn ∙ c.in_ok-text.ensures.begun.documents CertIn tt)
    (c.in_ok-bytes.ensures.done (done ++ text) before (c.in_ok-text.ensures.done done before did) unread_document))

pub returns-in-Rejected-clause-ends : goal.returns-in-Rejected-clause-ends
returns-in-Rejected-clause-ends g c = λ done before did.
    let text : List Step = text_steps c.args.name.now (Some (begin CertIn c.args.document.now)) in
    let unread_document = unread_behind done text CertIn
    (unread done before (g.D.Desk.state c.args.desk.now) CertIn did (c.requires.only CertIn (λ is. cc))) refl in
    read_behind done text report_steps (read CertIn) before (g.D.Desk.state c.read_text.new.desk) (DocumentRejected
    c.in-Rejected.place)
    (refused_ends (done ++ text) report_steps before (g.D.Desk.state c.read_text.new.desk) CertIn (DocumentRejected
    c.in-Rejected.place) refl refl
    (c.read_text.ensures.begun CertIn ∙ c.in_ok-text.ensures.begun.documents CertIn tt)
    (c.in_ok-bytes.ensures.done (done ++ text) before (c.in_ok-text.ensures.done done before did) unread_document))

pub returns-clause-ends : goal.returns-clause-ends
returns-clause-ends g c = λ done before did.
    let text : List Step = text_steps c.args.name.now (Some (begin CertIn c.args.document.now)) in
    let unread_document = unread_behind done text CertIn
    (unread done before (g.D.Desk.state c.args.desk.now) CertIn did (c.requires.only CertIn (λ is. cc))) refl in
    read_behind done text report_steps (read CertIn) before (g.D.Desk.state c.tell_accepted.new.desk) _
    (c.tell_accepted.ensures.ends ((done ++ text) ++ read CertIn ∷ []) before
    (c.in_ok-bytes.ensures.done (done ++ text) before (c.in_ok-text.ensures.done done before did) unread_document))

pub returns-clause-texts : goal.returns-clause-texts
returns-clause-texts g c =
    at_some ((g.D.Desk.state c.args.desk.now).gives c.args.name.now) _ (λ text told.
    at_some ((g.D.Desk.state c.args.desk.now).gives c.args.document.now) _ (λ bytes told_bytes.
    let is = MatchOption-at_some _ _ text told c.in_ok-text.ensures.text in
    let is_bytes = (MatchOption-at_some _ _ bytes (c.in_ok-text.ensures.unread refl ∙ told_bytes)
    c.in_ok-bytes.ensures.text).0 in
    c.tell_accepted.ensures.texts _ text bytes
    (subst (λ (t : List ℕ). length t ≤ greatest_text_of Spectra) (sym is) c.in_ok-text.ensures.short)
    (rw (is ∙ sym c.deref.ensures.value, is_bytes ∙ sym c.deref-2.ensures.value)
    (subst (λ (checked : Checked). IsOutcome (solve_settings_value_of c.args.settings.now) c.deref.result.now
    c.deref-2.result.now
    (check_outcome checked)) c.in-Accepted.is c.in_ok-fault.ensures))))
