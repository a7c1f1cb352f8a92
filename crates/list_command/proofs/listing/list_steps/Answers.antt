use Rattle.std.proofs.Common.{◌≤◌, ◌++◌, ◌∙◌, List, ℕ, None, length, refl, sym, subst}
use Rattle.std.proofs.lemmas.Option.{MatchOption-at_some}
use Rattle.std.proofs.lemmas.Result.{err_from_is_err_and}
use Rattle.frag_io.specs.declared.desk.Slot.TheVariants.{Spectra, Report}
use Rattle.run_plan.specs.Limits.{greatest_text_of}
use Rattle.run_plan.specs.Plan.{report_steps, text_steps}
use Rattle.run_plan.specs.declared.status.Status.TheVariants.{Done, MgfRefused}
use Rattle.run_plan.proofs.Running.{at_some, memory_ends}
use Rattle.list_command.proofs.ListPromise.{done_lists, partly_lists, refused_lists}
use Rattle.run_plan.proofs.TextSteps.{ends_behind}
use Rattle.list_command.proofs.listing.list_steps.Goals as goal

pub returns-in_err-text-clause-ends : goal.returns-in_err-text-clause-ends
returns-in_err-text-clause-ends g c = λ done before did.
    let p = err_from_is_err_and c.from_residual.result c.from_residual.ensures.1 in
    rw (p.1, p.2) (c.in_err-text.ensures.ends done report_steps before did)

pub returns-in_err-report-clause-ends : goal.returns-in_err-report-clause-ends
returns-in_err-report-clause-ends g c = λ done before did.
    let p = err_from_is_err_and c.from_residual-in_err-report.result c.from_residual-in_err-report.ensures.1 in
    rw (p.1, p.2) (ends_behind done (text_steps c.args.name.now None) report_steps before (g.D.Desk.state
    c.read_spectra.new.desk) _
    (memory_ends (done ++ text_steps c.args.name.now None) report_steps before (g.D.Desk.state c.read_spectra.new.desk)
    (c.in_ok-text.ensures.done done before did)))

pub returns-in_err-write_report-clause-ends : goal.returns-in_err-write_report-clause-ends
returns-in_err-write_report-clause-ends g c = λ done before did.
    let p = err_from_is_err_and c.from_residual-in_err-write_report.result
    c.from_residual-in_err-write_report.ensures.1 in
    rw (p.1, p.2) (ends_behind done (text_steps c.args.name.now None) report_steps before (g.D.Desk.state
    c.write_report.new.desk) _
    (c.in_err-write_report.ensures.ends (done ++ text_steps c.args.name.now None) before (c.in_ok-text.ensures.done
    done before did)))

pub returns-in_err-write_report-clause-text : goal.returns-in_err-write_report-clause-text
returns-in_err-write_report-clause-text g c =
    let p = err_from_is_err_and c.from_residual-in_err-write_report.result
    c.from_residual-in_err-write_report.ensures.1 in
    rw (p.1, p.2) (at_some ((g.D.Desk.state c.args.desk.now).gives c.args.name.now) _ (λ text told.
    let is = MatchOption-at_some _ _ text told c.in_ok-text.ensures.text in
    let whole = is ∙ sym c.deref.ensures.value in
    let part = c.in_err-write_report.ensures.part in
    partly_lists _ text (g.D.Desk.state c.write_report.new.desk) _ c.in_ok-report.fault c.deref-2.result.now part.0 _
    c.in_err-write_report.ensures.stop
    (subst (λ (t : List ℕ). length t ≤ greatest_text_of Spectra) (sym is) c.in_ok-text.ensures.short)
    (rw (whole, c.deref-2.ensures.value) c.in_ok-report.ensures)
    (c.read_spectra.ensures.unwritten Report refl) part.1))

pub returns-in-None-clause-ends : goal.returns-in-None-clause-ends
returns-in-None-clause-ends g c = λ done before did.
    ends_behind done (text_steps c.args.name.now None) report_steps before (g.D.Desk.state c.write_report.new.desk) Done
    (c.in_ok-write_report.ensures.ended (done ++ text_steps c.args.name.now None) before (c.in_ok-text.ensures.done
    done before did) Done refl)

pub returns-in-None-clause-text : goal.returns-in-None-clause-text
returns-in-None-clause-text g c =
    at_some ((g.D.Desk.state c.args.desk.now).gives c.args.name.now) _ (λ text told.
    let is = MatchOption-at_some _ _ text told c.in_ok-text.ensures.text in
    let whole = is ∙ sym c.deref.ensures.value in
    done_lists _ text (g.D.Desk.state c.write_report.new.desk) _ c.in_ok-report.fault c.deref-2.result.now c.in-None.is
    (rw (whole, c.deref-2.ensures.value) c.in_ok-report.ensures)
    (c.read_spectra.ensures.unwritten Report refl) c.in_ok-write_report.ensures.all)

pub returns-clause-ends : goal.returns-clause-ends
returns-clause-ends g c = λ done before did.
    ends_behind done (text_steps c.args.name.now None) report_steps before (g.D.Desk.state c.write_report.new.desk)
    (MgfRefused c.in-Some.fault)
    (c.in_ok-write_report.ensures.ended (done ++ text_steps c.args.name.now None) before (c.in_ok-text.ensures.done
    done before did)
    (MgfRefused c.in-Some.fault) refl)

pub returns-clause-text : goal.returns-clause-text
returns-clause-text g c =
    at_some ((g.D.Desk.state c.args.desk.now).gives c.args.name.now) _ (λ text told.
    let is = MatchOption-at_some _ _ text told c.in_ok-text.ensures.text in
    let whole = is ∙ sym c.deref.ensures.value in
    refused_lists _ text (g.D.Desk.state c.write_report.new.desk) _ c.in_ok-report.fault c.in-Some.fault
    c.deref-2.result.now c.in-Some.is
    (rw (whole, c.deref-2.ensures.value) c.in_ok-report.ensures)
    (c.read_spectra.ensures.unwritten Report refl) c.in_ok-write_report.ensures.all)
