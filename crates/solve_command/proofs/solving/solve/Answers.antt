use Rattle.std.proofs.Common.{subst, sym}
use Rattle.run_plan.specs.Plan.{profile_steps}
use Rattle.order_words.specs.NamesOf.{document_names_of}
use Rattle.right_document.specs.SolveSettings.{solve_settings_of}
use Rattle.solve_command.specs.SolvePromise.{SolvePromise, solve_meaning}
use Rattle.run_plan.proofs.ProfilePromise.{taken_promise}
use Rattle.run_plan.proofs.TextPromise.{stopped_text, taken_text}
use Rattle.solve_command.specs.SolvePlan.{solve_plan, solve_steps_of}
use Rattle.run_plan.specs.declared.status.Status.{Status}
use Rattle.run_plan.specs.ProfilePromise.{ProfilePromise}
use Rattle.run_plan.specs.Running.{Ends}
use Rattle.solve_command.proofs.solving.solve.Goals as goal

pub returns-in-Err-clause-promise : goal.returns-in-Err-clause-promise
returns-in-Err-clause-promise g c =
    stopped_text (λ profile text. solve_meaning (solve_settings_of profile (document_names_of c.args.names.now).adduct)
    text)
    (document_names_of c.args.names.now).profile (document_names_of c.args.names.now).spectra
    (g.D.Desk.state c.args.desk.now)
    (g.D.Desk.state c.take_profile.new.desk) c.in-Err.status
    (c.take_profile.ensures.unwritten
    (λ slot written. g.met.D.Desk.unbegun_is_empty c.args.desk.now slot written (c.requires slot)))
    c.in-Err.ensures.own c.in-Err.ensures.accepted

pub returns-in-Err-clause-ends : goal.returns-in-Err-clause-ends
returns-in-Err-clause-ends g c =
    c.in-Err.ensures.ends
    (solve_steps_of (document_names_of c.args.names.now).spectra (document_names_of c.args.names.now).document)

pub returns-clause-promise : goal.returns-clause-promise
returns-clause-promise g c =
    subst (λ (status : Status). SolvePromise (document_names_of c.args.names.now) (g.D.Desk.state c.args.desk.now)
    (g.D.Desk.state c.solve_under.new.desk) status) (sym c.of.ensures)
    (taken_text (λ profile text. solve_meaning (solve_settings_of profile (document_names_of c.args.names.now).adduct)
    text)
    (document_names_of c.args.names.now).profile (document_names_of c.args.names.now).spectra
    (g.D.Desk.state c.args.desk.now)
    (g.D.Desk.state c.take_profile.new.desk) (g.D.Desk.state c.solve_under.new.desk) _ _
    c.in-Ok.ensures.taken (c.in-Ok.ensures.done.gives _) c.solve_under.ensures.text)

pub returns-clause-ends : goal.returns-clause-ends
returns-clause-ends g c =
    subst (λ (status : Status). Ends (solve_plan (document_names_of c.args.names.now)) (g.D.Desk.state c.args.desk.now)
    (g.D.Desk.state c.solve_under.new.desk) status) (sym c.of.ensures)
    (c.solve_under.ensures.ends (profile_steps (document_names_of c.args.names.now).profile)
    (g.D.Desk.state c.args.desk.now) c.in-Ok.ensures.done)

pub returns-clause-profile : goal.returns-clause-profile
returns-clause-profile g c =
    subst (λ (status : Status). ProfilePromise (document_names_of c.args.names.now).profile
    (g.D.Desk.state c.args.desk.now) (g.D.Desk.state c.solve_under.new.desk) status) (sym c.of.ensures)
    (taken_promise (document_names_of c.args.names.now).profile (g.D.Desk.state c.args.desk.now)
    (g.D.Desk.state c.solve_under.new.desk) _ _ c.in-Ok.ensures.taken c.solve_under.ensures.own)
