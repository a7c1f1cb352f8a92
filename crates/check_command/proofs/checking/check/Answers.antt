use Rattle.std.proofs.Common.{subst, sym}
use Rattle.check_command.specs.CheckPromise.{CheckPromise}
use Rattle.run_plan.specs.Plan.{profile_steps}
use Rattle.order_words.specs.NamesOf.{document_names_of}
use Rattle.check_command.proofs.CheckPromise.{taken_check}
use Rattle.run_plan.proofs.ProfilePromise.{taken_promise}
use Rattle.check_command.specs.CheckPlan.{check_plan, check_steps_of}
use Rattle.run_plan.specs.declared.status.Status.{Status}
use Rattle.run_plan.specs.ProfilePromise.{ProfilePromise}
use Rattle.run_plan.specs.Running.{Ends}
use Rattle.check_command.proofs.checking.check.Goals as goal

pub returns-in-Err-clause-ends : goal.returns-in-Err-clause-ends
returns-in-Err-clause-ends g c =
    c.in-Err.ensures.ends
    (check_steps_of (document_names_of c.args.names.now).spectra (document_names_of c.args.names.now).document)

pub returns-clause-promise : goal.returns-clause-promise
returns-clause-promise g c =
    subst (λ (status : Status). CheckPromise (document_names_of c.args.names.now) (g.D.Desk.state c.args.desk.now)
    (g.D.Desk.state c.check_under.new.desk) status) (sym c.of.ensures)
    (taken_check (document_names_of c.args.names.now) (g.D.Desk.state c.args.desk.now)
    (g.D.Desk.state c.take_profile.new.desk)
    (g.D.Desk.state c.check_under.new.desk) _ _ c.in-Ok.ensures.taken (c.in-Ok.ensures.done.gives _)
    (c.in-Ok.ensures.done.gives _)
    c.check_under.ensures.texts)

pub returns-clause-ends : goal.returns-clause-ends
returns-clause-ends g c =
    subst (λ (status : Status). Ends (check_plan (document_names_of c.args.names.now)) (g.D.Desk.state c.args.desk.now)
    (g.D.Desk.state c.check_under.new.desk) status) (sym c.of.ensures)
    (c.check_under.ensures.ends (profile_steps (document_names_of c.args.names.now).profile)
    (g.D.Desk.state c.args.desk.now) c.in-Ok.ensures.done)

pub returns-clause-profile : goal.returns-clause-profile
returns-clause-profile g c =
    subst (λ (status : Status). ProfilePromise (document_names_of c.args.names.now).profile
    (g.D.Desk.state c.args.desk.now) (g.D.Desk.state c.check_under.new.desk) status) (sym c.of.ensures)
    (taken_promise (document_names_of c.args.names.now).profile (g.D.Desk.state c.args.desk.now)
    (g.D.Desk.state c.check_under.new.desk) _ _ c.in-Ok.ensures.taken c.check_under.ensures.own)
