use Rattle.std.proofs.Common.{◌++◌, None, subst, sym}
use Rattle.run_plan.specs.Plan.{profile_steps, report_steps, text_steps}
use Rattle.order_words.specs.NamesOf.{names_of}
use Rattle.right_document.specs.RunSettings.{run_settings_of}
use Rattle.list_command.specs.ListPlan.{list_plan}
use Rattle.list_command.specs.ListPromise.{ListPromise, list_meaning}
use Rattle.run_plan.proofs.ProfilePromise.{taken_promise}
use Rattle.run_plan.proofs.TextPromise.{stopped_text, taken_text}
use Rattle.run_plan.specs.declared.status.Status.{Status}
use Rattle.run_plan.specs.ProfilePromise.{ProfilePromise}
use Rattle.run_plan.specs.Running.{Ends}
use Rattle.list_command.proofs.listing.list.Goals as goal

pub returns-in-Err-clause-promise : goal.returns-in-Err-clause-promise
returns-in-Err-clause-promise g c =
    stopped_text (λ profile text. list_meaning (run_settings_of profile (names_of c.args.names.now).adduct) text)
    (names_of c.args.names.now).profile (names_of c.args.names.now).spectra (g.D.Desk.state c.args.desk.now)
    (g.D.Desk.state c.take_profile.new.desk) c.in-Err.status
    (c.take_profile.ensures.unwritten (λ slot written. g.met.D.Desk.unbegun_is_empty c.args.desk.now slot written
    (c.requires slot)))
    c.in-Err.ensures.own c.in-Err.ensures.accepted

pub returns-in-Err-clause-ends : goal.returns-in-Err-clause-ends
returns-in-Err-clause-ends g c = c.in-Err.ensures.ends (text_steps (names_of c.args.names.now).spectra None ++
    report_steps)

pub returns-clause-promise : goal.returns-clause-promise
returns-clause-promise g c =
    subst (λ (status : Status). ListPromise (names_of c.args.names.now) (g.D.Desk.state c.args.desk.now)
    (g.D.Desk.state c.list_under.new.desk) status) (sym c.of.ensures)
    (taken_text (λ profile text. list_meaning (run_settings_of profile (names_of c.args.names.now).adduct) text)
    (names_of c.args.names.now).profile (names_of c.args.names.now).spectra (g.D.Desk.state c.args.desk.now)
    (g.D.Desk.state c.take_profile.new.desk) (g.D.Desk.state c.list_under.new.desk) _ _
    c.in-Ok.ensures.taken (c.in-Ok.ensures.done.gives _) c.list_under.ensures.text)

pub returns-clause-ends : goal.returns-clause-ends
returns-clause-ends g c =
    subst (λ (status : Status). Ends (list_plan (names_of c.args.names.now)) (g.D.Desk.state c.args.desk.now)
    (g.D.Desk.state c.list_under.new.desk) status) (sym c.of.ensures)
    (c.list_under.ensures.ends (profile_steps (names_of c.args.names.now).profile) (g.D.Desk.state c.args.desk.now)
    c.in-Ok.ensures.done)

pub returns-clause-profile : goal.returns-clause-profile
returns-clause-profile g c =
    subst (λ (status : Status). ProfilePromise (names_of c.args.names.now).profile (g.D.Desk.state c.args.desk.now)
    (g.D.Desk.state c.list_under.new.desk) status) (sym c.of.ensures)
    (taken_promise (names_of c.args.names.now).profile (g.D.Desk.state c.args.desk.now)
    (g.D.Desk.state c.list_under.new.desk) _ _ c.in-Ok.ensures.taken c.list_under.ensures.own)
