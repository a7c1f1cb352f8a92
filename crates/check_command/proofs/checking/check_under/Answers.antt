use Rattle.std.proofs.Common.{IfSome, subst}
use Rattle.right_document.specs.SolveSettings.{SolveSettingsValue}
use Rattle.run_plan.specs.TextPromise.{OwesText}
use Rattle.check_command.specs.CheckPromise.{check_meaning}
use Rattle.run_plan.specs.Running.{status_of}
use Rattle.check_command.proofs.checking.check_under.Goals as goal

pub returns-3-clause-texts : goal.returns-3-clause-texts
returns-3-clause-texts g c =
    subst (λ (settings : SolveSettingsValue). IfSome
    ((g.D.Desk.state c.args.desk.now).gives c.args.names.now.spectra.now) (λ text.
    IfSome ((g.D.Desk.state c.args.desk.now).gives c.args.names.now.document.now) (λ bytes.
    OwesText (check_meaning settings text bytes) text (g.D.Desk.state c.check_steps.new.desk)
    (status_of c.check_steps.result))))
    c.solve_settings-settings.ensures.value c.check_steps.ensures.texts
