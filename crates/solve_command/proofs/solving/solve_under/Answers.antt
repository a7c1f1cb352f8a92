use Rattle.std.proofs.Common.{IfSome, subst}
use Rattle.right_document.specs.SolveSettings.{SolveSettingsValue}
use Rattle.run_plan.specs.TextPromise.{OwesText}
use Rattle.run_plan.specs.Running.{status_of}
use Rattle.solve_command.specs.SolvePromise.{solve_meaning}
use Rattle.solve_command.proofs.solving.solve_under.Goals as goal

pub returns-3-clause-text : goal.returns-3-clause-text
returns-3-clause-text g c =
    subst (λ (settings : SolveSettingsValue). IfSome
    ((g.D.Desk.state c.args.desk.now).gives c.args.names.now.spectra.now) (λ text.
    OwesText (solve_meaning settings text) text (g.D.Desk.state c.solve_steps.new.desk)
    (status_of c.solve_steps.result)))
    c.solve_settings-settings.ensures.value c.solve_steps.ensures.text
