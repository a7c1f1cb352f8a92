use Rattle.std.proofs.Common.{IfSome, subst}
use Rattle.right_document.specs.RunSettings.{RunSettingsValue}
use Rattle.run_plan.specs.TextPromise.{OwesText}
use Rattle.run_plan.specs.Running.{status_of}
use Rattle.list_command.specs.ListPromise.{list_meaning}
use Rattle.list_command.proofs.listing.list_under.Goals as goal

pub returns-3-clause-text : goal.returns-3-clause-text
returns-3-clause-text g c =
    subst (λ (settings : RunSettingsValue). IfSome ((g.D.Desk.state c.args.desk.now).gives c.args.name.now) (λ text.
    OwesText (list_meaning settings text) text (g.D.Desk.state c.list_steps.new.desk) (status_of c.list_steps.result)))
    c.run_settings-settings.ensures.value c.list_steps.ensures.text
