use Rattle.std.proofs.Common.{Err, ap}
use Rattle.right_document.specs.SettingsOf.{solve_settings_value_of}
use Rattle.check_command.proofs.IsFinding.{found_over, found_too_large, if_ok}
use Rattle.check_command.proofs.trees.finding_of.Goals as goal

pub returns-in-Ok : goal.returns-in-Ok
returns-in-Ok g c =
    let entry = c.args.entry.now in
    if_ok _ (found_over (solve_settings_value_of c.args.settings.now) c.args.lists.now entry.candidate entry.error
    c.in-Ok.built c.in-Ok.ensures.exactly c.in-Ok.ensures.small entry.outcome) c.finding_over.ensures

pub returns-in-Err : goal.returns-in-Err
returns-in-Err g c =
    let entry = c.args.entry.now in
    if_ok _ (found_too_large (solve_settings_value_of c.args.settings.now) c.args.lists.now entry.candidate entry.error
    c.in-Err.fault (λ n is. c.in-Err.ensures.too_large n (ap Err is)) entry.outcome) c.size_finding.ensures
