use Rattle.std.proofs.Common.{length}
use Rattle.right_document.specs.SettingsOf.{solve_settings_value_of}
use Rattle.check_command.proofs.IsSectionsPlace.{Compared}
use Rattle.check_command.proofs.document.first_wrong_section.Given as goal

abbrev pub invariant-loop-spectrum : goal.invariant-loop-spectrum
invariant-loop-spectrum g l =
    Compared (solve_settings_value_of l.initial.settings) l.initial.reader.waiting l.reader.waiting l.sections l.number

abbrev pub decreases-loop-spectrum : goal.decreases-loop-spectrum
decreases-loop-spectrum g l = length l.reader.waiting
