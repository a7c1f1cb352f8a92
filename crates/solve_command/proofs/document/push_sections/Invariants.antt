use Rattle.std.proofs.Common.{length}
use Rattle.right_document.specs.SettingsOf.{solve_settings_value_of}
use Rattle.solve_command.proofs.MadeSections.{Made}
use Rattle.solve_command.proofs.document.push_sections.Given as goal

abbrev pub invariant-loop-spectrum : goal.invariant-loop-spectrum
invariant-loop-spectrum g l =
    Made (solve_settings_value_of l.initial.settings) l.initial.reader.waiting l.reader.waiting l.initial.document.items
    l.document.items l.initial.report.items l.report.items

abbrev pub decreases-loop-spectrum : goal.decreases-loop-spectrum
decreases-loop-spectrum g l = length l.reader.waiting
