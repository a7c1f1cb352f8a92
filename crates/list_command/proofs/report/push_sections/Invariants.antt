use Rattle.std.proofs.Common.{length}
use Rattle.right_document.specs.SettingsOf.{settings_value_of}
use Rattle.list_command.proofs.IsReport.{Pushed}
use Rattle.list_command.proofs.report.push_sections.Given as goal

abbrev pub invariant-loop-spectrum : goal.invariant-loop-spectrum
invariant-loop-spectrum g l = Pushed (settings_value_of l.initial.settings) l.initial.reader.waiting l.reader.waiting
    l.initial.report.items l.report.items

abbrev pub decreases-loop-spectrum : goal.decreases-loop-spectrum
decreases-loop-spectrum g l = length l.reader.waiting
