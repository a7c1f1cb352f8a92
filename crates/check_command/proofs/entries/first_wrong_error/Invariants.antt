use Rattle.std.proofs.Common.{take}
use Rattle.std.specs.List.{All}
use Rattle.right_document.specs.RightSection.{ErrorIsRight}
use Rattle.right_document.specs.SettingsOf.{solve_settings_value_of}
use Rattle.check_command.proofs.entries.first_wrong_error.Given as goal

abbrev pub invariant-loop-place : goal.invariant-loop-place
invariant-loop-place g l = All (ErrorIsRight (solve_settings_value_of l.settings) l.lists) (take l.place l.entries)
