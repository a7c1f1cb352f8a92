use Rattle.right_document.specs.SettingsOf.{solve_settings_value_of}
use Rattle.check_command.proofs.AreTreesAnswer.{AreRightSoFar}
use Rattle.check_command.proofs.trees.trees_place.Given as goal

abbrev pub invariant-loop-place : goal.invariant-loop-place
invariant-loop-place g l = AreRightSoFar (solve_settings_value_of l.settings) l.lists l.entries l.place l.first
