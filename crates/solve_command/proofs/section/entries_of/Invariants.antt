use Rattle.std.proofs.Common.{◌≡◌, map, take}
use Rattle.std.specs.List.{All}
use Rattle.tree_document.specs.Document.{AreGoodLines, entry_lines}
use Rattle.right_document.specs.RightSection.{IsRightEntry}
use Rattle.right_document.specs.SettingsOf.{solve_settings_value_of}
use Rattle.solve_command.proofs.section.entries_of.Given as goal

abbrev pub invariant-loop-candidate : goal.invariant-loop-candidate
invariant-loop-candidate g l = record {
  right : All (IsRightEntry (solve_settings_value_of l.settings) l.lists) l.entries.items;
  good : All (λ entry. AreGoodLines (entry_lines entry)) l.entries.items;
  candidates : map (λ entry. entry.candidate) l.entries.items ≡ take l.candidate-index l.candidates;
}
