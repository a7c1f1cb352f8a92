use Rattle.std.proofs.Common.{◌≡◌, ◌++◌, drop}
use Rattle.right_document.specs.Candidates.{candidates_of}
use Rattle.right_document.specs.SettingsOf.{solve_settings_value_of}
use Rattle.right_document.proofs.candidate_list.candidates.Given as goal

abbrev pub invariant-loop-formula : goal.invariant-loop-formula
invariant-loop-formula g l =
    l.candidates.items ++ candidates_of (solve_settings_value_of l.settings) (drop l.formula-index l.formulas)
    ≡ candidates_of (solve_settings_value_of l.settings) l.formulas
