use Rattle.std.proofs.Common.{List, ℕ, arith, sym, subst}
use Rattle.std.proofs.lemmas.Grind.{common_steps}
use Rattle.std.proofs.lemmas.List.Elements.{All-push, All-same}
use Rattle.loss_graph.specs.Lists.{AreLists}
use Rattle.tree_document.specs.Document.{AreGoodLines, entry_lines}
use Rattle.right_document.specs.Candidates.{ion_of}
use Rattle.right_document.specs.RightSection.{IsRightEntry}
use Rattle.right_document.specs.SettingsOf.{solve_settings_value_of}
use Rattle.solve_command.proofs.section.entries_of.Goals as goal

pub entry_of-requires-clause-lists : goal.entry_of-requires-clause-lists
entry_of-requires-clause-lists g c =
    let settings = solve_settings_value_of c.args.settings.now in
    subst (λ (candidate : List ℕ). AreLists settings.listing.choice (ion_of settings candidate) c.args.lists.now)
    (sym c.candidate-item.is)
    (c.requires.lists c.loop-candidate.candidate-index c.candidate-item.result c.loop-candidate-test.true)

pub loop-candidate-preserved : goal.loop-candidate-preserved
loop-candidate-preserved g c = record {
  right = All-same (IsRightEntry (solve_settings_value_of c.args.settings.now) c.args.lists.now) _ _
      c.in_ok-push.ensures.items
      (All-push (IsRightEntry (solve_settings_value_of c.args.settings.now) c.args.lists.now) _ _
      c.loop-candidate.invariant.right c.in_ok-entry.ensures.entry);
  good = All-same (λ entry. AreGoodLines (entry_lines entry)) _ _ c.in_ok-push.ensures.items
      (All-push (λ entry. AreGoodLines (entry_lines entry)) _ _ c.loop-candidate.invariant.good
      c.in_ok-entry.ensures.good);
  candidates = grind (arith, common_steps);
}
