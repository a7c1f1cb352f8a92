use Rattle.std.proofs.Common.{◌≡◌, ◌∙◌, ap, of_z, rules, to_z, w64}
use Rattle.entry_checker.proofs.IsEntryVerdict.{gap_place_as}
use Rattle.entry_checker.proofs.entry.check_spending.Goals as goal

pub returns-in-Some : goal.returns-in-Some
returns-in-Some c =
    let score_is : to_z w64 (of_z w64 c.tree.inside.score) ≡ c.tree.inside.score = search rules in
    let upper_is : to_z w64 (of_z w64 c.tree.inside.upper) ≡ c.tree.inside.upper = search rules in
    gap_place_as c.args.built.now c.args.tree.now c.args.budget _ _ _ _ c.in-Some.place c.requires.before c.requires.gap
    c.requires.many c.requires.bound (ap (λ built. built.graph) c.built.view_is)
    (score_is ∙ ap (λ tree. tree.score) c.tree.view_is) (upper_is ∙ ap (λ tree. tree.upper) c.tree.view_is)
    (rw c.in-Some.is at c.in_ok-wrong.ensures)
