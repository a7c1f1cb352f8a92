use Rattle.std.proofs.Common.{◌≡◌, ◌∙◌, ◌↔◌, ℤ, ap, of_z, rules, sym, to_z, w64}
use Rattle.std.proofs.lemmas.Bool.{false≢true}
use Rattle.tree_document.specs.declared.entry.Mark as mark
use Rattle.tree_entry.specs.EntryIsRight.{MarkFits}
use Rattle.entry_checker.specs.EntryPlaces.{UpperIsCapped}
use Rattle.entry_checker.proofs.entry.wrong_number.Goals as goal

-- a mark fits under other names
fits_as : (one other : mark.Mark) (score upper its_score its_upper : ℤ) → one ≡ other → score ≡ its_score
    → upper ≡ its_upper
    → MarkFits one score upper ↔ MarkFits other its_score its_upper
fits_as one other score upper its_score its_upper same equal bound = (
  λ fits. rw (← same, ← equal, ← bound) fits,
  λ fits. rw (same, equal, bound) fits,
)

pub returns-then-not-fits_mark : goal.returns-then-not-fits_mark
returns-then-not-fits_mark c budget =
    let score_is : to_z w64 (of_z w64 c.tree.inside.score) ≡ c.tree.inside.score = search rules in
    let upper_is : to_z w64 (of_z w64 c.tree.inside.upper) ≡ c.tree.inside.upper = search rules in
    let same_mark = fits_as c.tree.inside.mark c.args.tree.now.mark _ _ c.args.tree.now.score c.args.tree.now.upper
    (ap (λ tree. tree.mark) c.tree.view_is) (score_is ∙ ap (λ tree. tree.score) c.tree.view_is)
    (upper_is ∙ ap (λ tree. tree.upper) c.tree.view_is) in
    let capped : UpperIsCapped c.args.built.now c.args.tree.now = rw c.in_default-2.is at c.in_ok-place.ensures in
    (capped, λ fits. false≢true (sym c.if-not-fits_mark.true ∙ c.fits_mark.ensures.1 (same_mark.1 fits)))

pub returns : goal.returns
returns c =
    let score_is : to_z w64 (of_z w64 c.tree.inside.score) ≡ c.tree.inside.score = search rules in
    let upper_is : to_z w64 (of_z w64 c.tree.inside.upper) ≡ c.tree.inside.upper = search rules in
    let same_mark = fits_as c.tree.inside.mark c.args.tree.now.mark _ _ c.args.tree.now.score c.args.tree.now.upper
    (ap (λ tree. tree.mark) c.tree.view_is) (score_is ∙ ap (λ tree. tree.score) c.tree.view_is)
    (upper_is ∙ ap (λ tree. tree.upper) c.tree.view_is) in
    let capped : UpperIsCapped c.args.built.now c.args.tree.now = rw c.in_default-2.is at c.in_ok-place.ensures in
    record { before = capped; mark = same_mark.0 (c.fits_mark.ensures.0 c.if-not-fits_mark.false) }
