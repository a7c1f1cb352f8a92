use Rattle.std.proofs.Common.{◌≡◌, ◌/◌, ◌%◌, ap, sym, ◌∙◌, arith, length}
use Rattle.std.proofs.lemmas.List.{length-set}
use Rattle.subset_tree.proofs.Places.{given_more, halved}
use Rattle.subset_tree.proofs.rebuilding.give.Goals as goal
use Rattle.subset_tree.proofs.rebuilding.give.Goals.{else-left-eq1, then-left-eq1}

pub loop-owner-preserved : goal.loop-owner-preserved
loop-owner-preserved c = record {
  left = λ set at. ap (λ n. n / 2) (c.loop-owner.invariant.left set at) ∙ halved set c.loop-owner.owner-index;
  given = λ set at long.
      let same : length set ≡ length c.loop-owner.owners = long
      ∙ length-set c.loop-owner.owners c.loop-owner.owner-index c.if-left-eq1.owner in
      given_more set c.args.vertex c.loop-owner.owners c.loop-owner.owner-index c.if-left-eq1.owner
      (omega (arith, c.loop-owner-test.true, c.loop-owner.auto.owners)) same
      (λ odd. elim c.if-left-eq1.branch [
        | then-left-eq1 w ↦ w.owner-is
        | else-left-eq1 w ↦ absurd (w.if-left-eq1.false (ap (λ n. n % 2) (c.loop-owner.invariant.left set at) ∙ odd))
      ])
      (λ even. elim c.if-left-eq1.branch [
        | then-left-eq1 w ↦ absurd (even (ap (λ n. n % 2) (sym (c.loop-owner.invariant.left set at))
            ∙ w.if-left-eq1.true))
        | else-left-eq1 w ↦ w.owner-is
      ])
      ∙ c.loop-owner.invariant.given set at same;
}
