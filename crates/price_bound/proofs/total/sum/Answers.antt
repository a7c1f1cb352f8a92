use Rattle.std.proofs.Common.{◌≡◌, ◌+◌, ◌≤◌, ◌+ℤ◌, ℤ, arith, ap, sym, ◌∙◌, to_z, of_z, w64}
use Rattle.std.proofs.lemmas.Int.{to_z-of_z}
use Rattle.tree_certificate.specs.Number.{number_in}
use Rattle.price_bound.proofs.Totals.{IsNear-at, IsSumNear-more, SFits-near, SFits-sum, total-more}
use Rattle.price_bound.proofs.total.sum.Goals as goal

pub loop-number-preserved : goal.loop-number-preserved
loop-number-preserved c =
    let numbers = c.args.numbers.now in
    let place = c.loop-number.number-index in
    let number : ℤ = number_in numbers place in
    let sum : ℤ = to_z w64 c.loop-number.sum-bits in
    let near = IsNear-at numbers place c.requires.near c.loop-number-test.true in
    let more = IsSumNear-more sum number place c.loop-number.invariant.near near in
    let few : place + 1 ≤ 4098 = omega (arith, c.requires.few, c.loop-number-test.true) in
    let is : to_z w64 (of_z w64 (sum +ℤ to_z w64 (of_z w64 number))) ≡ sum +ℤ number =
    ap (λ n. to_z w64 (of_z w64 (sum +ℤ n))) (to_z-of_z w64 number (SFits-near number near))
    ∙ to_z-of_z w64 (sum +ℤ number) (SFits-sum (sum +ℤ number) (place + 1) more few) in
    rw is (record {
      so_far = ap (λ n. n +ℤ number) c.loop-number.invariant.so_far
          ∙ sym (total-more numbers place c.loop-number-test.true);
      near = more;
    })
