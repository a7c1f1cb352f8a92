use Rattle.std.proofs.Common.{◌<◌, ℤ, length, arith, refl, w32, w64, ◌∙◌}
use Rattle.std.proofs.Math.ListN.{length-set}
use Rattle.std.proofs.lemmas.Int.{to_z-of_z}
use Rattle.tree_certificate.specs.Enough.{IsRaised}
use Rattle.tree_certificate.specs.Number.{number_in}
use Rattle.subset_tree.proofs.Sums.{fits-gains, fits-modest}
use Rattle.tree_certificate.proofs.PartWalk.{raised-as}
use Rattle.subset_tree.proofs.Widening.{gains-more, raised-more, rest-more}
use Rattle.subset_tree.proofs.table.raise_gains.Goals as goal

pub loop-place-preserved : goal.loop-place-preserved
loop-place-preserved c =
    let place = c.loop-place.place in
    let gains = c.loop-place.gains in
    let old = c.args.gains.now in
    let numbers = c.args.numbers.now in
    let weight : ℤ = c.args.weight in
    let known = c.loop-place.invariant in
    let few : place < 4096 = omega (arith, c.loop-place-test.true, c.requires.few) in
    let room : place < length gains = omega (arith, known.long, c.loop-place-test.true, c.requires.room) in
    let weight_is = to_z-of_z w32 weight c.ranges.weight in
    let gain_is = to_z-of_z w64 c.from-gain.result (record { sfits = c.from-gain.type_inv }) in
    let before_is = to_z-of_z w64 (number_in gains place) (fits-gains gains place known.near few) in
    let number_is = to_z-of_z w64 (number_in numbers place) (fits-modest numbers place c.requires.numbers few) in
    let more_is = to_z-of_z w64 c.raised.result (record { sfits = c.raised.type_inv }) in
    let is : IsRaised c.raised.result (number_in gains place) weight (number_in numbers place) =
    raised-as _ _ _ _ _ _ _ _ refl before_is (gain_is ∙ c.from-gain.ensures ∙ weight_is) number_is c.raised.ensures in
    let is_old : IsRaised c.raised.result (number_in old place) weight (number_in numbers place) =
    raised-as _ _ _ _ weight _ (number_in numbers place) _ refl (known.rest place (omega arith)) refl refl is in
    rw (more_is, weight_is) (record {
      long = length-set gains place c.raised.result ∙ known.long;
      done = raised-more gains old numbers weight c.raised.result place room (rw weight_is at known.done) is_old;
      rest = rest-more gains old c.raised.result place known.rest;
      near = gains-more gains numbers weight c.raised.result place room known.near c.requires.numbers
          c.requires.weight.1 is;
    })
