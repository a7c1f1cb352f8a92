use Rattle.std.proofs.Common.{◌<◌, ℤ, length, arith, refl, w32, w64, ◌∙◌}
use Rattle.std.proofs.Math.ListN.{length-set, set}
use Rattle.std.proofs.lemmas.Int.{to_z-of_z}
use Rattle.tree_certificate.specs.Enough.{IsRaised}
use Rattle.tree_certificate.specs.Number.{number_in}
use Rattle.certificate_checker.specs.inside.Enough.{AreGainsBelow}
use Rattle.certificate_checker.proofs.Fits.{SFits-gain, SFits-number}
use Rattle.tree_certificate.proofs.PartWalk.{raised-as}
use Rattle.certificate_checker.proofs.Raising.{gains-more, raised-more, rest-more}
use Rattle.certificate_checker.proofs.gains.raise_gains.Goals as goal

pub loop-place-preserved : goal.loop-place-preserved
loop-place-preserved c =
    let place = c.loop-place.place in
    let gains = c.loop-place.gains in
    let old = c.args.gains.now in
    let numbers = c.args.numbers.now in
    let weight : ℤ = c.args.weight in
    let known = c.loop-place.invariant in
    let in_numbers : place < length numbers = c.loop-place-test.true in
    let room : place < length gains = omega (arith, known.long, c.loop-place-test.true, c.requires.room) in
    let weight_is = to_z-of_z w32 weight c.ranges.weight in
    let before_is = to_z-of_z w64 (number_in gains place)
    (SFits-gain (number_in gains place) (known.near place room)) in
    let number_is = to_z-of_z w64 (number_in numbers place)
    (SFits-number (number_in numbers place) (c.requires.numbers place in_numbers)) in
    let more_is = to_z-of_z w64 c.raised_by.result (record { sfits = c.raised_by.type_inv }) in
    let is : IsRaised c.raised_by.result (number_in gains place) weight (number_in numbers place) =
    raised-as _ _ _ _ _ _ _ _ refl before_is weight_is number_is c.raised_by.ensures.greater in
    let is_old : IsRaised c.raised_by.result (number_in old place) weight (number_in numbers place) =
    raised-as _ _ _ _ weight _ (number_in numbers place) _ refl (known.rest place (omega arith)) refl refl is in
    let near : AreGainsBelow (set gains place c.raised_by.result) (length (set gains place c.raised_by.result)) =
    rw (length-set gains place c.raised_by.result)
    (gains-more gains c.raised_by.result place (length gains) room known.near c.raised_by.ensures.near) in
    rw (more_is, weight_is) (record {
      long = length-set gains place c.raised_by.result ∙ known.long;
      raised = raised-more gains old numbers weight c.raised_by.result place room (rw weight_is at known.raised) is_old;
      rest = rest-more gains old c.raised_by.result place known.rest;
      near = near;
    })
