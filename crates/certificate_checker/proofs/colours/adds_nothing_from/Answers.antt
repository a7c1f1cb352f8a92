use Rattle.std.proofs.Common.{◌-◌, ◌<◌, ℕ, length, arith, w64}
use Rattle.std.proofs.lemmas.Int.{to_z-of_z}
use Rattle.tree_certificate.specs.Number.{number_in}
use Rattle.certificate_checker.proofs.Fits.{SFits-gain, SFits-number}
use Rattle.certificate_checker.proofs.UsefulColours.{adds_nothing-more}
use Rattle.certificate_checker.proofs.colours.adds_nothing_from.Goals as goal

pub loop-place-preserved : goal.loop-place-preserved
loop-place-preserved c =
    let own = c.args.own.now in
    let gains = c.args.gains.now in
    let place = c.loop-place.place in
    let colour = c.args.colour in
    let in_own : place < length own = omega (arith, c.loop-place-test.true, c.requires.block.1) in
    let in_gains : place < length gains = omega (arith, in_own, c.requires.room) in
    let less : place - colour < length own = omega (arith, in_own) in
    let gain_is = λ (p : ℕ) (within : p < length own).
    to_z-of_z w64 (number_in gains p) (SFits-gain (number_in gains p) (c.requires.gains p within)) in
    let number_is = λ (p : ℕ) (within : p < length own).
    to_z-of_z w64 (number_in own p) (SFits-number (number_in own p) (c.requires.numbers p within)) in
    let gained = gain_is (place - colour) less in
    let left = number_is (place - colour) less in
    adds_nothing-more own gains c.args.base place colour c.loop-place.invariant
    (rw (gain_is place in_own, gained, number_is place in_own, left) at
    (c.is_no_gain.ensures c.if-not-is_no_gain.false))
