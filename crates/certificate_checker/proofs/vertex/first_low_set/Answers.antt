use Rattle.std.proofs.Common.{◌+◌, ◌*◌, ◌<◌, length, arith, bit_and, refl, w64}
use Rattle.std.proofs.lemmas.Int.{to_z-of_z}
use Rattle.tree_certificate.specs.Number.{number_in}
use Rattle.certificate_checker.proofs.FoundSets.{enough-next, set-in_row}
use Rattle.certificate_checker.proofs.IdleColours.{enough-told}
use Rattle.certificate_checker.proofs.Fits.{SFits-number, at_most-as, less-as, not_less-as}
use Rattle.certificate_checker.proofs.vertex.first_low_set.Goals as goal

pub returns-then-not-any : goal.returns-then-not-any
returns-then-not-any c = c.first_below.ensures c.args.gains.now (c.requires.none c.if-not-any.true)

pub returns-then-row-place : goal.returns-then-row-place
returns-then-row-place c =
    let row = c.args.row.now in
    let place = c.args.step * (1 + 2 * c.loop-set.set) in
    let within : place < length row = set-in_row c.args.step c.loop-set.set (length c.args.own.now)
    (length row) c.loop-set-test.true c.requires.step.0 c.requires.row in
    let held_is = to_z-of_z w64 (number_in row place)
    (SFits-number (number_in row place) (c.requires.held place within)) in
    let needed_is = to_z-of_z w64 c.least_enough-needed.result (record { sfits = c.least_enough-needed.type_inv }) in
    rw needed_is (record {
      set = c.loop-set.set;
      counted = c.loop-set-test.true;
      place = refl;
      needed = c.least_enough-needed.ensures;
      is_low = less-as _ _ (number_in row place) c.least_enough-needed.result held_is needed_is c.if-row-place.true;
      before = c.loop-set.invariant;
    })

pub loop-set-preserved : goal.loop-set-preserved
loop-set-preserved c =
    let row = c.args.row.now in
    let place = c.args.step * (1 + 2 * c.loop-set.set) in
    let within : place < length row = set-in_row c.args.step c.loop-set.set (length c.args.own.now)
    (length row) c.loop-set-test.true c.requires.step.0 c.requires.row in
    let held_is = to_z-of_z w64 (number_in row place)
    (SFits-number (number_in row place) (c.requires.held place within)) in
    let needed_is = to_z-of_z w64 c.least_enough-needed.result (record { sfits = c.least_enough-needed.type_inv }) in
    enough-next row c.args.own.now c.args.gains.now c.args.step c.loop-set.set c.least_enough-needed.result
    c.loop-set.invariant c.least_enough-needed.ensures
    (not_less-as _ _ (number_in row place) c.least_enough-needed.result held_is needed_is c.if-row-place.false)

pub loop-set-preserved-then-row-step : goal.loop-set-preserved-then-row-step
loop-set-preserved-then-row-step c =
    let row = c.args.row.now in
    let own = c.args.own.now in
    let set = c.loop-set.set in
    let part = bit_and set c.colours_of-colours.result.telling in
    let place = c.args.step * (1 + 2 * set) in
    let other = c.args.step * (1 + 2 * part) in
    let less : part < set = c.if-part-set.true in
    let within : place < length row = set-in_row c.args.step set (length own)
    (length row) c.loop-set-test.true c.requires.step.0 c.requires.row in
    let also : other < length row = set-in_row c.args.step part (length own) (length row)
    (omega (arith, less, c.loop-set-test.true)) c.requires.step.0 c.requires.row in
    let held_is = to_z-of_z w64 (number_in row place)
    (SFits-number (number_in row place) (c.requires.held place within)) in
    let other_is = to_z-of_z w64 (number_in row other)
    (SFits-number (number_in row other) (c.requires.held other also)) in
    enough-told row own c.args.gains.now c.args.step
    (length own) c.colours_of-colours.result.telling set part c.colours_of-colours.ensures.telling
    c.loop-set-test.true refl less c.loop-set.invariant
    (at_most-as _ _ (number_in row other) (number_in row place) other_is held_is c.if-row-step.true)
