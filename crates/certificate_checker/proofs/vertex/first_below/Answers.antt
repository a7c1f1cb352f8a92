use Rattle.std.proofs.Common.{◌+◌, ◌*◌, ◌<◌, length, refl, arith, w64}
use Rattle.std.proofs.lemmas.Int.{to_z-of_z}
use Rattle.tree_certificate.specs.Number.{number_in}
use Rattle.certificate_checker.proofs.FoundSets.{enough-next, set-in_row}
use Rattle.certificate_checker.proofs.Fits.{SFits-number, less-as, not_less-as}
use Rattle.certificate_checker.proofs.LeastEnough.{enough-none}
use Rattle.certificate_checker.proofs.vertex.first_below.Goals as goal

pub returns-then-row-place : goal.returns-then-row-place
returns-then-row-place c = λ gains none.
    let row = c.args.row.now in
    let own = c.args.own.now in
    let set = c.loop-set.set in
    let place = c.args.step * (1 + 2 * set) in
    let within : place < length row = set-in_row c.args.step set (length own)
    (length row) c.loop-set-test.true c.requires.step.0 c.requires.row in
    let held_is = to_z-of_z w64 (number_in row place)
    (SFits-number (number_in row place) (c.requires.held place within)) in
    let needed_is = to_z-of_z w64 (number_in own set)
    (SFits-number (number_in own set) (c.requires.numbers set c.loop-set-test.true)) in
    rw needed_is (record {
      set = set;
      counted = c.loop-set-test.true;
      place = refl;
      needed = λ colours at. enough-none own gains colours set
          (length own) at c.loop-set-test.true c.requires.numbers none;
      is_low = less-as _ _ (number_in row place) (number_in own set) held_is needed_is c.if-row-place.true;
      before = c.loop-set.invariant gains none;
    })

pub loop-set-preserved : goal.loop-set-preserved
loop-set-preserved c = λ gains none.
    let row = c.args.row.now in
    let own = c.args.own.now in
    let set = c.loop-set.set in
    let place = c.args.step * (1 + 2 * set) in
    let within : place < length row = set-in_row c.args.step set (length own)
    (length row) c.loop-set-test.true c.requires.step.0 c.requires.row in
    let held_is = to_z-of_z w64 (number_in row place)
    (SFits-number (number_in row place) (c.requires.held place within)) in
    let needed_is = to_z-of_z w64 (number_in own set)
    (SFits-number (number_in own set) (c.requires.numbers set c.loop-set-test.true)) in
    enough-next row own gains c.args.step set (number_in own set) (c.loop-set.invariant gains none)
    (λ colours at. enough-none own gains colours set (length own) at c.loop-set-test.true c.requires.numbers none)
    (not_less-as _ _ (number_in row place) (number_in own set) held_is needed_is c.if-row-place.false)

pub returns : goal.returns
returns c = λ gains none set within. c.loop-set.invariant gains none set (omega (arith, within, c.loop-set-test.false))
