use Rattle.std.proofs.Common.{◌≡◌, ◌∙◌, ◌*◌, ◌<◌, ℕ, length, arith, mul_comm, w64}
use Rattle.std.proofs.Math.ListN.{length-set}
use Rattle.std.proofs.Math.Nat.{mul-lt-mul_of_pos_left}
use Rattle.std.proofs.lemmas.Int.{to_z-of_z}
use Rattle.tree_certificate.specs.Number.{number_in}
use Rattle.certificate_checker.proofs.Fits.{SFits-number}
use Rattle.certificate_checker.proofs.Raising.{copied-more}
use Rattle.certificate_checker.proofs.gains.copy_numbers.Goals as goal

within : (step place count long : ℕ) → place < count → 0 < step → count * step ≡ long → step * place < long
within step place count long below some is =
    let product : step * place < step * count = mul-lt-mul_of_pos_left below some in
    let turned : step * count ≡ count * step = mul_comm step count in
    omega (arith, product, turned, is)

pub bounds-row-step : goal.bounds-row-step
bounds-row-step c = within c.args.step c.loop-place.place (length c.args.own.now) (length c.args.row.now)
    (omega arith) c.requires.step.0 c.requires.room

pub loop-place-preserved : goal.loop-place-preserved
loop-place-preserved c =
    let row = c.args.row.now in
    let step = c.args.step in
    let place = c.loop-place.place in
    let room : place < length c.loop-place.own = omega (arith, c.loop-place.invariant.long) in
    let in_row : step * place < length row =
    within step place (length c.args.own.now) (length row) (omega arith) c.requires.step.0 c.requires.room in
    let number_is = to_z-of_z w64 (number_in row (step * place))
    (SFits-number (number_in row (step * place)) (c.requires.numbers (step * place) in_row)) in
    record {
      long = length-set c.loop-place.own place _ ∙ c.loop-place.invariant.long;
      copied = copied-more c.loop-place.own row step place _ room number_is c.loop-place.invariant.copied;
    }
