use Rattle.std.proofs.Common.{◌≡◌, ◌∙◌, ◌<◌, ℤ, ◌+ℤ◌, length, ap, arith, of_z, to_z, w32, w64}
use Rattle.std.proofs.Math.ListN.{length-set}
use Rattle.std.proofs.lemmas.Int.{to_z-of_z}
use Rattle.tree_certificate.specs.Number.{number_in}
use Rattle.certificate_checker.proofs.Fits.{SFits-number, SFits-total}
use Rattle.certificate_checker.proofs.Raising.{set-more}
use Rattle.certificate_checker.proofs.gains.set_gains.Goals as goal

pub loop-place-preserved : goal.loop-place-preserved
loop-place-preserved c =
    let place = c.loop-place.place in
    let gains = c.loop-place.gains in
    let weight : ℤ = c.args.weight in
    let number : ℤ = number_in c.args.numbers.now place in
    let known = c.loop-place.invariant in
    let room : place < length gains = omega (arith, known.long, c.loop-place-test.true, c.requires.room) in
    let near = c.requires.numbers place c.loop-place-test.true in
    let weight_is = to_z-of_z w32 weight c.ranges.weight in
    let wide_is : to_z w64 (of_z w64 c.from.result) ≡ weight =
    to_z-of_z w64 c.from.result (record { sfits = c.from.type_inv }) ∙ c.from.ensures ∙ weight_is in
    let number_is = to_z-of_z w64 number (SFits-number number near) in
    let sum_is : to_z w64 (of_z w64 (to_z w64 (of_z w64 c.from.result) +ℤ to_z w64 (of_z w64 number)))
    ≡ weight +ℤ number =
    ap (λ n. to_z w64 (of_z w64 (n +ℤ to_z w64 (of_z w64 number)))) wide_is
    ∙ ap (λ n. to_z w64 (of_z w64 (weight +ℤ n))) number_is
    ∙ to_z-of_z w64 (weight +ℤ number) (SFits-total weight number c.requires.weight near) in
    rw (weight_is) (record {
      long = length-set gains place _ ∙ known.long;
      set = set-more gains c.args.numbers.now weight _ place room (rw weight_is at known.set) sum_is;
    })
