use Rattle.std.proofs.Common.{◌≡◌, ◌∙◌, ◌+◌, ◌<◌, ◌+ℤ◌, ◌≤ℤ◌, ℕ, ℤ, ap, arith, length, of_z, pos, sym, take, to_z, w64}
use Rattle.std.proofs.lemmas.Int.{ints, to_z-of_z}
use Rattle.std.proofs.lemmas.List.{take_more}
use Rattle.colour_graph.specs.Colourful.{total}
use Rattle.tree_certificate.specs.Number.{number_in}
use Rattle.certificate_checker.specs.inside.Gained.{IsPriceSum}
use Rattle.certificate_checker.proofs.CapOf.{total-push}
use Rattle.certificate_checker.proofs.Fits.{SFits-number}
use Rattle.certificate_checker.proofs.TableNumbers.{near-below}
use Rattle.certificate_checker.proofs.prices.sum_of.Goals as goal

pub loop-price-preserved : goal.loop-price-preserved
loop-price-preserved c =
    let prices = c.args.prices.now in
    let place = c.loop-price.price-index in
    let price = number_in prices place in
    let sum = to_z w64 c.loop-price.sum-bits in
    let within : place < length prices = c.loop-price-test.true in
    let price_is : to_z w64 (of_z w64 price) ≡ price =
    to_z-of_z w64 price (SFits-number price (near-below prices c.requires.near place within)) in
    let sum_is : to_z w64 (of_z w64 c.with_price-sum.result) ≡ sum +ℤ price =
    to_z-of_z w64 c.with_price-sum.result (record { sfits = c.with_price-sum.type_inv }) ∙ c.with_price-sum.ensures
    ∙ ap (λ n. sum +ℤ n) price_is in
    rw sum_is (record {
      so_far = ap (λ n. n +ℤ price) c.loop-price.invariant.so_far ∙ sym (total-push (take place prices) price)
          ∙ ap total (sym (take_more prices place (pos 0) within));
      near = with_one place sum price c.loop-price.invariant.near (c.requires.not_negative place (pos 0) within)
          (near-below prices c.requires.near place within).not_above;
    })
  where
    with_one : (count : ℕ) (sum price : ℤ) → IsPriceSum count sum → pos 0 ≤ℤ price → price ≤ℤ pos 1000000000000000
        → IsPriceSum (count + 1) (sum +ℤ price)
    with_one count sum price near low high =
        record { not_below = omega (arith, ints, near.not_below); not_above = omega (arith, ints, near.not_above) }
