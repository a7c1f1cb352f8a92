use Rattle.std.proofs.Common.{◌≡◌, ◌+◌, ◌-◌, ◌*◌, ◌<◌, ℤ, length, slice_set, arith, refl, to_z, of_z, w64, ◌∙◌}
use Rattle.std.proofs.Math.ListN.{length-set}
use Rattle.std.proofs.lemmas.Int.{to_z-of_z}
use Rattle.tree_certificate.specs.Number.{number_in}
use Rattle.subset_tree.proofs.Sums.{fits-modest}
use Rattle.subset_tree.proofs.Widening.{IsSpread, IsSpread-set, below-spread, grown-spread, kept-spread, modest-spread}
use Rattle.subset_tree.proofs.Widening.{number_in-other}
use Rattle.subset_tree.proofs.table.widen.Goals as goal

pub loop-set-preserved : goal.loop-set-preserved
loop-set-preserved c =
    let set = c.loop-set.set - 1 in
    let numbers = c.loop-set.numbers in
    let old = c.args.numbers.now in
    let gains = c.args.gains.now in
    let number : ℤ = c.least_enough-number.result in
    let known = c.loop-set.invariant in
    let room : 2 * set + 1 < length numbers =
    omega (arith, known.long, known.within, c.requires.room, c.loop-set-test.true) in
    let few : set < 4096 = omega (arith, room, known.long, c.requires.few) in
    let number_is = to_z-of_z w64 number (record { sfits = c.least_enough-number.type_inv }) in
    let moved_is : to_z w64 (of_z w64 (number_in (slice_set numbers (2 * set + 1) number) set))
    ≡ number_in numbers set =
    rw (number_in-other numbers (2 * set + 1) set number (omega arith))
    (to_z-of_z w64 (number_in numbers set) (fits-modest numbers set known.modest few)) in
    let long : length (slice_set numbers (2 * set + 1) number) ≡ length numbers =
    length-set numbers (2 * set + 1) number in
    let spread : IsSpread numbers (slice_set (slice_set numbers (2 * set + 1) number) (2 * set) (number_in numbers set))
    set number =
    IsSpread-set numbers set number (number_in numbers set) room refl long in
    rw (number_is, moved_is) (record {
      within = omega (arith, known.within);
      long = length-set (slice_set numbers (2 * set + 1) number) (2 * set) (number_in numbers set) ∙ long ∙ known.long;
      modest = modest-spread numbers _ set number spread known.modest c.least_enough-number.ensures.not_below
          c.least_enough-number.ensures.not_above;
      below = below-spread numbers old _ set number spread (λ p within. known.below p (omega arith));
      kept = kept-spread numbers old _ set (length gains) number spread (known.below set (omega arith))
          (λ p low within. known.kept p (omega arith) within);
      grown = grown-spread numbers old gains _ set (length gains) number spread
          (λ p within. known.below p (omega arith))
          c.least_enough-number.ensures.enough (λ colours low within. known.grown colours (omega arith) within);
    })
