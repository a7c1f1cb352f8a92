use Rattle.std.proofs.Common.{ℕ, ◌+◌, ◌-◌, ◌*◌, ◌<◌, ◌≤ℤ◌, ℤ, pos, arith, refl, to_z, w64}
use Rattle.std.proofs.lemmas.Int.{ints, to_z-of_z}
use Rattle.std.proofs.lemmas.Nat.{and_le_r}
use Rattle.tree_certificate.specs.Enough.{IsRaised}
use Rattle.tree_certificate.specs.Number.{number_in}
use Rattle.tree_certificate.proofs.PartWalk.{PartAt-before, PartAt-self, UsefulPart-self, enough-first, enough-last}
use Rattle.subset_tree.proofs.Sums.{fits-gains, fits-modest, raised-not_above, raised-not_below}
use Rattle.tree_certificate.proofs.PartWalk.{enough-more, raised-as}
use Rattle.subset_tree.proofs.table.greatest_sum.Goals as goal

pub loop-part-init : goal.loop-part-init
loop-part-init c =
    let numbers = c.args.numbers.now in
    let gains = c.args.gains.now in
    let set = c.args.set in
    let number = to_z-of_z w64 (number_in numbers set) (fits-modest numbers set c.requires.modest c.requires.few) in
    let gain = to_z-of_z w64 (number_in gains 0) (fits-gains gains 0 c.requires.gains (omega arith)) in
    let most = to_z-of_z w64 c.raised-most.result (record { sfits = c.raised-most.type_inv }) in
    let is : IsRaised c.raised-most.result (number_in numbers set) (number_in gains 0) (number_in numbers set) =
    raised-as _ _ _ _ _ _ _ _ refl number gain number c.raised-most.ensures in
    rw most (record {
      within = omega arith;
      not_below = raised-not_below c.raised-most.result (number_in numbers set) (number_in gains 0)
          (number_in numbers set) is (c.requires.modest.not_below set);
      not_above = raised-not_above c.raised-most.result (number_in numbers set) (number_in gains 0)
          (number_in numbers set) 0 set set is (more (number_in numbers set) set (c.requires.modest.not_above set))
          (c.requires.gains.not_above 0)
          (c.requires.modest.not_above set) (omega arith);
      part = λ colours at. PartAt-self colours set at;
      enough = λ colours at. enough-first numbers gains colours set set
          (UsefulPart-self numbers gains colours set at) c.raised-most.result at is;
    })
  where
    more : (number : ℤ) (set : ℕ) → number ≤ℤ pos (100000 * set) → number ≤ℤ pos (100000 * (set + 1))
    more number set is = omega (arith, ints)

pub loop-part-preserved : goal.loop-part-preserved
loop-part-preserved c =
    let numbers = c.args.numbers.now in
    let gains = c.args.gains.now in
    let set = c.args.set in
    let part = c.loop-part.part in
    let before = to_z w64 c.loop-part.most-bits in
    let few : part < 4096 = omega (arith, c.requires.few, c.loop-part.invariant.within) in
    let few_left : set - part < 4096 = omega (arith, c.requires.few) in
    let number = to_z-of_z w64 (number_in numbers (set - part))
    (fits-modest numbers (set - part) c.requires.modest few_left) in
    let gain = to_z-of_z w64 (number_in gains part) (fits-gains gains part c.requires.gains few) in
    let most = to_z-of_z w64 c.raised-most-in-loop-part.result
    (record { sfits = c.raised-most-in-loop-part.type_inv }) in
    let is : IsRaised c.raised-most-in-loop-part.result before (number_in gains part) (number_in numbers (set - part)) =
    raised-as _ _ _ _ _ _ _ _ refl refl gain number c.raised-most-in-loop-part.ensures in
    rw most (record {
      within = and_le_r (part - 1) set;
      not_below = raised-not_below c.raised-most-in-loop-part.result before (number_in gains part)
          (number_in numbers (set - part)) is c.loop-part.invariant.not_below;
      not_above = raised-not_above c.raised-most-in-loop-part.result before (number_in gains part)
          (number_in numbers (set - part)) part (set - part) set is c.loop-part.invariant.not_above
          (c.requires.gains.not_above part)
          (c.requires.modest.not_above (set - part)) (omega (arith, c.loop-part.invariant.within));
      part = λ colours at. PartAt-before colours set part at
          (c.loop-part.invariant.part colours at) c.loop-part-test.true;
      enough = λ colours at. enough-more numbers gains colours set set part
          (UsefulPart-self numbers gains colours set at) before c.raised-most-in-loop-part.result at
          (c.loop-part.invariant.part colours at) c.loop-part-test.true (c.loop-part.invariant.enough colours at) is;
    })

pub returns-clause-enough : goal.returns-clause-enough
returns-clause-enough c = λ colours at. enough-last c.args.numbers.now c.args.gains.now colours c.args.set
    c.loop-part.part (UsefulPart-self c.args.numbers.now c.args.gains.now colours c.args.set at)
    (to_z w64 c.loop-part.most-bits) (omega arith) (c.loop-part.invariant.enough colours at)
