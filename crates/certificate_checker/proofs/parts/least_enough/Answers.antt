use Rattle.std.proofs.Common.{◌-◌, ◌<◌, ◌≤◌, length, arith, bit_and, refl, to_z, w64}
use Rattle.std.proofs.lemmas.Int.{to_z-of_z}
use Rattle.std.proofs.lemmas.Nat.{and_le_l}
use Rattle.tree_certificate.specs.Enough.{IsRaised}
use Rattle.tree_certificate.specs.Number.{number_in}
use Rattle.certificate_checker.proofs.Fits.{SFits-gain, SFits-number}
use Rattle.tree_certificate.proofs.PartWalk.{PartAt-before, PartAt-self, enough-first}
use Rattle.certificate_checker.proofs.LeastEnough.{part_at}
use Rattle.tree_certificate.proofs.PartWalk.{enough-last, enough-more, raised-as}
use Rattle.certificate_checker.proofs.parts.least_enough.Goals as goal

pub loop-part-init : goal.loop-part-init
loop-part-init c =
    let own = c.args.own.now in
    let gains = c.args.gains.now in
    let set = c.args.set in
    let some : 0 < length own = omega (arith, c.requires.room.0) in
    let number = to_z-of_z w64 (number_in own set)
    (SFits-number (number_in own set) (c.requires.numbers set c.requires.room.0)) in
    let gain = to_z-of_z w64 (number_in gains 0) (SFits-gain (number_in gains 0) (c.requires.gains 0 some)) in
    let most = to_z-of_z w64 c.raised-most.result (record { sfits = c.raised-most.type_inv }) in
    let is : IsRaised c.raised-most.result (number_in own set) (number_in gains 0) (number_in own set) =
    raised-as _ _ _ _ _ _ _ _ refl number gain number c.raised-most.ensures in
    rw most (record {
      within = and_le_l set c.args.useful;
      part = λ colours it. PartAt-self it.part (bit_and set c.args.useful) it.at_place;
      enough = λ colours it at. enough-first own gains colours set
          (bit_and set c.args.useful) it c.raised-most.result at is;
    })

pub loop-part-preserved : goal.loop-part-preserved
loop-part-preserved c =
    let own = c.args.own.now in
    let gains = c.args.gains.now in
    let set = c.args.set in
    let parts = bit_and set c.args.useful in
    let part = c.loop-part.part in
    let before = to_z w64 c.loop-part.most-bits in
    let in_set : part < length own = omega (arith, c.requires.room.0, c.loop-part.invariant.within) in
    let left : set - part < length own = omega (arith, c.requires.room.0) in
    let number = to_z-of_z w64 (number_in own (set - part))
    (SFits-number (number_in own (set - part)) (c.requires.numbers (set - part) left)) in
    let gain = to_z-of_z w64 (number_in gains part)
    (SFits-gain (number_in gains part) (c.requires.gains part in_set)) in
    let most = to_z-of_z w64 c.raised-most-in-loop-part.result
    (record { sfits = c.raised-most-in-loop-part.type_inv }) in
    let is : IsRaised c.raised-most-in-loop-part.result before (number_in gains part) (number_in own (set - part)) =
    raised-as _ _ _ _ _ _ _ _ refl refl gain number c.raised-most-in-loop-part.ensures in
    let low : bit_and (part - 1) parts ≤ part - 1 = and_le_l (part - 1) parts in
    rw most (record {
      within = omega (arith, low, c.loop-part.invariant.within);
      part = λ colours it. PartAt-before it.part parts part it.at_place
          (c.loop-part.invariant.part colours it) c.loop-part-test.true;
      enough = λ colours it at. enough-more own gains colours set parts part it before
          c.raised-most-in-loop-part.result at
          (c.loop-part.invariant.part colours it) c.loop-part-test.true (c.loop-part.invariant.enough colours it at) is;
    })

pub returns : goal.returns
returns c = λ colours at.
    let it = part_at c.args.own.now c.args.gains.now (length c.args.own.now) c.args.useful c.args.set c.requires.useful
    c.requires.room.0 colours at in
    enough-last c.args.own.now c.args.gains.now colours (bit_and c.args.set c.args.useful) c.loop-part.part it
    (to_z w64 c.loop-part.most-bits) (omega arith) (c.loop-part.invariant.enough colours it at)
