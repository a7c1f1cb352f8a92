use Rattle.std.proofs.Common.{◌≡◌, ◌+ℤ◌, ◌-ℤ◌, arith, to_z, of_z, w64}
use Rattle.std.proofs.lemmas.Int.{ints, to_z-of_z}
use Rattle.price_bound.proofs.Greatest.{IsGreater-first, IsGreater-second}
use Rattle.price_bound.proofs.exact.raised.Goals as goal

pub returns-then-sum-gain-clause-greater : goal.returns-then-sum-gain-clause-greater
returns-then-sum-gain-clause-greater c =
    let sum_is : to_z w64 (of_z w64 (to_z w64
    (of_z w64 (to_z w64 (of_z w64 c.from.result) -ℤ to_z w64 (of_z w64 c.args.price))) +ℤ to_z w64
    (of_z w64 c.args.potential)))
    ≡ (c.args.weight -ℤ c.args.price) +ℤ c.args.potential = omega (arith, ints, c.from.ensures) in
    rw sum_is (IsGreater-second _ _ (omega (arith, ints, c.from.ensures)))

pub returns-else-sum-gain-clause-greater : goal.returns-else-sum-gain-clause-greater
returns-else-sum-gain-clause-greater c =
    rw (to_z-of_z w64 c.args.gain c.ranges.gain) (IsGreater-first _ _ (omega (arith, ints, c.from.ensures)))
