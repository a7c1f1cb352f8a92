use Rattle.std.proofs.Common.{arith}
use Rattle.fixed_mass.proofs.DigitsValue.{digit_in, after_more}
use Rattle.fixed_mass.proofs.numeral.capped_value.Goals as goal

pub overflow_sub-digit : goal.overflow_sub-digit
overflow_sub-digit c =
    let digit = digit_in c.args.digits.now c.loop-digit.digit-index c.requires (omega arith) in omega arith

pub loop-digit-preserved : goal.loop-digit-preserved
loop-digit-preserved c =
    let more = after_more 0 c.args.digits.now c.loop-digit.digit-index c.requires (omega arith) in
    omega arith
