use Rattle.std.proofs.Common.{◌+◌, arith}
use Rattle.fixed_mass.proofs.DigitsValue.{digit_in, after_more, after_take-le}
use Rattle.fixed_mass.proofs.units.read_on.Goals as goal

pub overflow_sub-digit : goal.overflow_sub-digit
overflow_sub-digit c =
    let digit = digit_in c.args.digits.now c.loop-digit.digit-index c.requires (omega arith) in omega arith

pub returns-in_err-checked_mul-clause-none : goal.returns-in_err-checked_mul-clause-none
returns-in_err-checked_mul-clause-none c _ =
    let i = c.loop-digit.digit-index in
    let more = after_more c.args.start c.args.digits.now i c.requires (omega arith) in
    let le = after_take-le c.args.start c.args.digits.now (i + 1) in
    omega (arith, c.in_err-checked_mul.ensures)

pub returns-in_err-value-clause-none : goal.returns-in_err-value-clause-none
returns-in_err-value-clause-none c _ =
    let i = c.loop-digit.digit-index in
    let more = after_more c.args.start c.args.digits.now i c.requires (omega arith) in
    let le = after_take-le c.args.start c.args.digits.now (i + 1) in
    omega (arith, c.in_err-value.ensures, c.in_ok-checked_mul.ensures)

pub loop-digit-preserved : goal.loop-digit-preserved
loop-digit-preserved c =
    let more = after_more c.args.start c.args.digits.now c.loop-digit.digit-index c.requires (omega arith) in
    omega arith
