use Rattle.std.proofs.Common.{◌≡◌, ◌+◌, ◌*◌, ◌-◌, ◌∙◌, ap, arith, get_or, min, sym}
use Rattle.line_fields.specs.Field.{greatest_read}
use Rattle.line_fields.proofs.Digits.{ReadsDigits-more, all_read, other_read}
use Rattle.line_fields.proofs.fields.digits_in.Goals as goal

pub loop-digit-preserved : goal.loop-digit-preserved
loop-digit-preserved c =
    let is : c.min-number.result ≡ min (c.loop-digit.number *
    10 + (get_or c.args.digits.now c.loop-digit.digit-index 0 - 48)) greatest_read =
    c.min-number.ensures ∙ ap (λ digit. min (c.loop-digit.number * 10 + digit) greatest_read) c.from.ensures in (
      ReadsDigits-more c.args.digits.now c.loop-digit.digit-index c.loop-digit.number _ c.is_ascii_digit.result
          c.loop-digit-test.true c.is_ascii_digit.ensures.value c.is_ascii_digit.ensures.cases
          c.if-not-is_ascii_digit.false is c.loop-digit.invariant.0,
      omega arith,
    )

pub returns-clause-number : goal.returns-clause-number
returns-clause-number c = all_read c.args.digits.now _ c.loop-digit.number (omega arith) c.loop-digit.invariant.0

pub returns-then-not-is_ascii_digit-clause-number : goal.returns-then-not-is_ascii_digit-clause-number
returns-then-not-is_ascii_digit-clause-number c =
    other_read c.args.digits.now c.loop-digit.digit-index _ (omega arith)
    (sym c.is_ascii_digit.ensures.value ∙ c.if-not-is_ascii_digit.true)
