use Rattle.std.proofs.Common.{◌≡◌, ◌+◌, ◌*◌, ◌-◌, ◌∙◌, ap, arith, get_or, min, sym}
use Rattle.element_table.proofs.Counting.{ReadsDigits-more, is_read, is_refused}
use Rattle.element_table.proofs.reading.read_count.Goals as goal

pub loop-digit-preserved : goal.loop-digit-preserved
loop-digit-preserved c =
    let is : c.min-count.result ≡ min
    (c.loop-digit.count * 10 + (get_or c.args.digits.now c.loop-digit.digit-index 0 - 48)) 2000 =
    c.min-count.ensures ∙ ap (λ digit. min (c.loop-digit.count * 10 + digit) 2000) c.from.ensures in
    ReadsDigits-more c.args.digits.now c.loop-digit.digit-index c.loop-digit.count _ c.is_ascii_digit.result
    c.loop-digit-test.true c.is_ascii_digit.ensures.value c.is_ascii_digit.ensures.cases
    c.if-not-is_ascii_digit.false is c.loop-digit.invariant

pub returns : goal.returns
returns c =
    is_read c.args.digits.now _ c.loop-digit.count (sym c.if-is_empty.ensures) c.if-first-eq48.false (omega arith)
    c.loop-digit.invariant

pub returns-then-not-is_ascii_digit : goal.returns-then-not-is_ascii_digit
returns-then-not-is_ascii_digit c =
    is_refused c.args.digits.now c.loop-digit.digit-index _ (omega arith)
    (sym c.is_ascii_digit.ensures.value ∙ c.if-not-is_ascii_digit.true)
