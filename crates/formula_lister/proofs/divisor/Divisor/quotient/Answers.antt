use Rattle.std.proofs.Common.{◌*◌, ◌/◌, arith}
use Rattle.std.proofs.Math.Nat.{add-mul}
use Rattle.formula_lister.proofs.Dividing.{quotient_within}
use Rattle.formula_lister.proofs.divisor.Divisor.quotient.Goals as goal

pub overflow_sub-dividend : goal.overflow_sub-dividend
overflow_sub-dividend c =
    let divisor = c.args.self.now in
    omega (
      arith,
      (quotient_within c.args.dividend divisor.number divisor.inverse c.from.result c.from-2.result
          (omega arith) (omega arith) c.ranges.dividend.fits divisor.right).0,
    )

pub returns-then-dividend-least-clause-not_more : goal.returns-then-dividend-least-clause-not_more
returns-then-dividend-least-clause-not_more c =
    let divisor = c.args.self.now in
    omega (
      arith,
      (quotient_within c.args.dividend divisor.number divisor.inverse c.from.result c.from-2.result
          (omega arith) (omega arith) c.ranges.dividend.fits divisor.right).0,
    )

pub returns-else-dividend-least-clause-not_less : goal.returns-else-dividend-least-clause-not_less
returns-else-dividend-least-clause-not_less c =
    let divisor = c.args.self.now in
    let within =
    quotient_within c.args.dividend divisor.number divisor.inverse c.from.result c.from-2.result (omega arith)
    (omega arith) c.ranges.dividend.fits divisor.right in
    omega (
      arith,
      within.0,
      within.1,
      add-mul (c.from.result * c.from-2.result / 18446744073709551616) 1 divisor.number,
    )
