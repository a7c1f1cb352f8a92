use Rattle.std.proofs.Common.{◌∙◌, ◌+◌, ◌<◌, length, sym, arith}
use Rattle.std.proofs.lemmas.Bool.Decides.{nat_tests}
use Rattle.fixed_mass.proofs.IsNumeral.{is_digits-append, is_digits-append_false}
use Rattle.fixed_mass.proofs.numeral.is_significand.Goals as goal

pub returns-then-is_all_digits : goal.returns-then-is_all_digits
returns-then-is_all_digits c =
    let some : 0 < length c.args.whole.now + length c.args.fraction.now = grind (arith, nat_tests) in
    c.is_all_digits-then-is_all_digits.ensures
    ∙ sym (is_digits-append c.args.whole.now c.args.fraction.now some (sym c.if-is_all_digits.ensures))

pub returns-else-is_all_digits : goal.returns-else-is_all_digits
returns-else-is_all_digits c =
    c.if-is_all_digits.false ∙ sym
    (is_digits-append_false c.args.whole.now c.args.fraction.now (sym c.if-is_all_digits.ensures))
