use Rattle.std.proofs.Common.{◌≡◌, ◌∙◌, ◌++◌, true, sym, refl, take, arith}
use Rattle.std.specs.Str.{all_ascii_digits}
use Rattle.fixed_mass.proofs.IsNumeral.{digits_cut, all_of_digits, all_front, all_back, is_numeral-no_digits}
use Rattle.fixed_mass.proofs.IsNumeral.{is_numeral-no_exponent, is_numeral-parts}
use Rattle.fixed_mass.proofs.numeral.Numeral.of.Goals as goal

pub returns-then-not-is_significand-clause-none : goal.returns-then-not-is_significand-clause-none
returns-then-not-is_significand-clause-none c _ =
    let cut =
    digits_cut c.args.text.now c.without_plus-significand.result.now c.behind-fraction.result.now
    c.mark_place-mark.result c.point_place-point.result c.mark_place-mark.ensures.place
    c.without_plus-significand.ensures c.point_place-point.ensures.place c.behind-fraction.ensures in
    is_numeral-no_digits c.args.text.now (sym cut ∙ sym c.is_significand.ensures ∙ c.if-not-is_significand.true)

pub returns-in_err-raised-clause-none : goal.returns-in_err-raised-clause-none
returns-in_err-raised-clause-none c _ = is_numeral-no_exponent c.args.text.now (c.in_err-raised.ensures.none refl)

pub invariant_of-result : goal.invariant_of-result
invariant_of-result c =
    let whole = take c.point_place-point.result c.without_plus-significand.result.now in
    let fraction = c.behind-fraction.result.now in
    let all : all_ascii_digits (whole ++ fraction) ≡ true =
    all_of_digits (whole ++ fraction) (sym c.is_significand.ensures ∙ c.if-not-is_significand.false) in
    record {
      whole_is_digits = all_front whole fraction all;
      fraction_is_digits = all_back whole fraction all;
      raised_in_range = omega (arith, c.in_ok-raised.ensures.raised);
      lowered_in_range = omega (arith, c.in_ok-raised.ensures.lowered);
    }

pub returns-clause-numeral : goal.returns-clause-numeral
returns-clause-numeral c =
    let cut =
    digits_cut c.args.text.now c.without_plus-significand.result.now c.behind-fraction.result.now
    c.mark_place-mark.result c.point_place-point.result c.mark_place-mark.ensures.place
    c.without_plus-significand.ensures c.point_place-point.ensures.place c.behind-fraction.ensures in
    is_numeral-parts c.args.text.now (sym cut ∙ sym c.is_significand.ensures ∙ c.if-not-is_significand.false)
    c.in_ok-raised.ensures.some
