use Rattle.std.proofs.Common.{◌≡◌, ℕ, ◌+◌, ◌-◌, ◌^◌, ◌≤◌, ◌++◌, ap, refl, subst, length, arith}
use Rattle.std.specs.Prelude.{IfSome}
use Rattle.fixed_mass.specs.inside.Tenths.{leading_of}
use Rattle.fixed_mass.proofs.IsNumeral.{all_join}
use Rattle.fixed_mass.proofs.UnitsOf.{tenths_of-leading, tenths_of-raised, le_product}
use Rattle.fixed_mass.proofs.units.tenths.Goals as goal

pub returns-in_err-value-clause-none : goal.returns-in_err-value-clause-none
returns-in_err-value-clause-none c _ =
    let n = c.args.numeral.now in
    let digits = n.whole.now ++ n.fraction.now in
    let leading =
    tenths_of-leading c.args.scale n.whole.now n.fraction.now n.raised n.lowered
    (all_join n.whole.now n.fraction.now n.whole_is_digits n.fraction_is_digits) in
    let dropped : c.saturating_sub.result ≡ length n.fraction.now + n.lowered - (c.args.scale + 1 + n.raised) =
    omega arith in
    let same : leading_of c.saturating_sub.result digits
    ≡ leading_of (length n.fraction.now + n.lowered - (c.args.scale + 1 + n.raised)) digits =
    ap (λ k. leading_of k digits) dropped in
    let more =
    le_product (leading_of (length n.fraction.now + n.lowered - (c.args.scale + 1 + n.raised)) digits)
    (c.args.scale + 1 + n.raised - (length n.fraction.now + n.lowered)) in
    let great = c.in_err-value.ensures.none refl in
    omega arith

pub returns-clause-some : goal.returns-clause-some
returns-clause-some c =
    let n = c.args.numeral.now in
    let all =
    tenths_of-raised c.args.scale n.whole.now n.fraction.now n.raised n.lowered c.saturating_sub.result
    c.saturating_sub-2.result c.in_ok-value.value n.whole_is_digits n.fraction_is_digits (omega arith)
    (omega arith) c.in_ok-value.ensures.some in
    subst (λ (t : ℕ). IfSome c.raised_value.result (λ raised. raised ≡ t)) all c.raised_value.ensures.some

pub returns-clause-none : goal.returns-clause-none
returns-clause-none c none =
    let n = c.args.numeral.now in
    let all =
    tenths_of-raised c.args.scale n.whole.now n.fraction.now n.raised n.lowered c.saturating_sub.result
    c.saturating_sub-2.result c.in_ok-value.value n.whole_is_digits n.fraction_is_digits (omega arith)
    (omega arith) c.in_ok-value.ensures.some in
    subst (λ (t : ℕ). 2 ^ 64 ≤ t) all (c.raised_value.ensures.none none)
