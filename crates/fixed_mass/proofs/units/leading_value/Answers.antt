use Rattle.std.proofs.Common.{◌≡◌, ◌∙◌, ◌-◌, ℕ, ap, subst, refl, take, arith}
use Rattle.std.specs.Prelude.{IfSome}
use Rattle.std.specs.Str.Parse.{digits_value_after}
use Rattle.fixed_mass.proofs.DigitsValue.{after_ge}
use Rattle.fixed_mass.proofs.IsNumeral.{all_take}
use Rattle.fixed_mass.proofs.UnitsOf.{leading_of-parts}
use Rattle.fixed_mass.proofs.units.leading_value.Goals as goal

pub read_on-requires : goal.read_on-requires
read_on-requires c = all_take c.min-from_whole.result c.args.whole.now c.requires.whole

pub returns-in_err-value-clause-none : goal.returns-in_err-value-clause-none
returns-in_err-value-clause-none c _ =
    let kept = c.saturating_sub-kept.result in
    let front = c.min-from_whole.result in
    let great = c.in_err-value.ensures.none refl in
    let more =
    after_ge (digits_value_after 10 0 (take front c.args.whole.now)) (take (kept - front) c.args.fraction.now) in
    let parts =
    leading_of-parts c.args.dropped kept front c.args.whole.now c.args.fraction.now c.saturating_sub-kept.ensures
    c.min-from_whole.ensures in
    omega arith

pub read_on-requires-2 : goal.read_on-requires-2
read_on-requires-2 c =
    all_take (c.saturating_sub-kept.result - c.min-from_whole.result) c.args.fraction.now c.requires.fraction

pub returns-clause-some : goal.returns-clause-some
returns-clause-some c =
    let parts =
    leading_of-parts c.args.dropped c.saturating_sub-kept.result c.min-from_whole.result c.args.whole.now
    c.args.fraction.now c.saturating_sub-kept.ensures c.min-from_whole.ensures in
    let kept = c.saturating_sub-kept.result - c.min-from_whole.result in
    let started =
    ap (λ v. digits_value_after 10 v (take kept c.args.fraction.now)) c.in_ok-value.ensures.some in
    subst (λ (n : ℕ). IfSome c.read_on-2.result (λ value. value ≡ n)) (started ∙ parts) c.read_on-2.ensures.some

pub returns-clause-none : goal.returns-clause-none
returns-clause-none c none =
    let great = c.read_on-2.ensures.none none in
    let parts =
    leading_of-parts c.args.dropped c.saturating_sub-kept.result c.min-from_whole.result c.args.whole.now
    c.args.fraction.now c.saturating_sub-kept.ensures c.min-from_whole.ensures in
    let started =
    ap (λ v. digits_value_after 10 v (take (c.saturating_sub-kept.result - c.min-from_whole.result)
    c.args.fraction.now)) c.in_ok-value.ensures.some in
    omega arith
