use Rattle.std.proofs.Common.{◌≡◌, ℕ, ◌*◌, ◌^◌, ◌∙◌, Option, Some, None, ap, arith}
use Rattle.std.specs.Prelude.{IfSome, IsNone}
use Rattle.std.specs.Option.{SomeIff}
use Rattle.fixed_mass.proofs.UnitsOf.{power_at, past_table}
use Rattle.fixed_mass.proofs.units.raised_value.Goals as goal

some_value : (r : Option ℕ) (P : Type 0) (v w : ℕ) → SomeIff r P v → v ≡ w → IfSome r (λ x. x ≡ w)
some_value None P v w h e = tt
some_value (Some x) P v w h e = h.1 ∙ e

none_not : (r : Option ℕ) (P : Type 0) (v : ℕ) → SomeIff r P v → IsNone r → P → ⊥
none_not None P v h n = h
none_not (Some x) P v h n = λ p. absurd (cc)

pub returns-in_err-power-clause-none : goal.returns-in_err-power-clause-none
returns-in_err-power-clause-none c _ =
    past_table c.args.value c.args.places (omega arith) (omega (arith, c.in_err-power.ensures))

pub returns-clause-some : goal.returns-clause-some
returns-clause-some c =
    let power : c.in_ok-power.power.now ≡ 10 ^ c.args.places =
    c.in_ok-power.ensures.lookup.1 ∙ power_at c.args.places c.in_ok-power.power.now
    c.in_ok-power.ensures.lookup.3.0 in
    some_value c.checked_mul.result _ _ (c.args.value * 10 ^ c.args.places) c.checked_mul.ensures
    (ap (λ p. c.args.value * p) power)

pub returns-clause-none : goal.returns-clause-none
returns-clause-none c none =
    let power : c.in_ok-power.power.now ≡ 10 ^ c.args.places =
    c.in_ok-power.ensures.lookup.1 ∙ power_at c.args.places c.in_ok-power.power.now
    c.in_ok-power.ensures.lookup.3.0 in
    let product : c.args.value * c.in_ok-power.power.now ≡ c.args.value * 10 ^ c.args.places =
    ap (λ p. c.args.value * p) power in
    let great = none_not c.checked_mul.result _ _ c.checked_mul.ensures none in
    omega (arith, great)
