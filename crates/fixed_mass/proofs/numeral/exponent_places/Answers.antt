use Rattle.std.proofs.Common.{◌≡◌, ◌+◌, ◌∙◌, Bool, true, drop, sym, ap, subst, arith}
use Rattle.std.specs.Prelude.{IfSome}
use Rattle.std.specs.Str.Parse.{without_leading_sign}
use Rattle.fixed_mass.specs.Numeral.{exponent_of, is_digits, is_exponent}
use Rattle.fixed_mass.proofs.IsNumeral.{is_exponent-no_mark, is_exponent-mark}
use Rattle.fixed_mass.proofs.numeral.exponent_places.Goals as goal

pub returns-then-mark-text-clause-some : goal.returns-then-mark-text-clause-some
returns-then-mark-text-clause-some c = is_exponent-no_mark c.args.text.now (omega (arith, c.requires.place))

pub returns-clause-some : goal.returns-clause-some
returns-clause-some c =
    let text = c.args.text.now in
    let behind : c.behind.result.now ≡ exponent_of text =
    c.behind.ensures ∙ ap (λ m. drop (m + 1) text) c.requires.place in
    let e : is_exponent text ≡ is_digits (without_leading_sign c.behind.result.now) =
    is_exponent-mark text (omega (arith, c.requires.place))
    ∙ ap (λ t. is_digits (without_leading_sign t)) (sym behind) in
    subst (λ (b : Bool). IfSome c.read_exponent.result (λ _. b ≡ true)) (sym e) c.read_exponent.ensures.some

pub returns-clause-none : goal.returns-clause-none
returns-clause-none c none =
    let text = c.args.text.now in
    let behind : c.behind.result.now ≡ exponent_of text =
    c.behind.ensures ∙ ap (λ m. drop (m + 1) text) c.requires.place in
    let e : is_exponent text ≡ is_digits (without_leading_sign c.behind.result.now) =
    is_exponent-mark text (omega (arith, c.requires.place))
    ∙ ap (λ t. is_digits (without_leading_sign t)) (sym behind) in
    e ∙ c.read_exponent.ensures.none none
