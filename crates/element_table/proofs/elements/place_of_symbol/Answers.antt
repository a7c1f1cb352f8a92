use Rattle.std.proofs.Common.{◌∙◌, below_more, sym, ap, arith}
use Rattle.std.specs.Option.{is_some}
use Rattle.std.specs.Str.{bytes_eq}
use Rattle.element_table.proofs.Places.{is_some-place_of, place_of-found, place_of-none}
use Rattle.element_table.proofs.elements.place_of_symbol.Goals as goal

pub loop-place-preserved : goal.loop-place-preserved
loop-place-preserved c =
    below_more _ _ c.loop-place.invariant
    (sym (c.if-eq.ensures ∙ ap (λ text. bytes_eq text c.args.symbol.now)
    (c.as_bytes.ensures.value ∙ c.symbol_at.ensures.symbol)))

pub returns-then-eq-clause-place : goal.returns-then-eq-clause-place
returns-then-eq-clause-place c =
    place_of-found c.args.symbol.now c.loop-place.place c.loop-place-test.true c.loop-place.invariant
    (sym (c.if-eq.ensures ∙ ap (λ text. bytes_eq text c.args.symbol.now)
    (c.as_bytes.ensures.value ∙ c.symbol_at.ensures.symbol)))

pub returns-then-eq-clause-known : goal.returns-then-eq-clause-known
returns-then-eq-clause-known c =
    ap is_some (place_of-found c.args.symbol.now c.loop-place.place c.loop-place-test.true c.loop-place.invariant
    (sym (c.if-eq.ensures ∙ ap (λ text. bytes_eq text c.args.symbol.now)
    (c.as_bytes.ensures.value ∙ c.symbol_at.ensures.symbol)))) ∙ is_some-place_of c.args.symbol.now

pub returns-clause-place : goal.returns-clause-place
returns-clause-place c = place_of-none c.args.symbol.now (λ place within. c.loop-place.invariant place (omega arith))

pub returns-clause-known : goal.returns-clause-known
returns-clause-known c =
    ap is_some (place_of-none c.args.symbol.now (λ place within. c.loop-place.invariant place (omega arith)))
    ∙ is_some-place_of c.args.symbol.now
