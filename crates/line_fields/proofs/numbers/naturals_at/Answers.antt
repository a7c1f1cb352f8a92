use Rattle.std.proofs.Common.{◌≡◌, ◌<◌, [], ◌∷◌, ◌++◌, ◌∙◌, ap, arith, length, sym}
use Rattle.std.specs.Option.{option_map}
use Rattle.std.proofs.lemmas.Bool.{eqb-false}
use Rattle.line_fields.specs.Field.{number_in, number_kind}
use Rattle.line_fields.proofs.NumberLists.{naturals_at-each}
use Rattle.line_fields.proofs.TokenLists.{each_at, no_value, one_value, shorter, so_far}
use Rattle.line_fields.proofs.numbers.naturals_at.Goals as goal

pub returns-in_default : goal.returns-in_default
returns-in_default c =
    let first : 0 < length c.args.text.now = omega (
      arith,
      eqb-false (length c.args.text.now) 0
          (sym c.if-is_empty.ensures),
    ) in
    let some : 0 < length c.loop-rest.rest.now = omega (
      arith,
      eqb-false (length c.loop-rest.rest.now) 0
          (sym c.loop-rest-test.ensures),
    ) in
    sym (naturals_at-each c.args.text.now first ∙ c.loop-rest.invariant
    ∙ ap (option_map (λ later. c.loop-rest.numbers.items ++ later))
    (no_value (number_kind 0 0) c.loop-rest.rest.now some c.in_default.ensures))

pub loop-rest-smaller : goal.loop-rest-smaller
loop-rest-smaller c =
    shorter (number_kind 0 0) c.loop-rest.rest.now c.in-Some.later.now c.in-Some.natural c.in-Some.ensures

pub loop-rest-preserved : goal.loop-rest-preserved
loop-rest-preserved c =
    let some : 0 < length c.loop-rest.rest.now = omega (
      arith,
      eqb-false (length c.loop-rest.rest.now) 0
          (sym c.loop-rest-test.ensures),
    ) in
    let pushed : c.push.new.self.items ≡ c.loop-rest.numbers.items ++ c.in-Some.natural ∷ [] =
    c.in_ok-push.ensures.items in
    c.loop-rest.invariant
    ∙ ap (option_map (λ later. c.loop-rest.numbers.items ++ later))
    (one_value (number_kind 0 0) c.loop-rest.rest.now c.in-Some.later.now c.in-Some.natural some c.in-Some.ensures)
    ∙ so_far c.loop-rest.numbers.items c.in-Some.natural (each_at number_in c.in-Some.later.now)
    ∙ ap (λ numbers. option_map (λ later. numbers ++ later) (each_at number_in c.in-Some.later.now)) (sym pushed)
