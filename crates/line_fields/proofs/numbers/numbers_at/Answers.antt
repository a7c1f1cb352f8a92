use Rattle.std.proofs.Common.{◌≡◌, ◌<◌, [], ◌∷◌, ◌++◌, ◌∙◌, None, ap, arith, eqb, length, sym, w64}
use Rattle.std.proofs.lemmas.Int.{to_z-of_z}
use Rattle.std.specs.Option.{option_map}
use Rattle.std.proofs.lemmas.Bool.{cond-false, eqb-false}
use Rattle.line_fields.specs.Field.{numbers_at, signed_kind}
use Rattle.line_fields.proofs.NumberLists.{no_number, one_number, small_next}
use Rattle.line_fields.proofs.TokenLists.{shorter, so_far}
use Rattle.line_fields.proofs.numbers.numbers_at.Goals as goal

pub returns-in_default : goal.returns-in_default
returns-in_default c =
    let some : 0 < length c.loop-rest.rest.now = omega (
      arith,
      eqb-false (length c.loop-rest.rest.now) 0
          (sym c.loop-rest-test.ensures),
    ) in
    sym (cond-false (eqb (length c.args.text.now) 0) None (numbers_at c.args.text.now) (sym c.if-is_empty.ensures)
    ∙ c.loop-rest.invariant
    ∙ ap (option_map (λ later. c.loop-rest.numbers.items ++ later))
    (no_number c.loop-rest.rest.now some c.in_default.ensures))

pub loop-rest-smaller : goal.loop-rest-smaller
loop-rest-smaller c =
    shorter (signed_kind 0) c.loop-rest.rest.now c.in-Some.later.now c.in-Some.number c.in-Some.ensures

pub loop-rest-preserved : goal.loop-rest-preserved
loop-rest-preserved c =
    let some : 0 < length c.loop-rest.rest.now = omega (
      arith,
      eqb-false (length c.loop-rest.rest.now) 0
          (sym c.loop-rest-test.ensures),
    ) in
    let pushed : c.push_number.new.numbers.items ≡ c.loop-rest.numbers.items ++ c.in-Some.number ∷ [] =
    c.in_ok-push_number.ensures ∙ ap (λ n. c.loop-rest.numbers.items ++ n ∷ [])
    (to_z-of_z w64 c.in-Some.number (record {
      sfits = small_next c.loop-rest.rest.now c.in-Some.later.now
          c.in-Some.number c.in-Some.ensures;
    })) in
    c.loop-rest.invariant
    ∙ ap (option_map (λ later. c.loop-rest.numbers.items ++ later))
    (one_number c.loop-rest.rest.now c.in-Some.later.now c.in-Some.number some c.in-Some.ensures)
    ∙ so_far c.loop-rest.numbers.items c.in-Some.number (numbers_at c.in-Some.later.now)
    ∙ ap (λ numbers. option_map (λ later. numbers ++ later) (numbers_at c.in-Some.later.now)) (sym pushed)
