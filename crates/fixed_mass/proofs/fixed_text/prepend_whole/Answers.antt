use Rattle.std.proofs.Common.{◌≡◌, ℕ, ◌+◌, ◌/◌, ◌%◌, ◌^◌, ◌<◌, ◌≤◌, List, [], ◌∷◌, ◌++◌, length, ap, sym, ◌∙◌}
use Rattle.std.proofs.Common.{append_assoc, arith}
use Rattle.std.specs.Prelude.{decimal}
use Rattle.std.proofs.lemmas.List.{length-append}
use Rattle.std.proofs.lemmas.Fmt.{decimal_step, decimal_digit, decimal_nonempty, length-decimal-le}
use Rattle.fixed_mass.proofs.fixed_text.prepend_whole.Goals as goal

-- while a digit is still to come, a byte more has room
room_left : (rest number : ℕ) (text old : List ℕ) → decimal rest ++ text ≡ decimal number ++ old → rest < 10 ^ 16
    → number < 10 ^ 16 → length old ≤ 8 → length text < 24
room_left rest number text old e r n short =
    let long = ap length e in
    let some = decimal_nonempty rest (omega arith) in
    let few = length-decimal-le 16 number (omega arith) n (omega arith) in
    omega (arith, length-append (decimal rest) text, length-append (decimal number) old)

last_digit : (number : ℕ) (text : List ℕ) → 10 ≤ number → number < 2 ^ 64
    → decimal (number / 10) ++ (48 + number % 10) ∷ text ≡ decimal number ++ text
last_digit number text h small =
    sym (append_assoc (decimal (number / 10)) ((48 + number % 10) ∷ []) text)
    ∙ ap (λ t. t ++ text) (sym (decimal_step number h small))

pub prepend-requires : goal.prepend-requires
prepend-requires c =
    room_left c.loop-rest.rest c.args.number c.loop-rest.text c.args.text.now c.loop-rest.invariant.0
    c.loop-rest.invariant.1 c.requires.small c.requires.room

pub loop-rest-preserved : goal.loop-rest-preserved
loop-rest-preserved c = (
  ap (λ t. decimal (c.loop-rest.rest / 10) ++ t) c.prepend.ensures
      ∙ last_digit c.loop-rest.rest c.loop-rest.text (omega arith) (omega arith)
      ∙ c.loop-rest.invariant.0,
  omega arith,
)

pub prepend-requires-2 : goal.prepend-requires-2
prepend-requires-2 c =
    room_left c.loop-rest.rest c.args.number c.loop-rest.text c.args.text.now c.loop-rest.invariant.0
    c.loop-rest.invariant.1 c.requires.small c.requires.room

pub returns : goal.returns
returns c =
    c.prepend-2.ensures ∙ ap (λ t. t ++ c.loop-rest.text) (sym (decimal_digit c.loop-rest.rest (omega arith)))
    ∙ c.loop-rest.invariant.0
