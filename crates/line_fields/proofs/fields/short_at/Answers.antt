use Rattle.std.proofs.Common.{◌-◌, ◌*◌, ◌+◌, ◌≡◌, sym, ◌∙◌, ap, pos, get_or, arith, w64}
use Rattle.std.proofs.lemmas.Int.{to_z-of_z}
use Rattle.line_fields.proofs.ShortNumbers.{one_digit, three_digits, two_digits}
use Rattle.line_fields.proofs.fields.short_at.Goals as goal

pub returns-then-text-eq32 : goal.returns-then-text-eq32
returns-then-text-eq32 c =
    one_digit c.args.text.now _ (omega (arith, c.if-text-lt5.false)) c.if-text-ne32.false
    (sym c.is_ascii_digit.ensures.value ∙ c.if-not-is_ascii_digit.false) c.if-text-eq32.true
    (to_z-of_z w64 c.from.result (record { sfits = c.from.type_inv }) ∙ c.from.ensures
    ∙ ap (λ n. pos n) c.from-first.ensures)

pub returns-then-text-eq32-2 : goal.returns-then-text-eq32-2
returns-then-text-eq32-2 c =
    let text = c.args.text.now in
    let number : c.from-first.result * 10 + c.from-2.result ≡ (get_or text 1 0 - 48) * 10 + (get_or text 2 0 - 48) =
    (λ i. c.from-first.ensures i * 10 + c.from-2.ensures i) in
    two_digits text _ (omega (arith, c.if-text-lt5.false)) c.if-text-ne32.false
    (sym c.is_ascii_digit.ensures.value ∙ c.if-not-is_ascii_digit.false)
    (λ none. c.if-first-eq0.false (c.from-first.ensures ∙ none))
    (sym c.is_ascii_digit-else-first-eq0.ensures.value ∙ c.if-not-is_ascii_digit-2.false) c.if-text-eq32-2.true
    (to_z-of_z w64 c.from-then-text-eq32-2.result (record { sfits = c.from-then-text-eq32-2.type_inv })
    ∙ c.from-then-text-eq32-2.ensures ∙ ap (λ n. pos n) number)

pub returns : goal.returns
returns c =
    let text = c.args.text.now in
    let number : (c.from-first.result * 10 + c.from-2.result) * 10 + c.from-3.result
    ≡ ((get_or text 1 0 - 48) * 10 + (get_or text 2 0 - 48)) * 10 + (get_or text 3 0 - 48) =
    (λ i. (c.from-first.ensures i * 10 + c.from-2.ensures i) * 10 + c.from-3.ensures i) in
    three_digits text _ (omega (arith, c.if-text-lt5.false)) c.if-text-ne32.false
    (sym c.is_ascii_digit.ensures.value ∙ c.if-not-is_ascii_digit.false)
    (λ none. c.if-first-eq0.false (c.from-first.ensures ∙ none))
    (sym c.is_ascii_digit-else-first-eq0.ensures.value ∙ c.if-not-is_ascii_digit-2.false)
    (sym c.is_ascii_digit-2.ensures.value ∙ c.if-not-is_ascii_digit-3.false) c.if-text-ne32-2.false
    (to_z-of_z w64 c.from-4.result (record { sfits = c.from-4.type_inv }) ∙ c.from-4.ensures ∙ ap (λ n. pos n) number)
