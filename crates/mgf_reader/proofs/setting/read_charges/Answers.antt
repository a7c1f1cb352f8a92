use Rattle.std.proofs.Common.{◌≡◌, ◌∙◌, sym, ap, arith, List, ◌++◌, Some, append-nil, refl, codes, true}
use Rattle.std.specs.Option.{option_map}
use Rattle.std.specs.Result.{is_ok}
use Rattle.mgf_reader.specs.declared.spectrum.Charge.{Charge}
use Rattle.mgf_reader.proofs.ChargesOf.{charges_of-none, charges_of-and, charges_of-bad, charges_of-zero}
use Rattle.mgf_reader.proofs.ChargesOf.{charges_of-counts, above_zero}
use Rattle.mgf_reader.proofs.FieldsBy.{same_words}
use Rattle.mgf_reader.proofs.setting.read_charges.Goals as goal
use Rattle.mgf_reader.proofs.setting.read_charges.Goals.{else-charge-gt0-via-then-charge-gt0+else-is_err}
use Rattle.mgf_reader.proofs.setting.read_charges.Goals.{else-charge-gt0-via-else-charge-gt0}

pub loop-item-preserved-then-eq_ignore_ascii_case :
    goal.loop-item-preserved-then-eq_ignore_ascii_case
loop-item-preserved-then-eq_ignore_ascii_case c =
    let found = c.loop-item.charges.items in
    c.loop-item.invariant ∙ ap (option_map (λ (more : List Charge). found ++ more))
    (charges_of-and c.loop-item.left.now c.in-Some.item.now c.in-Some.rest.now c.in-Some.ensures.fields
    (sym (same_words c.in-Some.item.now (codes "and") c.eq_ignore_ascii_case.result c.eq_ignore_ascii_case.ensures.test)
    ∙ c.if-eq_ignore_ascii_case.true))

pub returns-in_default-read_charge-clause-refused :
    goal.returns-in_default-read_charge-clause-refused
returns-in_default-read_charge-clause-refused c =
    let found = c.loop-item.charges.items in (
      refl,
      c.loop-item.invariant ∙ ap (option_map (λ (more : List Charge). found ++ more))
          (charges_of-bad c.loop-item.left.now c.in-Some.item.now c.in-Some.rest.now c.in-Some.ensures.fields
          (sym (same_words c.in-Some.item.now
          (codes "and") c.eq_ignore_ascii_case.result c.eq_ignore_ascii_case.ensures.test)
          ∙ c.if-eq_ignore_ascii_case.false) (sym c.read_charge.ensures ∙ c.in_default-read_charge.is)),
    )

pub loop-item-preserved : goal.loop-item-preserved
loop-item-preserved c =
    let found = c.loop-item.charges.items in
    let left = c.loop-item.left.now in
    let item = c.in-Some.item.now in
    let rest = c.in-Some.rest.now in
    let charge = c.in-Some-read_charge.charge in
    let stays = sym (same_words item (codes "and") c.eq_ignore_ascii_case.result c.eq_ignore_ascii_case.ensures.test)
    ∙ c.if-eq_ignore_ascii_case.false in
    let good = sym c.read_charge.ensures ∙ c.in-Some-read_charge.is in
    elim c.else-charge-gt0.branch [
      | else-charge-gt0-via-then-charge-gt0+else-is_err w ↦
          let counts = charges_of-counts left item rest found charge c.in-Some.ensures.fields stays good
          (above_zero charge.value w.if-charge-gt0.true) in
          let pushed : is_ok w.push.result ≡ true = w.if-is_err.ensures.negation in
          rw w.charges-is (rw w.push.ensures.items (rw pushed (c.loop-item.invariant ∙ counts)))
      | else-charge-gt0-via-else-charge-gt0 w ↦
          let zero = charges_of-zero left item rest charge c.in-Some.ensures.fields stays good (omega arith) in
          rw w.charges-is (c.loop-item.invariant ∙ ap (option_map (λ (more : List Charge). found ++ more)) zero)
    ]

pub returns-clause-right : goal.returns-clause-right
returns-clause-right c =
    let found = c.loop-item.charges.items in
    c.loop-item.invariant ∙ ap (option_map (λ (more : List Charge). found ++ more))
    (charges_of-none c.loop-item.left.now c.in_default.ensures.fields) ∙ ap Some (append-nil found)
