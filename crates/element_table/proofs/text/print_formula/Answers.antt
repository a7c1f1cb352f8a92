use Rattle.std.proofs.Common.{◌++◌, get_or, slice_index, ap, ◌∙◌, arith}
use Rattle.element_table.specs.FormulaText.{element_text, printed_places}
use Rattle.element_table.proofs.Spelling.{flat_map-next}
use Rattle.element_table.proofs.text.print_formula.Goals as goal

pub loop-place-preserved : goal.loop-place-preserved
loop-place-preserved c = (
  flat_map-next (λ place. element_text place (slice_index c.args.formula.now place)) printed_places _ _ _
      c.loop-place-test.true
      c.loop-place.invariant.0
      (c.append_element.ensures.text ∙ ap
      (λ count. c.loop-place.bytes.items ++ element_text (get_or printed_places c.loop-place.place-index 0) count)
      c.count.ensures.count),
  omega (arith, c.append_element.ensures.short),
)
