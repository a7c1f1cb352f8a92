use Rattle.std.proofs.Common.{◌≡◌, ◌≤◌, ◌*◌, length, take, slice_index}
use Rattle.std.specs.List.{flat_map}
use Rattle.element_table.specs.FormulaText.{element_text, printed_places}
use Rattle.element_table.proofs.text.print_formula.Given as goal

-- the elements' parts so far, each of at most 7 bytes
abbrev pub invariant-loop-place : goal.invariant-loop-place
invariant-loop-place l =
    (l.bytes.items ≡ flat_map (λ place. element_text place (slice_index l.formula place))
    (take l.place-index printed_places)) × (length l.bytes.items ≤ 7 * l.place-index)
