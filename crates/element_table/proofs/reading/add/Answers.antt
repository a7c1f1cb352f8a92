use Rattle.std.proofs.Common.{◌≡◌, ◌∙◌, [], ap, arith, get_or}
use Rattle.std.specs.Str.{bytes_eq}
use Rattle.element_table.specs.Elements.{symbols}
use Rattle.element_table.proofs.Totals.{Adds-same, Adds-other}
use Rattle.element_table.proofs.reading.add.Goals as goal
use Rattle.element_table.proofs.reading.add.Goals.{then-eq, else-eq}

pub loop-place-preserved : goal.loop-place-preserved
loop-place-preserved c =
    let symbol_is : c.as_bytes.result.now ≡ get_or symbols c.loop-place.place [] =
    c.as_bytes.ensures.value ∙ c.symbol_at.ensures.symbol in
    elim c.if-eq.branch [
      | then-eq w ↦
          rw (w.known-is, w.totals-is)
          (Adds-same c.args.symbol.now c.args.count c.args.totals.now c.loop-place.totals c.loop-place.place
          w.min.result c.loop-place.known c.loop-place-test.true (omega arith)
          (w.if-eq.ensures ∙ ap (λ text. bytes_eq text c.args.symbol.now) symbol_is) w.min.ensures
          c.loop-place.invariant)
      | else-eq w ↦
          rw (w.known-is, w.totals-is)
          (Adds-other c.args.symbol.now c.args.count c.args.totals.now c.loop-place.totals c.loop-place.place
          c.loop-place.known c.loop-place-test.true (c.requires.totals c.loop-place.place)
          (w.if-eq.ensures ∙ ap (λ text. bytes_eq text c.args.symbol.now) symbol_is) c.loop-place.invariant)
    ]
