use Rattle.std.proofs.Common.{◌≡◌, ◌+◌, length, get_or, ap, ◌∙◌, arith}
use Rattle.element_table.proofs.Parts.{union_from_places}
use Rattle.element_table.proofs.formula.Formula.plus.Goals as goal

pub returns : goal.returns
returns c =
    let one : c.self.inside.counts ≡ c.args.self.now = c.self.view_is in
    let two : c.other.inside.counts ≡ c.args.other.now = c.other.view_is in
    union_from_places _ _ _
    (omega (arith, ap length one, ap length two, c.self.invariant.places, c.other.invariant.places))
    (omega (arith, ap length one, c.self.invariant.places))
    (λ place within. c.loop-place.invariant.0 place (omega arith)
    ∙ ap (λ counts. get_or c.args.self.now place 0 + get_or counts place 0) two)
