use Rattle.std.proofs.Common.{◌≡◌, ◌-◌, length, get_or, ap, ◌∙◌, arith}
use Rattle.element_table.proofs.Parts.{loss_from_places}
use Rattle.element_table.proofs.formula.Formula.minus.Goals as goal

pub returns : goal.returns
returns c =
    let whole : c.self.inside.counts ≡ c.args.self.now = c.self.view_is in
    let part : c.part.inside.counts ≡ c.args.part.now = c.part.view_is in
    loss_from_places _ _ _
    (omega (arith, ap length whole, ap length part, c.self.invariant.places, c.part.invariant.places))
    (omega (arith, ap length whole, c.self.invariant.places))
    (λ place within. c.loop-place.invariant.0 place (omega arith)
    ∙ ap (λ counts. get_or c.args.self.now place 0 - get_or counts place 0) part)
