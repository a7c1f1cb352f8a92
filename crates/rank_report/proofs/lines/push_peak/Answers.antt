use Rattle.std.proofs.Common.{◌∙◌, ◌++◌, ap, length}
use Rattle.std.specs.Prelude.{codes, decimal}
use Rattle.fixed_mass.specs.FixedText.{fixed_text, mass_places}
use Rattle.rank_report.proofs.Fields.{three_fields}
use Rattle.rank_report.proofs.lines.push_peak.Goals as goal

pub returns : goal.returns
returns c =
    let mz = ap (λ list. list.mz) c.list.view_is in
    let formulas = c.items.ensures.items ∙ ap (λ list. list.formulas) c.list.view_is in
    three_fields c.args.text.now.items (codes "  peak ") (decimal c.args.number) (codes "  ")
    (fixed_text mass_places c.args.list.now.mz)
    (codes "  formulas ") (decimal (length c.args.list.now.formulas)) (codes "\n")
    c.push_number.new.text.items c.push_mz.new.text.items c.push_number-2.new.text.items c.push.new.self.items
    c.in_ok-push_number.ensures
    (c.in_ok-push_mz.ensures ∙ ap (λ mz. c.push_number.new.text.items ++ (codes "  " ++ fixed_text mass_places mz)) mz)
    (c.in_ok-push_number-2.ensures ∙ ap (λ formulas. c.push_mz.new.text.items
    ++ (codes "  formulas " ++ decimal (length formulas))) formulas)
    c.in_ok-push.ensures.items
