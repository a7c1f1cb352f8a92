use Rattle.std.proofs.Common.{◌∙◌, ◌++◌, ap}
use Rattle.std.specs.Prelude.{codes, decimal}
use Rattle.std.specs.Fmt.{signed_decimal}
use Rattle.element_table.specs.FormulaText.{formula_text}
use Rattle.rank_report.proofs.Fields.{six_fields}
use Rattle.rank_report.proofs.lines.push_row.Goals as goal

pub returns : goal.returns
returns c =
    six_fields c.args.text.now.items (codes "    row ") (decimal c.args.number) (codes "  parent ")
    (decimal c.args.row.now.parent)
    (codes "  peak ") (decimal c.args.row.now.peak) (codes "  ") (formula_text c.args.row.now.formula)
    (codes "  loss ") (formula_text c.args.row.now.loss) (codes "  weight ") (signed_decimal c.args.row.now.weight)
    (codes "\n")
    c.push_number.new.text.items c.push_number-2.new.text.items c.push_number-3.new.text.items
    c.push_formula.new.text.items
    c.push_formula-2.new.text.items c.push_weight.new.text.items c.push.new.self.items
    c.in_ok-push_number.ensures
    (c.in_ok-push_number-2.ensures ∙ ap (λ number. c.push_number.new.text.items
    ++ (codes "  parent " ++ decimal number)) c.from.ensures)
    (c.in_ok-push_number-3.ensures ∙ ap (λ number. c.push_number-2.new.text.items
    ++ (codes "  peak " ++ decimal number)) c.from-2.ensures)
    c.in_ok-push_formula.ensures
    c.in_ok-push_formula-2.ensures
    c.in_ok-push_weight.ensures
    c.in_ok-push.ensures.items
