use Rattle.std.proofs.Common.{◌≡◌, ◌∙◌, None, Some, ap, sym}
use Rattle.std.specs.Option.{option_map}
use Rattle.tree_document.specs.Line.{prices_line, split_line}
use Rattle.line_fields.specs.Need.{line_with, or_else, prices_shape, split_shape}
use Rattle.line_reader.proofs.bound_lines.bound_line.Goals as goal

pub returns-in-Some-2 : goal.returns-in-Some-2
returns-in-Some-2 c = λ above.
    let none : None ≡ line_with prices_shape c.args.line.now =
    ap (option_map (λ prices. prices_line prices.items)) (sym c.in_default.is) ∙ c.in_ok-prices.ensures in
    let read : Some (split_line above c.in-Some-2.colour c.in-Some-2.edges.items)
    ≡ line_with (split_shape above) c.args.line.now =
    ap (option_map (λ parts. split_line above parts.0 parts.1.items)) (sym c.in-Some-2.is)
    ∙ c.in_ok-colour.ensures above in
    λ i. or_else (none i) (or_else (read i) None)

pub returns-in-None : goal.returns-in-None
returns-in-None c = λ above.
    let none : None ≡ line_with prices_shape c.args.line.now =
    ap (option_map (λ prices. prices_line prices.items)) (sym c.in_default.is) ∙ c.in_ok-prices.ensures in
    let other : None ≡ line_with (split_shape above) c.args.line.now =
    ap (option_map (λ parts. split_line above parts.0 parts.1.items)) (sym c.in-None.is)
    ∙ c.in_ok-colour.ensures above in
    λ i. or_else (none i) (or_else (other i) None)
