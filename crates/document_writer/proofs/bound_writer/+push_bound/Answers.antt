use Rattle.std.proofs.Common.{◌≡◌, ◌∙◌, ◌+◌, ◌++◌, ◌∷◌, ap, sym}
use Rattle.tree_certificate.specs.BoundValue.{split}
use Rattle.tree_certificate.specs.BoundView.{bound_value}
use Rattle.tree_document.specs.Document.{bound_lines, text_of}
use Rattle.tree_document.specs.Line.{split_line}
use Rattle.tree_certificate.proofs.BoundValues.{value_of_split}
use Rattle.document_writer.proofs.TextOf.{head_and_two}
use Rattle.document_writer.proofs.bound_writer.+push_bound.Goals as goal

pub returns-in_ok-push_bound-in-Split-2 : goal.returns-in_ok-push_bound-in-Split-2
returns-in_ok-push_bound-in-Split-2 t c = λ above.
    let whole : bound_value c.args.bound.now ≡ split c.in-Split.colour c.in-Split.part (bound_value c.in-Split.first)
    (bound_value c.in-Split.second) =
    ap bound_value c.in-Split.is ∙ value_of_split c.in-Split.colour c.in-Split.part c.in-Split.first c.in-Split.second
    in
    let first : bound_value c.get.result.now ≡ bound_value c.in-Split.first = ap bound_value c.get.ensures in
    let second : bound_value c.get-in-Split.result.now ≡ bound_value c.in-Split.second =
    ap bound_value c.get-in-Split.ensures in
    head_and_two c.args.text.now.items c.push_split.new.text.items c.push_bound.new.text.items
    c.push_bound-in-Split.new.text.items (split_line above c.in-Split.colour c.as_slice.result.now)
    (bound_lines (above + 1) (bound_value c.get.result.now))
    (bound_lines (above + 1) (bound_value c.get-in-Split.result.now))
    (c.in_ok-push_split-in-Split.ensures above) (c.in_ok-push_bound-in-Split.ensures (above + 1))
    (c.in_ok-push_bound-in-Split-2.ensures (above + 1))
    ∙ (λ i. c.args.text.now.items ++ text_of (split_line above c.in-Split.colour
    (c.as_slice.ensures i) ∷ (bound_lines (above + 1) (first i) ++ bound_lines (above + 1) (second i))))
    ∙ ap (λ value. c.args.text.now.items ++ text_of (bound_lines above value)) (sym whole)
