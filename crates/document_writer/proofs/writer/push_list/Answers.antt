use Rattle.std.proofs.Common.{◌∙◌, ◌++◌, ◌∷◌, ap, length, map}
use Rattle.tree_document.specs.Document.{text_of}
use Rattle.tree_document.specs.Line as spec
use Rattle.document_writer.proofs.TextOf.{head_and_items}
use Rattle.document_writer.proofs.writer.push_list.Goals as goal

pub returns : goal.returns
returns c =
    let formulas = c.items-formulas.ensures.items ∙ ap (λ list. list.formulas) c.list.view_is in
    let mz = ap (λ list. list.mz) c.list.view_is in
    let intensity = ap (λ list. list.intensity) c.list.view_is in
    head_and_items c.args.text.now.items c.push_list_head.new.text.items c.push_formulas.new.text.items
    (spec.list_line c.list.inside.mz c.list.inside.intensity (length c.items-formulas.result.now))
    (λ x. spec.formula_line x) c.items-formulas.result.now
    c.in_ok-push_list_head.ensures c.in_ok-push_formulas.ensures
    ∙ (λ i. c.args.text.now.items ++ text_of (spec.list_line (mz i) (intensity i) (length (formulas i)) ∷ map
    (λ x. spec.formula_line x) (formulas i)))
