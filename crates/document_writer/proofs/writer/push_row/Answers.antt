use Rattle.std.proofs.Common.{◌≡◌, ◌∙◌, ◌++◌, List, ℕ, [], ◌∷◌, ap}
use Rattle.std.specs.Prelude.{codes, decimal}
use Rattle.std.specs.Fmt.{signed_decimal}
use Rattle.std.proofs.lemmas.List.{append-nil, append_assoc}
use Rattle.tree_document.specs.Line as spec
use Rattle.document_writer.proofs.writer.push_row.Goals as goal

regroup : (old r e p k f l w n : List ℕ) → ((old ++ (r ++ (e ++ (p ++ k)))) ++ (f ++ (l ++ w))) ++ n ≡ old ++
    ((r ++ (e ++ (p ++ (k ++ (f ++ (l ++ (w ++ []))))))) ++ n)
regroup old r e p k f l w n = simp (append_assoc, append-nil)

pub returns : goal.returns
returns c =
    let pushed : c.push.new.self.items ≡ c.push_row_formulas.new.text.items ++ 10 ∷ [] = c.in_ok-push.ensures.items in
    pushed ∙ ap (λ t. t ++ 10 ∷ []) (c.in_ok-push_row_formulas.ensures
    ∙ ap (λ t. t ++ (spec.field_text (spec.a_formula c.args.row.now.formula)
    ++ (spec.field_text (spec.a_formula c.args.row.now.loss)
    ++ (codes " " ++ signed_decimal c.args.row.now.weight)))) c.in_ok-push_row_numbers.ensures)
    ∙ regroup c.args.text.now.items (codes "r") (codes " " ++ decimal c.args.row.now.edge)
    (codes " " ++ decimal c.args.row.now.parent) (codes " " ++ decimal c.args.row.now.peak)
    (spec.field_text (spec.a_formula c.args.row.now.formula))
    (spec.field_text (spec.a_formula c.args.row.now.loss)) (codes " " ++ signed_decimal c.args.row.now.weight) (10 ∷ [])
