use Rattle.std.proofs.Common.{rules, ◌≡◌, ◌∙◌, ◌++◌, [], ℕ, List, ap, length}
use Rattle.std.specs.Prelude.{codes, decimal}
use Rattle.std.specs.Fmt.{signed_decimal}
use Rattle.std.proofs.lemmas.Int.{to_z-of_z}
use Rattle.std.proofs.lemmas.List.{append-nil, append_assoc}
use mir.Val.{SFits}
use mir.Syntax.{w64}
use Rattle.tree_document.specs.Line as spec
use Rattle.document_writer.proofs.writer.push_tree_line.Goals as goal

regroup : (old entry candidate error score upper mark count feed : List ℕ)
    → (old ++ (entry ++ (candidate ++ error))) ++ (score ++ (upper ++ (mark ++ (count ++ feed))))
    ≡ old ++ ((entry ++ (candidate ++ (error ++ (score ++ (upper ++ (mark ++ (count ++ []))))))) ++ feed)
regroup old entry candidate error score upper mark count feed = simp (append_assoc, append-nil)

pub returns : goal.returns
returns c =
    let score : SFits w64 c.tree.inside.score = search rules in
    let upper : SFits w64 c.tree.inside.upper = search rules in
    let old = c.args.text.now.items in
    let rows = c.items.ensures ∙ ap (λ tree. tree.rows) c.tree.view_is in
    (simp to_z-of_z at c.in_ok-push_scores.ensures)
    ∙ ap (λ t. t ++ ((codes " " ++ signed_decimal c.tree.inside.score)
    ++ ((codes " " ++ signed_decimal c.tree.inside.upper)
    ++ (spec.field_text (spec.a_mark c.tree.inside.mark) ++ ((codes " " ++ decimal (length c.items.result.now))
    ++ codes "\n"))))) c.in_ok-push_candidate.ensures
    ∙ regroup old (codes "entry") (spec.field_text (spec.a_formula c.args.candidate.now))
    (codes " " ++ decimal c.args.error) (codes " " ++ signed_decimal c.tree.inside.score)
    (codes " " ++ signed_decimal c.tree.inside.upper) (spec.field_text (spec.a_mark c.tree.inside.mark))
    (codes " " ++ decimal (length c.items.result.now)) (codes "\n")
    ∙ (λ i. old ++ (spec.line_text (spec.tree_line c.args.candidate.now c.args.error (c.tree.view_is i).score
    (c.tree.view_is i).upper (c.tree.view_is i).mark (length (rows i))) ++ codes "\n"))
