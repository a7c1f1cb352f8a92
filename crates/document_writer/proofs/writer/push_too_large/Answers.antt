use Rattle.std.proofs.Common.{◌≡◌, ◌∙◌, ◌++◌, List, ℕ, [], ap}
use Rattle.std.specs.Prelude.{codes, decimal}
use Rattle.std.proofs.lemmas.List.{append-nil, append_assoc}
use Rattle.tree_document.specs.Line as spec
use Rattle.document_writer.proofs.writer.push_too_large.Goals as goal

regroup : (old entry candidate error word count feed : List ℕ)
    → (old ++ (entry ++ (candidate ++ error))) ++ ((word ++ (count ++ [])) ++ feed) ≡ old
    ++ ((entry ++ (candidate ++ (error ++ (word ++ (count ++ []))))) ++ feed)
regroup old entry candidate error word count feed = simp (append_assoc, append-nil)

pub returns : goal.returns
returns c =
    c.in_ok-push_counted.ensures
    ∙ ap (λ n. c.push_candidate.new.text.items ++ ((codes " too-large" ++ ((codes " " ++ decimal n) ++ []))
    ++ codes "\n")) c.from.ensures
    ∙ ap (λ t. t ++ ((codes " too-large" ++ ((codes " " ++ decimal c.args.vertices) ++ [])) ++ codes "\n"))
    c.in_ok-push_candidate.ensures
    ∙ regroup c.args.text.now.items (codes "entry") (spec.field_text (spec.a_formula c.args.candidate.now))
    (codes " " ++ decimal c.args.error) (codes " too-large") (codes " " ++ decimal c.args.vertices) (codes "\n")
