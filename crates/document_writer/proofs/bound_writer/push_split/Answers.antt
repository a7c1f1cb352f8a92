use Rattle.std.proofs.Common.{◌≡◌, ◌∙◌, ◌++◌, ℕ, List, [], ◌∷◌, ap, sym}
use Rattle.std.specs.Prelude.{codes, decimal}
use Rattle.std.specs.List.{flat_map}
use Rattle.std.proofs.lemmas.List.{append-nil, append_assoc}
use Rattle.document_writer.proofs.TextOf.{natural_texts}
use Rattle.document_writer.proofs.bound_writer.push_split.Goals as goal

regroup : (old word colour edges feed : List ℕ) → (((old ++ word) ++ colour) ++ edges) ++ feed ≡ old ++
    (((word ++ (colour ++ (edges ++ []))) ++ feed) ++ [])
regroup old word colour edges feed = simp (append_assoc, append-nil)

pub returns : goal.returns
returns c = λ above.
    let old = c.args.text.now.items in
    let word : c.extend_from_slice.new.self.items ≡ old ++ codes "split" = c.in_ok-extend_from_slice.ensures.items in
    let colour : c.push_number.new.text.items ≡ c.extend_from_slice.new.self.items
    ++ (codes " " ++ decimal c.args.colour) =
    c.in_ok-push_number.ensures ∙ ap (λ n. c.extend_from_slice.new.self.items ++ (codes " " ++ decimal n))
    c.from.ensures in
    let pushed : c.push.new.self.items ≡ c.push_edges.new.text.items ++ 10 ∷ [] = c.in_ok-push.ensures.items in
    let edges = flat_map (λ edge. codes " " ++ decimal edge) c.args.part.now in
    pushed ∙ ap (λ t. t ++ 10 ∷ []) (c.in_ok-push_edges.ensures
    ∙ ap (λ t. t ++ edges) (colour ∙ ap (λ t. t ++ (codes " " ++ decimal c.args.colour)) word))
    ∙ regroup old (codes "split") (codes " " ++ decimal c.args.colour) edges (10 ∷ [])
    ∙ ap (λ t. old ++ (((codes "split" ++ ((codes " " ++ decimal c.args.colour) ++ (t ++ []))) ++ 10 ∷ []) ++ []))
    (sym (natural_texts c.args.part.now))
