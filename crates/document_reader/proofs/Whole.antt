-- Bytes behind the end of a document.
use Rattle.std.proofs.Common.{◌≡◌, ◌≤◌, ◌+◌, ◌-◌, ◌∙◌, ◌⊎◌, ℕ, List, [], ◌∷◌, length, Some, None, eqb, false, inl, inr}
use Rattle.std.proofs.Common.{refl, sym, ap, arith}
use Rattle.mgf_reader.specs.Text.{ended_lines, unfinished_line}
use Rattle.tree_document.specs.Reading.{IsBadLine, IsPastEnd}
use Rattle.tree_document.specs.Line.{Line}
use Rattle.line_fields.specs.Need.{need_document}
use Rattle.line_reader.specs.Verdict.{Took, at_bad, verdict}
use Rattle.document_reader.proofs.WholeLines.{all_unfinished}

left_over : (lines : List Line) (bytes rest : List ℕ) (texts : List (List ℕ))
    → Took (need_document ∷ []) [] lines bytes rest → ended_lines rest ≡ texts
    → verdict (need_document ∷ []) (ended_lines bytes) ≡ verdict [] texts
left_over lines bytes rest texts took is = took.same [] ∙ ap (verdict []) is

verdict-more : (text : List ℕ) (texts : List (List ℕ)) → verdict [] (text ∷ texts) ≡ Some (at_bad (text ∷ texts))
unfolding verdict
verdict-more text texts = refl

verdict-done : verdict [] [] ≡ None
unfolding verdict
verdict-done = refl

pub within : ((texts bad : List (List ℕ)) → verdict (need_document ∷ []) texts ≡ Some (at_bad bad)
    → length bad ≤ length texts)
    → (lines : List Line) (bytes rest : List ℕ) → Took (need_document ∷ []) [] lines bytes rest
    → length (ended_lines rest) ≤ length (ended_lines bytes)
within law lines bytes rest took = step (ended_lines rest) refl
  where
    step : (texts : List (List ℕ)) → ended_lines rest ≡ texts → length (ended_lines rest) ≤ length (ended_lines bytes)
    step [] is = let none : length (ended_lines rest) ≡ 0 = ap length is in omega arith
    step (text ∷ texts) is =
        let few = law (ended_lines bytes) (text ∷ texts) (left_over lines bytes rest (text ∷ texts) took is
        ∙ verdict-more text texts) in
        let same : length (ended_lines rest) ≡ length (text ∷ texts) = ap length is in
        omega arith

pub refused : ((texts bad : List (List ℕ)) (line : ℕ) → verdict (need_document ∷ []) texts ≡ Some (at_bad bad)
    → line ≡ (length texts + 1) - length bad → IsBadLine texts line)
    → ((texts : List (List ℕ)) (unfinished : List ℕ) (line : ℕ) → verdict (need_document ∷ []) texts ≡ None
    → (unfinished ≡ [] → ⊥) → line ≡ length texts + 1 → IsPastEnd texts unfinished line)
    → (lines : List Line) (bytes rest : List ℕ) (line : ℕ) → Took (need_document ∷ []) [] lines bytes rest
    → eqb (length rest) 0 ≡ false
    → line ≡ (length (ended_lines bytes) + 1) - length (ended_lines rest)
    → IsBadLine (ended_lines bytes) line ⊎ IsPastEnd (ended_lines bytes) (unfinished_line bytes) line
refused bad past lines bytes rest line took some number = step (ended_lines rest) refl
  where
    step : (texts : List (List ℕ)) → ended_lines rest ≡ texts
        → IsBadLine (ended_lines bytes) line ⊎ IsPastEnd (ended_lines bytes) (unfinished_line bytes) line
    step [] is =
        let none : length (ended_lines rest) ≡ 0 = ap length is in
        inr (past (ended_lines bytes) (unfinished_line bytes) line
        (left_over lines bytes rest [] took is ∙ verdict-done)
        (λ empty. all_unfinished rest is some (sym took.unfinished ∙ empty)) (omega arith))
    step (text ∷ texts) is = inl (bad (ended_lines bytes) (text ∷ texts) line
        (left_over lines bytes rest (text ∷ texts) took is ∙ verdict-more text texts)
        (number ∙ ap (λ l. (length (ended_lines bytes) + 1) - length l) is))
