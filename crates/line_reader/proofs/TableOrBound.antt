-- Where a certificate is needed and no table's line stands, the lines are taken as where a bound is needed.
use Rattle.std.proofs.Common.{◌≡◌, ◌∙◌, ℕ, ℤ, List, [], ◌∷◌, ◌++◌, Option, Some, None, refl, sym, ap}
use Rattle.std.specs.Option.{option_map}
use Rattle.mgf_reader.specs.Text.{ended_lines}
use Rattle.tree_document.specs.Line.{prices_line, split_line}
use Rattle.line_reader.specs.inside.Cut.{cut_line}
use Rattle.line_fields.specs.Field.{form_at}
use Rattle.line_fields.specs.Need.{Need, first_line, follow, line_at, line_with, need_bound, need_cert}
use Rattle.line_fields.specs.Need.{or_else, prices_shape, split_shape, table_shape}
use Rattle.line_reader.specs.Verdict.{judged, next_needs, verdict}
use Rattle.line_reader.proofs.Cutting.{cut_some}

-- the same is needed behind each line
same_judged : (others : List Need) (texts rest : List (List ℕ)) (prices : Option (List ℤ)) (split : Option (ℕ × List ℕ))
    → judged texts (or_else (option_map (λ numbers. prices_line numbers) prices)
    (or_else (option_map (λ parts. split_line 0 parts.0 parts.1) split) None))
    (λ l. verdict (next_needs (follow need_cert l) ++ others) rest)
    ≡ judged texts (or_else (option_map (λ numbers. prices_line numbers) prices)
    (or_else (option_map (λ parts. split_line 0 parts.0 parts.1) split) None))
    (λ l. verdict (next_needs (follow (need_bound 0) l) ++ others) rest)
same_judged others texts rest (Some numbers) split = refl
same_judged others texts rest None (Some parts) = refl
same_judged others texts rest None None = refl

-- the lines that were cut are judged
abbrev JudgedAt : Need → List Need → List ℕ → List ℕ → List ℕ → Type 0
JudgedAt need others bytes line rest =
    verdict (need ∷ others) (ended_lines bytes) ≡ judged (line ∷ ended_lines rest) (line_at need line)
    (λ l. verdict (next_needs (follow need l) ++ others) (ended_lines rest))

judged_at : (need : Need) (others : List Need) (bytes line rest : List ℕ) → Some (line, rest) ≡ cut_line bytes
    → JudgedAt need others bytes line rest
unfolding verdict
judged_at need others bytes line rest cut = let is =
    cut_some bytes line rest (sym cut) in ap (verdict (need ∷ others)) is.lines

pub no_table : (bytes line rest : List ℕ) → Some (line, rest) ≡ cut_line bytes → None ≡ line_with table_shape line
    → (others : List Need) → verdict (need_cert ∷ others) (ended_lines bytes) ≡ verdict (need_bound 0 ∷ others)
    (ended_lines bytes)
no_table bytes line rest cut none others =
    judged_at need_cert others bytes line rest cut
    ∙ ap (λ o. judged (line ∷ ended_lines rest) (or_else o (first_line (prices_shape ∷ split_shape 0 ∷ []) line))
    (λ l. verdict (next_needs (follow need_cert l) ++ others) (ended_lines rest))) (sym none)
    ∙ same_judged others (line ∷ ended_lines rest) (ended_lines rest)
    (form_at prices_shape.word prices_shape.kinds prices_shape.tail line)
    (form_at (split_shape 0).word (split_shape 0).kinds (split_shape 0).tail line)
    ∙ sym (judged_at (need_bound 0) others bytes line rest cut)
