-- One line where something is needed.
use Rattle.std.proofs.Common.{◌≡◌, ◌∙◌, ℕ, true, false, cond, List, [], ◌∷◌, ◌++◌, Option, Some, None, refl, sym, ap}
use Rattle.std.specs.Option.{option_map}
use Rattle.std.proofs.lemmas.List.{append-nil, append_assoc}
use Rattle.std.proofs.lemmas.Option.{same_Some}
use Rattle.mgf_reader.specs.Text.{ended_lines}
use Rattle.tree_document.specs.Line.{Line, in_range, is_shallow, line_text}
use Rattle.tree_document.specs.Document.{IsGoodLine}
use Rattle.line_reader.specs.inside.Cut.{cut_line}
use Rattle.line_fields.specs.Field.{Values, form_at}
use Rattle.line_fields.specs.Need.{Need, need_document, need_sections, need_body, need_list, need_formula}
use Rattle.line_fields.specs.Need.{need_entries, need_entry, need_row, need_cert, need_table_row, need_bound}
use Rattle.line_fields.specs.Need.{need_potentials, need_done, Shape, first_line, follow, line_at, line_with}
use Rattle.line_fields.specs.Need.{or_else, shapes_of}
use Rattle.line_reader.specs.Verdict.{Stop, Stops, Took, at_bad, at_big, at_deep, at_end, judged, next_needs}
use Rattle.line_reader.specs.Verdict.{verdict}
use Rattle.line_reader.proofs.Cutting.{IsCut, cut_none, cut_some}

-- a line that is read is its spelling
abbrev pub OneSpelling : Type 0
OneSpelling = (need : Need) (text : List ℕ) (line : Line) → line_at need text ≡ Some line → in_range line ≡ true
    → is_shallow line ≡ true → (text ≡ line_text line) × IsGoodLine line

pub head_end : (need : Need) (bytes : List ℕ) → None ≡ cut_line bytes → Stops (need ∷ []) bytes at_end
unfolding verdict
head_end need bytes none = λ others. ap (verdict (need ∷ others)) (cut_none bytes (sym none))

step : (need : Need) (others : List Need) (bytes line rest : List ℕ) → IsCut bytes line rest
    → verdict (need ∷ others) (ended_lines bytes) ≡ judged (line ∷ ended_lines rest) (line_at need line)
    (λ l. verdict (next_needs (follow need l) ++ others) (ended_lines rest))
unfolding verdict
step need others bytes line rest is = ap (verdict (need ∷ others)) is.lines

pub head_bad : (need : Need) (bytes line rest : List ℕ) → Some (line, rest) ≡ cut_line bytes → None ≡ line_at need line
    → Stops (need ∷ []) bytes (at_bad (ended_lines bytes))
head_bad need bytes line rest cut none = λ others.
    let is = cut_some bytes line rest (sym cut) in
    step need others bytes line rest is ∙ ap (λ o. judged (line ∷ ended_lines rest) o
    (λ l. verdict (next_needs (follow need l) ++ others) (ended_lines rest))) (sym none)
    ∙ ap (λ lines. Some (at_bad lines)) (sym is.lines)

-- what is judged of a line in its ranges
abbrev near : (need : Need) (others : List Need) (line rest : List ℕ) (it : Line) → Option Stop
near need others line rest it = cond (is_shallow it) (verdict (next_needs (follow need it) ++ others)
    (ended_lines rest)) (Some (at_deep (line ∷ ended_lines rest)))

judged_near : (need : Need) (others : List Need) (bytes line rest : List ℕ) (it : Line) → IsCut bytes line rest
    → Some it ≡ line_at need line → true ≡ in_range it
    → verdict (need ∷ others) (ended_lines bytes) ≡ near need others line rest it
judged_near need others bytes line rest it is read within =
    step need others bytes line rest is ∙ ap (λ o. judged (line ∷ ended_lines rest) o
    (λ l. verdict (next_needs (follow need l) ++ others) (ended_lines rest))) (sym read)
    ∙ ap (λ b. cond b (near need others line rest it) (Some (at_big (line ∷ ended_lines rest)))) (sym within)

pub head_big : (need : Need) (bytes line rest : List ℕ) (it : Line) → Some (line, rest) ≡ cut_line bytes
    → Some it ≡ line_at need line → false ≡ in_range it → Stops (need ∷ []) bytes (at_big (ended_lines bytes))
head_big need bytes line rest it cut read far = λ others.
    let is = cut_some bytes line rest (sym cut) in
    step need others bytes line rest is ∙ ap (λ o. judged (line ∷ ended_lines rest) o
    (λ l. verdict (next_needs (follow need l) ++ others) (ended_lines rest))) (sym read)
    ∙ ap (λ b. cond b (near need others line rest it) (Some (at_big (line ∷ ended_lines rest)))) (sym far)
    ∙ ap (λ lines. Some (at_big lines)) (sym is.lines)

pub head_deep : (need : Need) (bytes line rest : List ℕ) (it : Line) → Some (line, rest) ≡ cut_line bytes
    → Some it ≡ line_at need line → true ≡ in_range it → false ≡ is_shallow it
    → Stops (need ∷ []) bytes (at_deep (ended_lines bytes))
head_deep need bytes line rest it cut read within deep = λ others.
    let is = cut_some bytes line rest (sym cut) in
    judged_near need others bytes line rest it is read within
    ∙ ap (λ b. cond b (verdict (next_needs (follow need it) ++ others) (ended_lines rest))
    (Some (at_deep (line ∷ ended_lines rest)))) (sym deep)
    ∙ ap (λ lines. Some (at_deep lines)) (sym is.lines)

pub shallow_took : OneSpelling → (need : Need) (bytes line rest : List ℕ) (it : Line)
    → Some (line, rest) ≡ cut_line bytes → Some it ≡ line_at need line → true ≡ in_range it → true ≡ is_shallow it
    → Took (need ∷ []) (next_needs (follow need it)) (it ∷ []) bytes rest
shallow_took one need bytes line rest it cut read within shallow =
    let is = cut_some bytes line rest (sym cut) in
    let spelled = one need line it (sym read) (sym within) (sym shallow) in
    record {
      spelled = is.whole ∙ ap (λ t. t ++ 10 ∷ rest) spelled.0 ∙ sym (append_assoc (line_text it) (10 ∷ []) rest)
          ∙ ap (λ t. t ++ rest) (sym (append-nil (line_text it ++ 10 ∷ [])));
      good = (spelled.1, tt);
      unfinished = is.unfinished;
      same = λ others. judged_near need others bytes line rest it is read within
          ∙ ap (λ b. cond b (verdict (next_needs (follow need it) ++ others) (ended_lines rest))
          (Some (at_deep (line ∷ ended_lines rest)))) (sym shallow);
    }

-- the ways to read a line where no bound is needed under a split make shallow ones
abbrev MakeShallow : List Shape → Type 0
MakeShallow [] = Unit {0}
MakeShallow (shape ∷ shapes) =
    ((values : Values shape.kinds shape.tail) → is_shallow (shape.make values) ≡ true) × MakeShallow shapes

shallow_with : (shape : Shape) (text : List ℕ) (it : Line) →
    ((values : Values shape.kinds shape.tail) → is_shallow (shape.make values) ≡ true) → line_with shape text ≡ Some it
    → is_shallow it ≡ true
shallow_with shape text it makes read = step (form_at shape.word shape.kinds shape.tail text) read
  where
    step : (o : Option (Values shape.kinds shape.tail)) → option_map shape.make o ≡ Some it → is_shallow it ≡ true
    step None told = (cc)
    step (Some values) told = ap is_shallow (sym (same_Some _ _ told)) ∙ makes values

shallow_first : (shapes : List Shape) (text : List ℕ) (it : Line) → MakeShallow shapes
    → first_line shapes text ≡ Some it → is_shallow it ≡ true
shallow_first [] text it make read = (cc)
shallow_first (shape ∷ shapes) text it make read =
    step (line_with shape text) refl (shallow_first shapes text it make.1) read
  where
    step : (o : Option Line) → line_with shape text ≡ o → (first_line shapes text ≡ Some it → is_shallow it ≡ true)
        → or_else o (first_line shapes text) ≡ Some it → is_shallow it ≡ true
    step None told later taken = later taken
    step (Some other) told later taken = shallow_with shape text it make.0 (told ∙ taken)

-- a fact of a line that is read, once it is known that it is shallow; this has to be told where a bound is needed under
-- splits
abbrev pub OnceShallow : Need → Line → Type 0 → Type 0
OnceShallow (need_bound under) it Fact = true ≡ is_shallow it → Fact
OnceShallow need it Fact = Fact

once_shallow : (need : Need) (text : List ℕ) (it : Line) (Fact : Type 0) → Some it ≡ line_at need text
    → (true ≡ is_shallow it → Fact) → OnceShallow need it Fact
once_shallow (need_bound under) text it Fact read from = from
once_shallow need_document text it Fact read from = from (sym
    (shallow_first (shapes_of need_document) text it (λ v. refl, tt) (sym read)))
once_shallow need_sections text it Fact read from = from (sym
    (shallow_first (shapes_of need_sections) text it (λ v. refl, (λ v. refl, (λ v. refl, tt))) (sym read)))
once_shallow need_body text it Fact read from = from (sym (shallow_first (shapes_of need_body) text it
    (λ v. refl, (λ v. refl, (λ v. refl, (λ v. refl, (λ v. refl, tt))))) (sym read)))
once_shallow need_list text it Fact read from = from (sym (shallow_first (shapes_of need_list) text it (λ v. refl, tt)
    (sym read)))
once_shallow need_formula text it Fact read from = from (sym
    (shallow_first (shapes_of need_formula) text it (λ v. refl, tt) (sym read)))
once_shallow need_entries text it Fact read from = from (sym
    (shallow_first (shapes_of need_entries) text it (λ v. refl, tt) (sym read)))
once_shallow need_entry text it Fact read from = from (sym (shallow_first (shapes_of need_entry) text it
    (λ v. refl, (λ v. refl, tt)) (sym read)))
once_shallow need_row text it Fact read from = from (sym (shallow_first (shapes_of need_row) text it (λ v. refl, tt)
    (sym read)))
once_shallow need_cert text it Fact read from = from (sym (shallow_first (shapes_of need_cert) text it
    (λ v. refl, (λ v. refl, (λ v. refl, tt))) (sym read)))
once_shallow need_table_row text it Fact read from = from (sym
    (shallow_first (shapes_of need_table_row) text it (λ v. refl, tt) (sym read)))
once_shallow need_potentials text it Fact read from = from (sym
    (shallow_first (shapes_of need_potentials) text it (λ v. refl, tt) (sym read)))
once_shallow need_done text it Fact read from = from (sym (shallow_first (shapes_of need_done) text it (λ v. refl, tt)
    (sym read)))

pub head_took : OneSpelling → (need : Need) (bytes line rest : List ℕ) (it : Line) → Some (line, rest) ≡ cut_line bytes
    → Some it ≡ line_at need line → true ≡ in_range it
    → OnceShallow need it (Took (need ∷ []) (next_needs (follow need it)) (it ∷ []) bytes rest)
head_took one need bytes line rest it cut read within =
    once_shallow need line it _ read (shallow_took one need bytes line rest it cut read within)
