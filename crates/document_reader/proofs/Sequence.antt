-- Parts that are taken one after another.
use Rattle.std.proofs.Common.{◌≡◌, ◌<◌, ◌≤◌, ◌-◌, ◌∙◌, ℕ, zero, suc, List, [], ◌∷◌, Bool, true, ◌++◌, length, map, ◌+◌}
use Rattle.std.proofs.Common.{refl, sym, ap, subst, arith}
use Rattle.std.specs.Prelude.{replicate}
use Rattle.std.specs.List.{flat_map, list_all}
use Rattle.std.proofs.lemmas.Bool.{and_from}
use Rattle.std.proofs.lemmas.Grind.{flat_map-append}
use Rattle.std.proofs.lemmas.List.Folds.{list_all-append}
use Rattle.std.proofs.lemmas.List.{append-nil, append_assoc, length-append, map-append}
use Rattle.mgf_reader.specs.Text.{ended_lines}
use Rattle.line_reader.specs.declared.stop.Stop as code
use Rattle.line_reader.specs.declared.stop.Stop.TheVariants.{Bad, Big, Deep, End, OutOfMemory}
use Rattle.tree_document.specs.Line.{Line, line_text}
use Rattle.tree_document.specs.Document.{text_of}
use Rattle.line_fields.specs.Need.{Need}
use Rattle.line_reader.specs.Taking.{StopsAs}
use Rattle.line_reader.specs.Verdict.{Took, verdict}
use Rattle.document_reader.proofs.Finishing.{good_append}

text_of-append : (first later : List Line) → text_of (first ++ later) ≡ text_of first ++ text_of later
text_of-append first later = flat_map-append _ first later

-- what a part leaves is taken by the next one
pub then_took : (needs now left more : List Need) (lines news : List Line) (bytes rest later : List ℕ)
    → Took needs (now ++ left) lines bytes rest → Took now more news rest later
    → Took needs (more ++ left) (lines ++ news) bytes later
then_took needs now left more lines news bytes rest later first next = record {
  spelled = first.spelled ∙ ap (λ t. text_of lines ++ t) next.spelled
      ∙ sym (append_assoc (text_of lines) (text_of news) later)
      ∙ ap (λ t. t ++ later) (sym (text_of-append lines news));
  good = good_append lines news first.good next.good;
  unfinished = first.unfinished ∙ next.unfinished;
  same = λ others. first.same others ∙ ap (λ n. verdict n (ended_lines rest)) (append_assoc now left others)
      ∙ next.same (left ++ others) ∙ ap (λ n. verdict n (ended_lines later)) (sym (append_assoc more left others));
}

pub then_stops : (needs now left : List Need) (lines : List Line) (bytes rest : List ℕ) (stop : code.Stop)
    → Took needs (now ++ left) lines bytes rest → StopsAs now rest stop → StopsAs needs bytes stop
then_stops needs now left lines bytes rest (Bad at) first next =
    λ others. first.same others ∙ ap (λ n. verdict n (ended_lines rest)) (append_assoc now left others)
    ∙ next (left ++ others)
then_stops needs now left lines bytes rest (Big at) first next =
    λ others. first.same others ∙ ap (λ n. verdict n (ended_lines rest)) (append_assoc now left others)
    ∙ next (left ++ others)
then_stops needs now left lines bytes rest (Deep at) first next =
    λ others. first.same others ∙ ap (λ n. verdict n (ended_lines rest)) (append_assoc now left others)
    ∙ next (left ++ others)
then_stops needs now left lines bytes rest End first next =
    λ others. first.same others ∙ ap (λ n. verdict n (ended_lines rest)) (append_assoc now left others)
    ∙ next (left ++ others)
then_stops needs now left lines bytes rest OutOfMemory first next = tt

-- the same of the last part
pub last_took : (needs now : List Need) (lines news : List Line) (bytes rest later : List ℕ)
    → Took needs now lines bytes rest → Took now [] news rest later → Took needs [] (lines ++ news) bytes later
last_took needs now lines news bytes rest later first next =
    then_took needs now [] [] lines news bytes rest later (subst (λ n. Took needs n lines bytes rest)
    (sym (append-nil now)) first) next

pub last_stops : (needs now : List Need) (lines : List Line) (bytes rest : List ℕ) (stop : code.Stop)
    → Took needs now lines bytes rest → StopsAs now rest stop → StopsAs needs bytes stop
last_stops needs now lines bytes rest stop first next =
    then_stops needs now [] lines bytes rest stop (subst (λ n. Took needs n lines bytes rest) (sym (append-nil now))
    first) next

one_less : (need : Need) (left : ℕ) → 0 < left → replicate left need ≡ need ∷ replicate (left - 1) need
one_less need zero some = absurd (omega arith)
one_less need (suc left) some = ap (λ n. need ∷ replicate n need) (omega arith)

-- one of many parts of a kind
pub one_took : (needs : List Need) (need : Need) (left : ℕ) (lines news : List Line) (bytes rest later : List ℕ)
    → 0 < left → Took needs (replicate left need) lines bytes rest → Took (need ∷ []) [] news rest later
    → Took needs (replicate (left - 1) need) (lines ++ news) bytes later
one_took needs need left lines news bytes rest later some first next =
    then_took needs (need ∷ []) (replicate (left - 1) need) [] lines news bytes rest later
    (subst (λ n. Took needs n lines bytes rest) (one_less need left some) first) next

pub one_stops : (needs : List Need) (need : Need) (left : ℕ) (lines : List Line) (bytes rest : List ℕ)
    (stop : code.Stop) → 0 < left → Took needs (replicate left need) lines bytes rest → StopsAs (need ∷ []) rest stop
    → StopsAs needs bytes stop
one_stops needs need left lines bytes rest stop some first next =
    then_stops needs (need ∷ []) (replicate (left - 1) need) lines bytes rest stop
    (subst (λ n. Took needs n lines bytes rest) (one_less need left some) first) next

-- before the first part
pub nothing_took : (needs : List Need) (bytes : List ℕ) → Took needs needs [] bytes bytes
nothing_took needs bytes = record { spelled = refl; good = tt; unfinished = refl; same = λ others. refl }

-- one item more
pub mapped_took : {X : Type 0} (f : X → Line) (needs left : List Need) (items new : List X) (item : X)
    (bytes rest : List ℕ) → new ≡ items ++ item ∷ [] → Took needs left (map f items ++ f item ∷ []) bytes rest
    → Took needs left (map f new) bytes rest
mapped_took f needs left items new item bytes rest is took =
    subst (λ l. Took needs left l bytes rest) (sym (ap (map f) is ∙ map-append f items (item ∷ []))) took

pub flat_took : {X : Type 0} (f : X → List Line) (needs left : List Need) (items new : List X) (item : X)
    (bytes rest : List ℕ) → new ≡ items ++ item ∷ [] → Took needs left (flat_map f items ++ f item) bytes rest
    → Took needs left (flat_map f new) bytes rest
flat_took f needs left items new item bytes rest is took =
    subst (λ l. Took needs left l bytes rest) (sym (ap (flat_map f) is ∙ flat_map-append f items (item ∷ [])
    ∙ ap (λ t. flat_map f items ++ t) (append-nil (f item)))) took

pub one_longer : {X : Type 0} (items new : List X) (item : X) (left count : ℕ) → new ≡ items ++ item ∷ [] → 0 < left
    → length items + left ≡ count → length new + (left - 1) ≡ count
one_longer items new item left count is some all = let long : length new ≡ length (items ++ item ∷ []) =
    ap length is in omega (arith, length-append items (item ∷ []))

pub near_more : {X : Type 0} (test : X → Bool) (items new : List X) (item : X) → new ≡ items ++ item ∷ []
    → list_all test items ≡ true → test item ≡ true → list_all test new ≡ true
near_more test items new item is all one =
    ap (list_all test) is ∙ list_all-append test items (item ∷ []) ∙ and_from _ _ all (and_from _ _ one refl)

pub map_of_map : {A B C : Type 0} (f : B → C) (g : A → B) (items : List A)
    → map f (map g items) ≡ map (λ x. f (g x)) items
map_of_map f g [] = refl
map_of_map f g (x ∷ items) = ap (λ t. f (g x) ∷ t) (map_of_map f g items)

-- a line is longer than nothing
pub took_shorter : (needs left : List Need) (line : Line) (lines : List Line) (bytes rest : List ℕ)
    → Took needs left (line ∷ lines) bytes rest → length rest < length bytes
took_shorter needs left line lines bytes rest took =
    let whole : length bytes ≡ length (((line_text line ++ 10 ∷ []) ++ text_of lines) ++ rest) =
    ap length took.spelled in
    omega (
      arith,
      length-append ((line_text line ++ 10 ∷ []) ++ text_of lines) rest,
      length-append
          (line_text line ++ 10 ∷ []) (text_of lines),
      length-append (line_text line) (10 ∷ []),
    )

pub no_longer : (needs left : List Need) (lines : List Line) (bytes rest : List ℕ) → Took needs left lines bytes rest
    → length rest ≤ length bytes
no_longer needs left lines bytes rest took = let whole : length bytes ≡ length (text_of lines ++ rest) =
    ap length took.spelled in omega (arith, length-append (text_of lines) rest)
