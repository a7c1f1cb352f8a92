-- Lines are taken up to where they stop.
use Rattle.std.proofs.Common.{◌≡◌, ◌∙◌, ℕ, Bool, true, false, cond, List, [], ◌∷◌, ◌++◌, Option, Some, None, refl, sym}
use Rattle.std.proofs.Common.{ap, subst}
use Rattle.std.proofs.lemmas.Option.{same_Some}
use Rattle.tree_document.specs.Line.{Line, Spells, in_range, is_shallow, line_text}
use Rattle.tree_document.specs.Document.{AreGoodLines, IsGoodLine}
use Rattle.tree_document.specs.Reading.{Spelled}
use Rattle.line_fields.specs.Need.{Need, follow, line_at}
use Rattle.line_reader.specs.Verdict.{Stop, at_bad, at_big, at_deep, at_end, judged, next_needs, verdict}
use Rattle.document_reader.proofs.Known.{Known}
use Rattle.document_reader.proofs.Needs.{Leads}

-- a line that is read, in its ranges and shallow is good, and the text is its spelling
pub record IsTaken (need : Need) (text : List ℕ) (line : Line) : Type 0 where
  pub text_is : text ≡ line_text line
  pub good : IsGoodLine line
  pub spelled : Spells line text
  pub allowed : (more : List Need) × (follow need line ≡ Some more)

pub taken : Known → (need : Need) (text : List ℕ) (line : Line) → line_at need text ≡ Some line → in_range line ≡ true
    → is_shallow line ≡ true → IsTaken need text line
taken known need text line read near shallow =
    let reads = known.sound need text line read in
    let same : line ≡ reads.whole = reads.same near in
    let spelled : Spells line text = subst (λ l. Spells l text) (sym same) reads.spelled in
    record {
      text_is = reads.text_is near;
      good = record {
        in_range = near;
        shallow = shallow;
        spelled =
            subst (λ t. Spells line t) (reads.text_is near) spelled;
      };
      spelled = spelled;
      allowed = (reads.allowed.0, ap (follow need) same ∙ reads.allowed.1);
    }

-- where the lines stop, and why
abbrev pub Ends : Option Stop → List Need → List (List ℕ) → Type 0
Ends None left rest = (left ≡ []) × (rest ≡ [])
Ends (Some at_end) left rest = (need : Need) × (others : List Need) × (left ≡ need ∷ others) × (rest ≡ [])
Ends (Some (at_bad bad)) left rest = (text : List ℕ) × (after : List (List ℕ)) × (rest ≡ text ∷ after) × (bad ≡ rest)
    × ((need : Need) (others : List Need) → left ≡ need ∷ others → line_at need text ≡ None)
Ends (Some (at_big bad)) left rest = (text : List ℕ) × (after : List (List ℕ)) × (rest ≡ text ∷ after) × (bad ≡ rest)
    × ((need : Need) × (others : List Need) × (left ≡ need ∷ others)
    × ((line : Line) × (line_at need text ≡ Some line) × (in_range line ≡ false)))
Ends (Some (at_deep bad)) left rest = (text : List ℕ) × (after : List (List ℕ)) × (rest ≡ text ∷ after) × (bad ≡ rest)
    × ((need : Need) × (others : List Need) × (left ≡ need ∷ others)
    × ((line : Line) × (line_at need text ≡ Some line) × (in_range line ≡ true) × (is_shallow line ≡ false)))

-- the lines that are taken, and what is left
pub record Run (needs : List Need) (texts : List (List ℕ)) (stop : Option Stop) : Type 0 where
  pub front : List Line
  pub fronts : List (List ℕ)
  pub left : List Need
  pub rest : List (List ℕ)
  pub split : texts ≡ fronts ++ rest
  pub spelled : Spelled front fronts
  pub good : AreGoodLines front
  pub leads : Leads front needs left
  pub ends : Ends stop left rest

stopped : (needs : List Need) (texts : List (List ℕ)) (stop : Option Stop) → Ends stop needs texts
    → Run needs texts stop
stopped needs texts stop ends = record {
  front = [];
  fronts = [];
  left = needs;
  rest = texts;
  split = refl;
  spelled =
      tt;
  good = tt;
  leads = refl;
  ends = ends;
}

one_more : (need : Need) (needs more : List Need) (text : List ℕ) (texts : List (List ℕ)) (line : Line)
    (stop : Option Stop) → IsTaken need text line → follow need line ≡ Some more
    → Run (more ++ needs) texts stop → Run (need ∷ needs) (text ∷ texts) stop
one_more need needs more text texts line stop is may run = record {
  front = line ∷ run.front;
  fronts = text ∷ run.fronts;
  left = run.left;
  rest = run.rest;
  split = ap (λ t. text ∷ t) run.split;
  spelled = (is.spelled, run.spelled);
  good = (is.good, run.good);
  leads = (more, may, run.leads);
  ends = run.ends;
}

head_is : (need other : Need) (needs others : List Need) → need ∷ needs ≡ other ∷ others → need ≡ other
head_is need other needs others same = (cc)

pub run : Known → (texts : List (List ℕ)) (needs : List Need) (stop : Option Stop) → verdict needs texts ≡ stop
    → Run needs texts stop
unfolding verdict
run known [] [] stop is = subst (Run [] []) is (stopped [] [] None (refl, refl))
run known [] (need ∷ needs) stop is =
    subst (Run (need ∷ needs) []) is (stopped (need ∷ needs) [] (Some at_end) (need, needs, refl, refl))
run known (text ∷ texts) [] stop is =
    subst (Run [] (text ∷ texts)) is (stopped [] (text ∷ texts) (Some (at_bad (text ∷ texts)))
    (text, texts, refl, refl, λ need others none. (cc)))
run known (text ∷ texts) (need ∷ needs) stop is =
    step (line_at need text) refl (λ more told. run known texts (more ++ needs) stop told) is
  where
    shallow_or : (line : Line) (b : Bool) → line_at need text ≡ Some line → in_range line ≡ true → is_shallow line ≡ b
        → ((more : List Need) → verdict (more ++ needs) texts ≡ stop → Run (more ++ needs) texts stop)
        → cond b (verdict (next_needs (follow need line) ++ needs) texts) (Some (at_deep (text ∷ texts))) ≡ stop
        → Run (need ∷ needs) (text ∷ texts) stop
    shallow_or line false read near deep later told =
        subst (Run (need ∷ needs) (text ∷ texts)) told (stopped (need ∷ needs) (text ∷ texts)
        (Some (at_deep (text ∷ texts))) (text, texts, refl, refl, (need, needs, refl, (line, read, near, deep))))
    shallow_or line true read near shallow later told =
        let is = taken known need text line read near shallow in
        one_more need needs is.allowed.0 text texts line stop is is.allowed.1
        (later is.allowed.0 (ap (λ more. verdict (next_needs more ++ needs) texts) (sym is.allowed.1) ∙ told))

    in_range_or : (line : Line) (b : Bool) → line_at need text ≡ Some line → in_range line ≡ b
        → ((more : List Need) → verdict (more ++ needs) texts ≡ stop → Run (more ++ needs) texts stop)
        → cond b (cond (is_shallow line) (verdict (next_needs (follow need line) ++ needs) texts)
        (Some (at_deep (text ∷ texts)))) (Some (at_big (text ∷ texts))) ≡ stop
        → Run (need ∷ needs) (text ∷ texts) stop
    in_range_or line false read near later told =
        subst (Run (need ∷ needs) (text ∷ texts)) told (stopped (need ∷ needs) (text ∷ texts)
        (Some (at_big (text ∷ texts))) (text, texts, refl, refl, (need, needs, refl, (line, read, near))))
    in_range_or line true read near later told = shallow_or line (is_shallow line) read near refl later told

    step : (o : Option Line) → line_at need text ≡ o → ((more : List Need) → verdict (more ++ needs) texts ≡ stop
        → Run (more ++ needs) texts stop)
        → judged (text ∷ texts) o (λ line. verdict (next_needs (follow need line) ++ needs) texts) ≡ stop
        → Run (need ∷ needs) (text ∷ texts) stop
    step None read later told =
        subst (Run (need ∷ needs) (text ∷ texts)) told (stopped (need ∷ needs) (text ∷ texts)
        (Some (at_bad (text ∷ texts))) (
          text,
          texts,
          refl,
          refl,
          λ other others same. ap (λ n. line_at n text)
              (sym (head_is need other needs others same)) ∙ read,
        ))
    step (Some line) read later told = in_range_or line (in_range line) read refl later told

-- what the same texts spell is the same: the lines that are taken are those with which the lines of a document begin
pub same_front : Known → (fronts : List (List ℕ)) (front others rest : List Line) (needs left end : List Need)
    → Spelled front fronts → AreGoodLines front → Leads front needs left
    → Spelled others fronts → Leads (others ++ rest) needs end → (front ≡ others) × Leads rest left end
same_front known [] [] [] rest needs left end spelled good leads also whole =
    (refl, subst (λ n. Leads rest n end) leads whole)
same_front known [] (line ∷ front) others rest needs left end spelled good leads also whole = absurd spelled
same_front known [] [] (other ∷ others) rest needs left end spelled good leads also whole = absurd also
same_front known (text ∷ fronts) [] others rest needs left end spelled good leads also whole = absurd spelled
same_front known (text ∷ fronts) (line ∷ front) [] rest needs left end spelled good leads also whole = absurd also
same_front known (text ∷ fronts) (line ∷ front) (other ∷ others) rest [] left end spelled good leads also whole =
    absurd leads
same_front known (text ∷ fronts) (line ∷ front) (other ∷ others) rest (need ∷ needs) left end spelled good leads also
    whole =
    let mine = known.complete need text line leads.0 leads.1 spelled.0 in
    let its = known.complete need text other whole.0 whole.1 also.0 in
    let both : mine.line ≡ its.line = same_Some _ _ (sym mine.read ∙ its.read) in
    let near : in_range mine.line ≡ true = mine.range ∙ good.0.in_range in
    let same : line ≡ other = sym (mine.same near) ∙ both ∙ its.same (ap in_range (sym both) ∙ near) in
    let more : leads.0 ≡ whole.0 = same_Some _ _ (sym leads.1 ∙ ap (follow need) same ∙ whole.1) in
    let behind = same_front known fronts front others rest (leads.0 ++ needs) left end spelled.1 good.1 leads.2 also.1
    (subst (λ m. Leads (others ++ rest) (m ++ needs) end) (sym more) whole.2) in
    (λ i. same i ∷ behind.0 i, behind.1)
