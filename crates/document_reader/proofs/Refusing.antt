-- Where the lines of a text stop, it is refused as the documents say.
use Rattle.std.proofs.Common.{◌≡◌, ◌≤◌, ◌+◌, ◌-◌, ◌∙◌, ℕ, true, List, [], ◌∷◌, ◌++◌, length, Option, Some, None, refl}
use Rattle.std.proofs.Common.{sym, ap, subst, arith}
use Rattle.std.specs.Prelude.{IsTrue}
use Rattle.std.specs.List.{list_all}
use Rattle.std.proofs.lemmas.Bool.{and_from, and_parts, true≢false}
use Rattle.std.proofs.lemmas.List.{append-nil, append_assoc, length-append}
use Rattle.std.proofs.lemmas.List.Folds.{list_all-append}
use Rattle.std.proofs.lemmas.Option.{none-some, same_Some}
use Rattle.tree_document.specs.declared.document.Document.{Document}
use Rattle.tree_document.specs.Line.{Line, Spells, in_range, is_shallow}
use Rattle.tree_document.specs.Document.{AreGoodLines, IsGood, IsGoodLine, IsInRange, lines_of}
use Rattle.tree_document.specs.Reading.{Begins, IsAny, IsBadLine, IsPastEnd, IsTooBig, IsTooDeep, IsTruncated, Reaches}
use Rattle.tree_document.specs.Reading.{Spelled}
use Rattle.line_fields.specs.Need.{Need, need_document, follow, line_at}
use Rattle.line_reader.specs.Verdict.{Stop, at_bad, at_big, at_deep, at_end, verdict}
use Rattle.document_reader.proofs.Known.{Known}
use Rattle.document_reader.proofs.Finishing.{all_near, finish, good_append}
use Rattle.document_reader.proofs.Needs.{Leads, accepted, all_lead, all_lines, document_leads, leads_on}
use Rattle.document_reader.proofs.Running.{Run, run, same_front}

-- some document goes on with lines that are taken for the need of one
record Whole (front : List Line) (left : List Need) : Type 0 where
  whole : Document
  rest : List Line
  begins : lines_of whole ≡ front ++ rest
  good : AreGoodLines front → IsGood whole
  near : list_all in_range front ≡ true → IsInRange whole
  leads : Leads rest left []

whole_of : Known → (front : List Line) (left : List Need) → Leads front (need_document ∷ []) left → Whole front left
whole_of known front left leads =
    let ends = finish known left in
    let behind : Leads (all_lines left ends.0) left [] = all_lead left ends.0 in
    let done = accepted (front ++ all_lines left ends.0) (need_document ∷ [])
    (leads_on front (all_lines left ends.0) (need_document ∷ []) left [] leads behind) in
    let begins : lines_of done.0.0 ≡ front ++ all_lines left ends.0 = sym (append-nil (lines_of done.0.0)) ∙ done.1 in
    record {
      whole = done.0.0;
      rest = all_lines left ends.0;
      begins = begins;
      good = λ are. subst AreGoodLines (sym begins) (good_append front (all_lines left ends.0) are ends.1);
      near = λ within. ap (list_all in_range) begins ∙ list_all-append in_range front (all_lines left ends.0)
          ∙ and_from _ _ within (all_near (all_lines left ends.0) ends.1);
      leads = behind;
    }

begins_good : Known → (front : List Line) (fronts : List (List ℕ)) (left : List Need)
    → Leads front (need_document ∷ []) left → AreGoodLines front → Spelled front fronts → Begins IsGood fronts
begins_good known front fronts left leads good spelled =
    let it = whole_of known front left leads in
    record {
      whole = it.whole;
      which = it.good good;
      front = front;
      rest = it.rest;
      begins = it.begins;
      spelled =
          spelled;
    }

-- the last of some texts is a spelling of the last line
record Last (lines : List Line) (fronts : List (List ℕ)) (text : List ℕ) : Type 0 where
  front : List Line
  line : Line
  split : lines ≡ front ++ line ∷ []
  spelled : Spelled front fronts
  spells : Spells line text

last_of : (lines : List Line) (fronts : List (List ℕ)) (text : List ℕ) → Spelled lines (fronts ++ text ∷ [])
    → Last lines fronts text
last_of [] [] text spelled = absurd spelled
last_of [] (first ∷ fronts) text spelled = absurd spelled
last_of (line ∷ []) [] text spelled = record { front = []; line = line; split = refl; spelled = tt; spells = spelled.0 }
last_of (line ∷ next ∷ lines) [] text spelled = absurd spelled.1
last_of (line ∷ lines) (first ∷ fronts) text spelled =
    let behind = last_of lines fronts text spelled.1 in
    record {
      front = line ∷ behind.front;
      line = behind.line;
      split = ap (λ t. line ∷ t) behind.split;
      spelled =
          (spelled.0, behind.spelled);
      spells = behind.spells;
    }

joined : (front : List Line) (fronts : List (List ℕ)) (line : Line) (text : List ℕ) → Spelled front fronts
    → Spells line text → Spelled (front ++ line ∷ []) (fronts ++ text ∷ [])
joined [] [] line text spelled spells = (spells, tt)
joined [] (first ∷ fronts) line text spelled spells = absurd spelled
joined (next ∷ front) [] line text spelled spells = absurd spelled
joined (next ∷ front) (first ∷ fronts) line text spelled spells =
    (spelled.0, joined front fronts line text spelled.1 spells)

-- a document that begins with these texts has a line there, which may stand where something is needed
record Further (Which : Document → Type 0) (left : List Need) (text : List ℕ) : Type 0 where
  whole : Document
  which : Which whole
  front : List Line
  line : Line
  rest : List Line
  begins : lines_of whole ≡ front ++ line ∷ rest
  leads : Leads (line ∷ rest) left []
  spells : Spells line text

further : Known → (Which : Document → Type 0) (front : List Line) (fronts : List (List ℕ)) (left : List Need)
    (text : List ℕ) → Leads front (need_document ∷ []) left → AreGoodLines front → Spelled front fronts
    → Begins Which (fronts ++ text ∷ []) → Further Which left text
further known Which front fronts left text leads good spelled begins =
    let last = last_of begins.front fronts text begins.spelled in
    let split : lines_of begins.whole ≡ last.front ++ last.line ∷ begins.rest =
    begins.begins ∙ ap (λ t. t ++ begins.rest) last.split ∙ append_assoc last.front (last.line ∷ []) begins.rest in
    record {
      whole = begins.whole;
      which = begins.which;
      front = last.front;
      line = last.line;
      rest = begins.rest;
      begins = split;
      leads = (same_front known fronts front last.front (last.line ∷ begins.rest) (need_document ∷ []) left [] spelled
          good leads last.spelled (subst (λ l. Leads l (need_document ∷ []) []) split (document_leads begins.whole))).1;
      spells = last.spells;
    }

good_at : (front rest : List Line) (line : Line) → AreGoodLines (front ++ line ∷ rest) → IsGoodLine line
good_at [] rest line are = are.0
good_at (first ∷ front) rest line are = good_at front rest line are.1

near_at : (front rest : List Line) (line : Line) → list_all in_range (front ++ line ∷ rest) ≡ true
    → in_range line ≡ true
near_at [] rest line are = (and_parts (in_range line) (list_all in_range rest) are).0
near_at (first ∷ front) rest line are =
    near_at front rest line (and_parts (in_range first) (list_all in_range (front ++ line ∷ rest)) are).1

allowed_at : (left : List Need) (line : Line) (rest : List Line) → Leads (line ∷ rest) left []
    → (need : Need) × (others : List Need) × (more : List Need) × (left ≡ need ∷ others)
    × (follow need line ≡ Some more)
allowed_at [] line rest leads = absurd leads
allowed_at (need ∷ others) line rest leads = (need, others, leads.0, refl, leads.1)

head_is : (need other : Need) (needs others : List Need) → need ∷ needs ≡ other ∷ others → need ≡ other
head_is need other needs others same = (cc)

next_of : (rest : List Line) (left : List Need) (need : Need) (others : List Need) → left ≡ need ∷ others
    → Leads rest left [] → (next : Line) × (after : List Line) × (rest ≡ next ∷ after)
next_of [] left need others is leads = absurd (some_need need others (sym is ∙ leads))
  where
    some_need : (need : Need) (others : List Need) → need ∷ others ≡ [] → ⊥
    some_need need others same = (cc)
next_of (line ∷ rest) left need others is leads = (line, rest, refl)

-- the lines before the one that is refused
reached : Known → (texts bad : List (List ℕ)) (line : ℕ) (stop : Option Stop) (it : Run (need_document ∷ []) texts stop)
    (text : List ℕ) (after : List (List ℕ)) → it.rest ≡ text ∷ after → bad ≡ it.rest
    → line ≡ (length texts + 1) - length bad → Reaches texts line it.fronts text
reached known texts bad line stop it text after rest is number =
    let stands : texts ≡ it.fronts ++ text ∷ after = it.split ∙ ap (λ t. it.fronts ++ t) rest in
    let all : length texts ≡ length it.fronts + length (text ∷ after) =
    ap length stands ∙ length-append it.fronts (text ∷ after) in
    let left : length bad ≡ length (text ∷ after) = ap length (is ∙ rest) in
    record {
      after = after;
      stands = stands;
      line_is = omega arith;
      good =
          begins_good known it.front it.fronts it.left it.leads it.good it.spelled;
    }

no_line : (need : Need) (text : List ℕ) (line : Line) → line_at need text ≡ None → line_at need text ≡ Some line → ⊥
no_line need text line none read = none-some line (sym none ∙ read)

-- a line that may not stand there
pub bad_line : Known → (texts bad : List (List ℕ)) (line : ℕ) → verdict (need_document ∷ []) texts ≡ Some (at_bad bad)
    → line ≡ (length texts + 1) - length bad → IsBadLine texts line
bad_line known texts bad line is number =
    let it = run known texts (need_document ∷ []) (Some (at_bad bad)) is in
    let text = it.ends.0 in
    record {
      before = it.fronts;
      text = text;
      reached = reached known texts bad line (Some (at_bad bad)) it text it.ends.1 it.ends.2 it.ends.3 number;
      no_document = λ begins.
          let more = further known IsAny it.front it.fronts it.left text it.leads it.good it.spelled begins in
          let may = allowed_at it.left more.line more.rest more.leads in
          let read = known.complete may.0 text more.line may.2 may.4 more.spells in
          no_line may.0 text read.line (it.ends.4 may.0 may.1 may.3) read.read;
    }

-- a document that goes on with a line that is read
record With (front : List Line) (fronts : List (List ℕ)) (text : List ℕ) (line : Line) : Type 0 where
  begins : Begins IsAny (fronts ++ text ∷ [])
  near : in_range line ≡ true → Begins IsInRange (fronts ++ text ∷ [])

with_line : Known → (front : List Line) (fronts : List (List ℕ)) (left others : List Need) (need : Need) (text : List ℕ)
    (line : Line) → Leads front (need_document ∷ []) left → AreGoodLines front → Spelled front fronts
    → left ≡ need ∷ others → line_at need text ≡ Some line → With front fronts text line
with_line known front fronts left others need text line leads good spelled is read =
    let reads = known.sound need text line read in
    let more : List Need = reads.allowed.0 ++ others in
    let on : Leads (front ++ reads.whole ∷ []) (need_document ∷ []) more =
    leads_on front (reads.whole ∷ []) (need_document ∷ []) left more leads
    (subst (λ n. Leads (reads.whole ∷ []) n more) (sym is) (reads.allowed.0, reads.allowed.1, refl)) in
    let some = whole_of known (front ++ reads.whole ∷ []) more on in
    let texts = joined front fronts reads.whole text spelled reads.spelled in
    record {
      begins = record {
        whole = some.whole;
        which = tt;
        front = front ++ reads.whole ∷ [];
        rest = some.rest;
        begins =
            some.begins;
        spelled = texts;
      };
      near = λ within. record {
        whole = some.whole;
        which = some.near (list_all-append in_range front (reads.whole ∷ [])
            ∙ and_from _ _ (all_near front good) (and_from _ _ (sym reads.range ∙ within) refl));
        front = front ++ reads.whole ∷ [];
        rest = some.rest;
        begins = some.begins;
        spelled = texts;
      };
    }

-- the line of a further document where one is read
record Same (line other : Line) : Type 0 where
  read : Line
  range : in_range read ≡ in_range other
  same : IsTrue (in_range read) → read ≡ other
  is : read ≡ line

same_read : Known → (Which : Document → Type 0) (left others : List Need) (need : Need) (text : List ℕ) (line : Line)
    → left ≡ need ∷ others → line_at need text ≡ Some line → (more : Further Which left text)
    → Same line more.line
same_read known Which left others need text line is told more =
    let may = allowed_at left more.line more.rest more.leads in
    let same : need ≡ may.0 = head_is need may.0 others may.1 (sym is ∙ may.3) in
    let read = known.complete may.0 text more.line may.2 may.4 more.spells in
    record {
      read = read.line;
      range = read.range;
      same = read.same;
      is =
          same_Some _ _ (sym read.read ∙ ap (λ n. line_at n text) (sym same) ∙ told);
    }

-- a line of which a number is past its range
pub big_line : Known → (texts bad : List (List ℕ)) (line : ℕ) → verdict (need_document ∷ []) texts ≡ Some (at_big bad)
    → line ≡ (length texts + 1) - length bad → IsTooBig texts line
big_line known texts bad line is number =
    let it = run known texts (need_document ∷ []) (Some (at_big bad)) is in
    let text = it.ends.0 in
    let at = it.ends.4 in
    record {
      before = it.fronts;
      text = text;
      reached = reached known texts bad line (Some (at_big bad)) it text it.ends.1 it.ends.2 it.ends.3 number;
      some_document = (with_line known it.front it.fronts it.left at.1 at.0 text at.3.0 it.leads it.good it.spelled at.2
          at.3.1).begins;
      no_document_in_range = λ begins.
          let more = further known IsInRange it.front it.fronts it.left text it.leads it.good it.spelled begins in
          let same = same_read known IsInRange it.left at.1 at.0 text at.3.0 at.2 at.3.1 more in
          let near : in_range more.line ≡ true =
          near_at more.front more.rest more.line (ap (list_all in_range) (sym more.begins) ∙ more.which) in
          true≢false (sym (same.range ∙ near) ∙ ap in_range same.is ∙ at.3.2);
    }

-- a line above which as many splits stand as may
pub deep_line : Known → (texts bad : List (List ℕ)) (line : ℕ) → verdict (need_document ∷ []) texts ≡ Some (at_deep bad)
    → line ≡ (length texts + 1) - length bad → IsTooDeep texts line
deep_line known texts bad line is number =
    let it = run known texts (need_document ∷ []) (Some (at_deep bad)) is in
    let text = it.ends.0 in
    let at = it.ends.4 in
    record {
      before = it.fronts;
      text = text;
      reached = reached known texts bad line (Some (at_deep bad)) it text it.ends.1 it.ends.2 it.ends.3 number;
      document_in_range = (with_line known it.front it.fronts it.left at.1 at.0 text at.3.0 it.leads it.good it.spelled
          at.2 at.3.1).near at.3.2;
      no_good_document = λ begins.
          let more = further known IsGood it.front it.fronts it.left text it.leads it.good it.spelled begins in
          let same = same_read known IsGood it.left at.1 at.0 text at.3.0 at.2 at.3.1 more in
          let good = good_at more.front more.rest more.line (subst AreGoodLines more.begins more.which) in
          let line_is : at.3.0 ≡ more.line = sym same.is ∙ same.same (same.range ∙ good.in_range) in
          true≢false (sym good.shallow ∙ ap is_shallow (sym line_is) ∙ at.3.3);
    }

-- the lines end where one is still needed
pub cut_short : Known → (texts : List (List ℕ)) → verdict (need_document ∷ []) texts ≡ Some at_end → IsTruncated texts
cut_short known texts is =
    let it = run known texts (need_document ∷ []) (Some at_end) is in
    let all : texts ≡ it.fronts = it.split ∙ ap (λ t. it.fronts ++ t) it.ends.3 ∙ append-nil it.fronts in
    let whole = whole_of known it.front it.left it.leads in
    let more = next_of whole.rest it.left it.ends.0 it.ends.1 it.ends.2 whole.leads in
    record {
      whole = whole.whole;
      good = whole.good it.good;
      front = it.front;
      next = more.0;
      rest = more.1;
      begins = whole.begins ∙ ap (λ t. it.front ++ t) more.2;
      spelled = subst (Spelled it.front) (sym all) it.spelled;
    }

-- the lines are all of a document, and bytes stand behind them
pub past_end : Known → (texts : List (List ℕ)) (unfinished : List ℕ) (line : ℕ)
    → verdict (need_document ∷ []) texts ≡ None → (unfinished ≡ [] → ⊥) → line ≡ length texts + 1
    → IsPastEnd texts unfinished line
past_end known texts unfinished line is some number =
    let it = run known texts (need_document ∷ []) None is in
    let all : texts ≡ it.fronts = it.split ∙ ap (λ t. it.fronts ++ t) it.ends.1 ∙ append-nil it.fronts in
    let done = accepted it.front (need_document ∷ []) (subst (Leads it.front (need_document ∷ [])) it.ends.0 it.leads)
    in
    let lines : lines_of done.0.0 ≡ it.front = sym (append-nil (lines_of done.0.0)) ∙ done.1 in
    record {
      whole = done.0.0;
      good = subst AreGoodLines (sym lines) it.good;
      spelled = subst (λ l. Spelled l texts) (sym lines) (subst (Spelled it.front) (sym all) it.spelled);
      line_is = number;
      more = some;
    }

within : (texts bad : List (List ℕ)) (stop : Option Stop) (it : Run (need_document ∷ []) texts stop) → bad ≡ it.rest
    → length bad ≤ length texts
within texts bad stop it is =
    let all : length texts ≡ length (it.fronts ++ it.rest) = ap length it.split in
    let left : length bad ≡ length it.rest = ap length is in
    omega (arith, length-append it.fronts it.rest)

pub bad_within : Known → (texts bad : List (List ℕ)) → verdict (need_document ∷ []) texts ≡ Some (at_bad bad)
    → length bad ≤ length texts
bad_within known texts bad is = let it =
    run known texts (need_document ∷ []) (Some (at_bad bad)) is in within texts bad (Some (at_bad bad)) it it.ends.3

pub big_within : Known → (texts bad : List (List ℕ)) → verdict (need_document ∷ []) texts ≡ Some (at_big bad)
    → length bad ≤ length texts
big_within known texts bad is = let it =
    run known texts (need_document ∷ []) (Some (at_big bad)) is in within texts bad (Some (at_big bad)) it it.ends.3

pub deep_within : Known → (texts bad : List (List ℕ)) → verdict (need_document ∷ []) texts ≡ Some (at_deep bad)
    → length bad ≤ length texts
deep_within known texts bad is = let it =
    run known texts (need_document ∷ []) (Some (at_deep bad)) is in within texts bad (Some (at_deep bad)) it it.ends.3
