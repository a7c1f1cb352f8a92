-- Bytes have one reading: refusals exclude each other and a good document, and good documents with the same spelling
-- are the same.
use Rattle.std.proofs.Common.{◌≡◌, ◌+◌, ◌∙◌, ℕ, List, [], ◌∷◌, ◌++◌, ◌⊎◌, length, Result, Ok, Err, inl, inr, refl, sym}
use Rattle.std.proofs.Common.{ap, subst}
use Rattle.std.proofs.lemmas.List.{append-nil, append_assoc}
use Rattle.mgf_reader.specs.Text.{ended_lines, unfinished_line}
use Rattle.tree_document.specs.declared.document.Document.{Document}
use Rattle.tree_document.specs.declared.fault.CertFault.{CertFault}
use Rattle.tree_document.specs.declared.fault.CertFault.TheVariants.{BadLine, TooBig, TooDeep, Truncated}
use Rattle.tree_document.specs.declared.fault.DocumentError.{DocumentError}
use Rattle.tree_document.specs.declared.fault.DocumentError.TheVariants.{OutOfMemory, Refused}
use Rattle.tree_document.specs.Line.{Line}
use Rattle.tree_document.specs.Document.{IsGood, IsInRange, lines_of, spelling_of}
use Rattle.tree_document.specs.Reading.{Begins, IsAny, IsAnswer, IsBadLine, IsPastEnd, IsReading, IsRefusal, IsTooBig}
use Rattle.tree_document.specs.Reading.{IsTooDeep, IsTruncated, Reaches, Spelled}
use Rattle.line_fields.specs.Need.{need_document}
use Rattle.document_reader.proofs.Apart.{same_document}
use Rattle.document_reader.proofs.Known.{Known}
use Rattle.document_reader.proofs.Finishing.{all_near}
use Rattle.document_reader.proofs.Needs.{Leads, document_leads}
use Rattle.document_reader.proofs.Plain.{spelled_text}
use Rattle.document_reader.proofs.Running.{same_front}

-- the lines that the first of some texts spell
record Front (lines : List Line) (fronts : List (List ℕ)) : Type 0 where
  front : List Line
  rest : List Line
  split : lines ≡ front ++ rest
  spelled : Spelled front fronts

front_of : (lines : List Line) (fronts more : List (List ℕ)) → Spelled lines (fronts ++ more) → Front lines fronts
front_of lines [] more spelled = record { front = []; rest = lines; split = refl; spelled = tt }
front_of [] (text ∷ fronts) more spelled = absurd spelled
front_of (line ∷ lines) (text ∷ fronts) more spelled =
    let behind = front_of lines fronts more spelled.1 in
    record {
      front = line ∷ behind.front;
      rest = behind.rest;
      split = ap (λ t. line ∷ t) behind.split;
      spelled =
          (spelled.0, behind.spelled);
    }

-- what begins with some texts begins with the first of them
begins_front : (Which : Document → Type 0) (fronts more : List (List ℕ)) → Begins Which (fronts ++ more)
    → Begins Which fronts
begins_front Which fronts more begins =
    let it = front_of begins.front fronts more begins.spelled in
    record {
      whole = begins.whole;
      which = begins.which;
      front = it.front;
      rest = it.rest ++ begins.rest;
      begins = begins.begins ∙ ap (λ t. t ++ begins.rest) it.split ∙ append_assoc it.front it.rest begins.rest;
      spelled = it.spelled;
    }

begins_to : (Which : Document → Type 0) (texts before after : List (List ℕ)) (text : List ℕ)
    → texts ≡ before ++ text ∷ after → Begins Which texts → Begins Which (before ++ text ∷ [])
begins_to Which texts before after text is begins =
    begins_front Which (before ++ text ∷ []) after (subst (Begins Which)
    (is ∙ sym (append_assoc before (text ∷ []) after)) begins)

any_begins : (Which : Document → Type 0) (texts : List (List ℕ)) → Begins Which texts → Begins IsAny texts
any_begins Which texts begins = record {
  whole = begins.whole;
  which = tt;
  front = begins.front;
  rest =
      begins.rest;
  begins = begins.begins;
  spelled = begins.spelled;
}

near_begins : (texts : List (List ℕ)) → Begins IsGood texts → Begins IsInRange texts
near_begins texts begins = record {
  whole = begins.whole;
  which = all_near (lines_of begins.whole) begins.which;
  front =
      begins.front;
  rest = begins.rest;
  begins = begins.begins;
  spelled = begins.spelled;
}

-- a line that no good document has there, while one begins with the lines before it
record Stops (texts : List (List ℕ)) (line : ℕ) : Type 0 where
  before : List (List ℕ)
  text : List ℕ
  reached : Reaches texts line before text
  none : Begins IsGood (before ++ text ∷ []) → ⊥

abbrev stops_bad : (texts : List (List ℕ)) (line : ℕ) → IsBadLine texts line → Stops texts line
stops_bad texts line is = record {
  before = is.before;
  text = is.text;
  reached = is.reached;
  none = λ begins. is.no_document (any_begins IsGood (is.before ++ is.text ∷ []) begins);
}

abbrev stops_big : (texts : List (List ℕ)) (line : ℕ) → IsTooBig texts line → Stops texts line
stops_big texts line is = record {
  before = is.before;
  text = is.text;
  reached = is.reached;
  none = λ begins. is.no_document_in_range (near_begins (is.before ++ is.text ∷ []) begins);
}

abbrev stops_deep : (texts : List (List ℕ)) (line : ℕ) → IsTooDeep texts line → Stops texts line
stops_deep texts line is = record {
  before = is.before;
  text = is.text;
  reached = is.reached;
  none = is.no_good_document;
}

-- no good document begins with all the lines
not_all : (texts : List (List ℕ)) (line : ℕ) → Stops texts line → Begins IsGood texts → ⊥
not_all texts line is begins = is.none (begins_to IsGood texts is.before is.reached.after is.text is.reached.stands
    begins)

-- two places of a list are the same, or one of them is the earlier
abbrev Places : List (List ℕ) → List ℕ → List (List ℕ) → List ℕ → Type 0
Places before text other its =
    ((before ≡ other) × (text ≡ its)) ⊎ (((more : List (List ℕ)) × (other ≡ before ++ text ∷ more))
    ⊎ ((more : List (List ℕ)) × (before ≡ other ++ its ∷ more)))

one_later : (first : List ℕ) (before other : List (List ℕ)) (text its : List ℕ) → Places before text other its
    → Places (first ∷ before) text (first ∷ other) its
one_later first before other text its (inl same) = inl (ap (λ t. first ∷ t) same.0, same.1)
one_later first before other text its (inr (inl earlier)) = inr (inl (earlier.0, ap (λ t. first ∷ t) earlier.1))
one_later first before other text its (inr (inr later)) = inr (inr (later.0, ap (λ t. first ∷ t) later.1))

first_is : (a b : List ℕ) (r s : List (List ℕ)) → a ∷ r ≡ b ∷ s → a ≡ b
first_is a b r s is = (cc)

rest_is : (a b : List ℕ) (r s : List (List ℕ)) → a ∷ r ≡ b ∷ s → r ≡ s
rest_is a b r s is = (cc)

places : (before other after behind : List (List ℕ)) (text its : List ℕ)
    → before ++ text ∷ after ≡ other ++ its ∷ behind → Places before text other its
places [] [] after behind text its is = inl (refl, first_is text its after behind is)
places [] (first ∷ other) after behind text its is = inr (inl
    (other, λ i. sym (first_is text first after (other ++ its ∷ behind) is) i ∷ other))
places (first ∷ before) [] after behind text its is = inr (inr
    (before, λ i. first_is first its (before ++ text ∷ after) behind is i ∷ before))
places (first ∷ before) (next ∷ other) after behind text its is =
    let same = first_is first next (before ++ text ∷ after) (other ++ its ∷ behind) is in
    subst (λ t. Places (first ∷ before) text (t ∷ other) its) same
    (one_later first before other text its (places before other after behind text its
    (rest_is first next (before ++ text ∷ after) (other ++ its ∷ behind) is)))

-- so there is one such place
same_place : (texts : List (List ℕ)) (line number : ℕ) (is : Stops texts line) (also : Stops texts number)
    → (is.before ≡ also.before) × (is.text ≡ also.text)
same_place texts line number is also = step (places is.before also.before is.reached.after also.reached.after is.text
    also.text (sym is.reached.stands ∙ also.reached.stands))
  where
    step : Places is.before is.text also.before also.text → (is.before ≡ also.before) × (is.text ≡ also.text)
    step (inl same) = same
    step (inr (inl earlier)) = absurd (is.none (begins_to IsGood also.before is.before earlier.0 is.text earlier.1
        also.reached.good))
    step (inr (inr later)) = absurd (also.none (begins_to IsGood is.before also.before later.0 also.text later.1
        is.reached.good))

same_line : (texts : List (List ℕ)) (line number : ℕ) → Stops texts line → Stops texts number → line ≡ number
same_line texts line number is also =
    is.reached.line_is ∙ ap (λ t. length t + 1) (same_place texts line number is also).0 ∙ sym also.reached.line_is

-- a good document whose lines are all these
whole_begins : (texts : List (List ℕ)) (whole : Document) → IsGood whole → Spelled (lines_of whole) texts
    → Begins IsGood texts
whole_begins texts whole good spelled = record {
  whole = whole;
  which = good;
  front = lines_of whole;
  rest =
      [];
  begins = sym (append-nil (lines_of whole));
  spelled = spelled;
}

cut_begins : (texts : List (List ℕ)) → IsTruncated texts → Begins IsGood texts
cut_begins texts is = record {
  whole = is.whole;
  which = is.good;
  front = is.front;
  rest = is.next ∷ is.rest;
  begins =
      is.begins;
  spelled = is.spelled;
}

past_begins : (texts : List (List ℕ)) (unfinished : List ℕ) (line : ℕ) → IsPastEnd texts unfinished line
    → Begins IsGood texts
past_begins texts unfinished line is = whole_begins texts is.whole is.good is.spelled

not_cut : Known → (texts : List (List ℕ)) (whole : Document) → IsGood whole → Spelled (lines_of whole) texts
    → IsTruncated texts → ⊥
not_cut known texts whole good spelled is =
    (same_front known texts (lines_of whole) is.front (is.next ∷ is.rest) (need_document ∷ []) [] [] spelled good
    (document_leads whole) is.spelled
    (subst (λ l. Leads l (need_document ∷ []) []) is.begins (document_leads is.whole))).1

same_whole : Known → (texts : List (List ℕ)) (one other : Document) → IsGood one → Spelled (lines_of one) texts
    → Spelled (lines_of other) texts → one ≡ other
same_whole known texts one other good spelled also =
    same_document one other
    (same_front known texts (lines_of one) (lines_of other) [] (need_document ∷ []) [] [] spelled good
    (document_leads one) also
    (subst (λ l. Leads l (need_document ∷ []) []) (sym (append-nil (lines_of other))) (document_leads other))).0

-- a line that no document has there, whatever its numbers, is none that some document has
not_both : (texts : List (List ℕ)) (line number : ℕ) → IsBadLine texts line → IsTooBig texts number → ⊥
not_both texts line number bad big =
    let same = same_place texts line number (stops_bad texts line bad) (stops_big texts number big) in
    bad.no_document (subst {A = List (List ℕ)} (Begins IsAny) (λ i. sym same.0 i ++ sym same.1 i ∷ [])
    big.some_document)

-- nor one that some document in its ranges has
bad_not_deep : (texts : List (List ℕ)) (line number : ℕ) → IsBadLine texts line → IsTooDeep texts number → ⊥
bad_not_deep texts line number bad deep =
    let same = same_place texts line number (stops_bad texts line bad) (stops_deep texts number deep) in
    let some = any_begins IsInRange (deep.before ++ deep.text ∷ []) deep.document_in_range in
    bad.no_document (subst {A = List (List ℕ)} (Begins IsAny) (λ i. sym same.0 i ++ sym same.1 i ∷ []) some)

not_big_and_deep : (texts : List (List ℕ)) (line number : ℕ) → IsTooBig texts line → IsTooDeep texts number → ⊥
not_big_and_deep texts line number big deep =
    let same = same_place texts line number (stops_big texts line big) (stops_deep texts number deep) in
    big.no_document_in_range (subst {A = List (List ℕ)} (Begins IsInRange) (λ i. sym same.0 i ++ sym same.1 i ∷ [])
    deep.document_in_range)

not_bad_and_deep : (texts : List (List ℕ)) (unfinished : List ℕ) (line number : ℕ)
    → IsRefusal texts unfinished (BadLine line) → IsTooDeep texts number → ⊥
not_bad_and_deep texts unfinished line number (inl bad) deep = bad_not_deep texts line number bad deep
not_bad_and_deep texts unfinished line number (inr past) deep =
    not_all texts number (stops_deep texts number deep) (past_begins texts unfinished line past)

not_bad_and_big : (texts : List (List ℕ)) (unfinished : List ℕ) (line number : ℕ)
    → IsRefusal texts unfinished (BadLine line) → IsTooBig texts number → ⊥
not_bad_and_big texts unfinished line number (inl bad) big = not_both texts line number bad big
not_bad_and_big texts unfinished line number (inr past) big =
    not_all texts number (stops_big texts number big) (past_begins texts unfinished line past)

not_bad_and_cut : Known → (texts : List (List ℕ)) (unfinished : List ℕ) (line : ℕ)
    → IsRefusal texts unfinished (BadLine line) → IsTruncated texts → ⊥
not_bad_and_cut known texts unfinished line (inl bad) cut =
    not_all texts line (stops_bad texts line bad) (cut_begins texts cut)
not_bad_and_cut known texts unfinished line (inr past) cut = not_cut known texts past.whole past.good past.spelled cut

not_big_and_cut : (texts : List (List ℕ)) (line : ℕ) → IsTooBig texts line → IsTruncated texts → ⊥
not_big_and_cut texts line big cut = not_all texts line (stops_big texts line big) (cut_begins texts cut)

not_deep_and_cut : (texts : List (List ℕ)) (line : ℕ) → IsTooDeep texts line → IsTruncated texts → ⊥
not_deep_and_cut texts line deep cut = not_all texts line (stops_deep texts line deep) (cut_begins texts cut)

same_bad : (texts : List (List ℕ)) (unfinished : List ℕ) (line number : ℕ) → IsRefusal texts unfinished (BadLine line)
    → IsRefusal texts unfinished (BadLine number) → line ≡ number
same_bad texts unfinished line number (inl bad) (inl also) =
    same_line texts line number (stops_bad texts line bad) (stops_bad texts number also)
same_bad texts unfinished line number (inl bad) (inr past) =
    absurd (not_all texts line (stops_bad texts line bad) (past_begins texts unfinished number past))
same_bad texts unfinished line number (inr past) (inl bad) =
    absurd (not_all texts number (stops_bad texts number bad) (past_begins texts unfinished line past))
same_bad texts unfinished line number (inr past) (inr also) = past.line_is ∙ sym also.line_is

one_refusal : Known → (texts : List (List ℕ)) (unfinished : List ℕ) (one other : CertFault)
    → IsRefusal texts unfinished one → IsRefusal texts unfinished other → one ≡ other
one_refusal known texts unfinished (BadLine line) (BadLine number) is also =
    ap (λ n. BadLine n) (same_bad texts unfinished line number is also)
one_refusal known texts unfinished (BadLine line) (TooBig number) is also =
    absurd (not_bad_and_big texts unfinished line number is also)
one_refusal known texts unfinished (BadLine line) (TooDeep number) is also =
    absurd (not_bad_and_deep texts unfinished line number is also)
one_refusal known texts unfinished (BadLine line) Truncated is also =
    absurd (not_bad_and_cut known texts unfinished line is also)
one_refusal known texts unfinished (TooBig line) (BadLine number) is also =
    absurd (not_bad_and_big texts unfinished number line also is)
one_refusal known texts unfinished (TooBig line) (TooBig number) is also =
    ap (λ n. TooBig n) (same_line texts line number (stops_big texts line is) (stops_big texts number also))
one_refusal known texts unfinished (TooBig line) (TooDeep number) is also =
    absurd (not_big_and_deep texts line number is also)
one_refusal known texts unfinished (TooBig line) Truncated is also = absurd (not_big_and_cut texts line is also)
one_refusal known texts unfinished (TooDeep line) (BadLine number) is also =
    absurd (not_bad_and_deep texts unfinished number line also is)
one_refusal known texts unfinished (TooDeep line) (TooBig number) is also =
    absurd (not_big_and_deep texts number line also is)
one_refusal known texts unfinished (TooDeep line) (TooDeep number) is also =
    ap (λ n. TooDeep n) (same_line texts line number (stops_deep texts line is) (stops_deep texts number also))
one_refusal known texts unfinished (TooDeep line) Truncated is also = absurd (not_deep_and_cut texts line is also)
one_refusal known texts unfinished Truncated (BadLine number) is also =
    absurd (not_bad_and_cut known texts unfinished number also is)
one_refusal known texts unfinished Truncated (TooBig number) is also = absurd (not_big_and_cut texts number also is)
one_refusal known texts unfinished Truncated (TooDeep number) is also = absurd (not_deep_and_cut texts number also is)
one_refusal known texts unfinished Truncated Truncated is also = refl

no_refusal : Known → (texts : List (List ℕ)) (unfinished : List ℕ) (whole : Document) (fault : CertFault) → IsGood whole
    → Spelled (lines_of whole) texts → unfinished ≡ [] → IsRefusal texts unfinished fault → ⊥
no_refusal known texts unfinished whole (BadLine line) good spelled none (inl bad) =
    not_all texts line (stops_bad texts line bad) (whole_begins texts whole good spelled)
no_refusal known texts unfinished whole (BadLine line) good spelled none (inr past) = past.more none
no_refusal known texts unfinished whole (TooBig line) good spelled none is =
    not_all texts line (stops_big texts line is) (whole_begins texts whole good spelled)
no_refusal known texts unfinished whole (TooDeep line) good spelled none is =
    not_all texts line (stops_deep texts line is) (whole_begins texts whole good spelled)
no_refusal known texts unfinished whole Truncated good spelled none is = not_cut known texts whole good spelled is

-- the whole lines of bytes that spell a document, and nothing behind them
lines_are : Known → (bytes : List ℕ) (whole : Document) → IsReading bytes (Ok whole)
    → Spelled (lines_of whole) (ended_lines bytes) × (unfinished_line bytes ≡ [])
lines_are known bytes whole is =
    let text = spelled_text known (lines_of whole) is.0 in
    (subst (λ b. Spelled (lines_of whole) (ended_lines b)) (sym is.1) text.0, ap unfinished_line is.1 ∙ text.1)

pub one_reading : Known → (bytes : List ℕ) (one other : Result Document CertFault) → IsReading bytes one
    → IsReading bytes other → one ≡ other
one_reading known bytes (Ok one) (Ok other) is also =
    ap (λ d. Ok d) (same_whole known (ended_lines bytes) one other is.0 (lines_are known bytes one is).0
    (lines_are known bytes other also).0)
one_reading known bytes (Ok one) (Err fault) is also =
    let lines = lines_are known bytes one is in
    absurd (no_refusal known (ended_lines bytes) (unfinished_line bytes) one fault is.0 lines.0 lines.1 also)
one_reading known bytes (Err fault) (Ok other) is also =
    let lines = lines_are known bytes other also in
    absurd (no_refusal known (ended_lines bytes) (unfinished_line bytes) other fault also.0 lines.0 lines.1 is)
one_reading known bytes (Err fault) (Err refusal) is also =
    ap (λ f. Err f) (one_refusal known (ended_lines bytes) (unfinished_line bytes) fault refusal is also)

pub read_again : Known → (document : Document) (answer : Result Document DocumentError) → IsGood document
    → IsAnswer (spelling_of document) answer → (answer ≡ Ok document) ⊎ (answer ≡ Err OutOfMemory)
read_again known document (Ok other) good is =
    let text = spelling_of document in
    inl (ap (λ d. Ok d) (same_whole known (ended_lines text) other document is.0
    (lines_are known text other is).0 (lines_are known text document (good, refl)).0))
read_again known document (Err (Refused fault)) good is =
    let text = spelling_of document in
    let lines = lines_are known text document (good, refl) in
    absurd (no_refusal known (ended_lines text) (unfinished_line text) document fault good lines.0 lines.1 is)
read_again known document (Err OutOfMemory) good is = inr refl
