-- For `ended_lines` and `unfinished_line`: how the lines of a text and of more of it hang together.
use Rattle.std.proofs.Common.{◌≡◌, ℕ, zero, suc, ◌+◌, ◌-◌, slice_index, take, length-drop, None, Some, ◌<◌, ◌⊎◌, Bool}
use Rattle.std.proofs.Common.{true, false, nat_eq, nat_lt, ◌&&◌, cond, List, [], ◌∷◌, ◌++◌, length, drop, refl, sym}
use Rattle.std.proofs.Common.{◌∙◌, ap, subst, append_assoc, append-nil, inl, inr, ⊎_elim, arith}
use Rattle.std.specs.List.{AllByRecursion, flat_map, starts_with}
use Rattle.std.proofs.lemmas.Bool.{cases_eq, lt-ltb, eqb-true, eq-eqb}
use Rattle.std.proofs.Math.Seq.{take-length}
use Rattle.std.proofs.lemmas.Bool.Decides.{eqb_tells}
use Rattle.memchr.specs.Find.{IsFirstByte, is_byte}
use Rattle.mgf_reader.specs.Text.{byte_order_mark, without_mark, ended_lines, unfinished_line}
use Rattle.mgf_reader.specs.inside.Cutting.{HasNoLineFeed}
use Rattle.mgf_reader.specs.inside.Judging.{line_at}
use Rattle.mgf_reader.proofs.SpectraOf.{all-append}

differs : (a b : ℕ) → (a ≡ b → ⊥) → nat_eq a b ≡ false
differs a b other = ⊎_elim (λ same. absurd (other same.1)) (λ different. different.0) (eqb_tells a b)

not-feed : (byte : ℕ) → (byte ≡ 10 → ⊥) → nat_eq byte 10 ≡ false
not-feed byte other = differs byte 10 other

-- bytes without a line feed end no line
pub ended-free : (bytes : List ℕ) → HasNoLineFeed bytes → ended_lines bytes ≡ []
ended-free [] free = refl
ended-free (byte ∷ bytes) free = rw (not-feed byte free.0, ended-free bytes free.1) refl

pub unfinished-free : (bytes : List ℕ) → HasNoLineFeed bytes → unfinished_line bytes ≡ bytes
unfinished-free [] free = refl
unfinished-free (byte ∷ bytes) free = rw (not-feed byte free.0, ended-free bytes free.1) refl

-- a line feed behind them ends one
pub ended-feed : (bytes more : List ℕ) → HasNoLineFeed bytes
    → ended_lines (bytes ++ 10 ∷ more) ≡ bytes ∷ ended_lines more
ended-feed [] more free = refl
ended-feed (byte ∷ bytes) more free = rw (not-feed byte free.0, ended-feed bytes more free.1) refl

unfinished-goes : (byte : ℕ) (bytes line : List ℕ) (lines : List (List ℕ)) → ended_lines (byte ∷ bytes) ≡ line ∷ lines
    → unfinished_line (byte ∷ bytes) ≡ unfinished_line bytes
unfinished-goes byte bytes line lines is = let some : nat_lt 0 (length (line ∷ lines)) ≡ true =
    lt-ltb 0 (length (line ∷ lines)) (omega arith) in rw (is, some) refl

pub unfinished-feed : (bytes more : List ℕ) → HasNoLineFeed bytes
    → unfinished_line (bytes ++ 10 ∷ more) ≡ unfinished_line more
unfinished-feed [] more free = unfinished-goes 10 more [] (ended_lines more) refl
unfinished-feed (byte ∷ bytes) more free =
    unfinished-goes byte (bytes ++ 10 ∷ more) (byte ∷ bytes) (ended_lines more) (ended-feed (byte ∷ bytes) more free)
    ∙ unfinished-feed bytes more free.1

-- a text up to its first line feed
pub record Fed (text : List ℕ) : Type 0 where
  pub line : List ℕ
  pub more : List ℕ
  pub whole : text ≡ line ++ 10 ∷ more
  pub free : HasNoLineFeed line

pub first_feed : (text : List ℕ) → HasNoLineFeed text ⊎ Fed text
first_feed [] = inl tt
first_feed (byte ∷ bytes) =
    ⊎_elim
    (λ is. inr (record { line = []; more = bytes; whole = ap (λ b. b ∷ bytes) is; free = tt }))
    (λ other. ⊎_elim (λ free. inl (other, free))
    (λ fed. inr (record {
      line = byte ∷ fed.line;
      more = fed.more;
      whole = ap (λ b. byte ∷ b) fed.whole;
      free = (other, fed.free);
    })) (first_feed bytes))
    (cases_eq byte 10)

-- a text as the lines that are ended, and what follows them
abbrev pub joined : List (List ℕ) → List ℕ
joined lines = flat_map (λ line. line ++ 10 ∷ []) lines

pub record Parted (text : List ℕ) : Type 0 where
  pub lines : List (List ℕ)
  pub tail : List ℕ
  pub whole : text ≡ joined lines ++ tail
  pub each : AllByRecursion HasNoLineFeed lines
  pub free : HasNoLineFeed tail

parted-put : (byte : ℕ) (bytes : List ℕ) → (byte ≡ 10 → ⊥) → (lines : List (List ℕ)) (tail : List ℕ)
    → bytes ≡ joined lines ++ tail → AllByRecursion HasNoLineFeed lines → HasNoLineFeed tail → Parted (byte ∷ bytes)
parted-put byte bytes other [] tail whole each free =
    record { lines = []; tail = byte ∷ tail; whole = ap (λ b. byte ∷ b) whole; each = tt; free = (other, free) }
parted-put byte bytes other (line ∷ lines) tail whole each free =
    record {
      lines = (byte ∷ line) ∷ lines;
      tail = tail;
      whole = ap (λ b. byte ∷ b) whole;
      each = ((other, each.0), each.1);
      free = free;
    }

pub parted : (text : List ℕ) → Parted text
parted [] = record { lines = []; tail = []; whole = refl; each = tt; free = tt }
parted (byte ∷ bytes) =
    let after = parted bytes in
    ⊎_elim
    (λ is. record {
      lines = [] ∷ after.lines;
      tail = after.tail;
      whole = ap (λ b. b ∷ bytes) is
          ∙ ap (λ b. 10 ∷ b) after.whole;
      each = (tt, after.each);
      free = after.free;
    })
    (λ other. parted-put byte bytes other after.lines after.tail after.whole after.each after.free)
    (cases_eq byte 10)

joined-more : (line : List ℕ) (lines : List (List ℕ)) (more : List ℕ)
    → joined (line ∷ lines) ++ more ≡ line ++ 10 ∷ (joined lines ++ more)
joined-more line lines more = append_assoc (line ++ 10 ∷ []) (joined lines) more
    ∙ append_assoc line (10 ∷ []) (joined lines ++ more)

ended-joined : (lines : List (List ℕ)) (more : List ℕ) → AllByRecursion HasNoLineFeed lines
    → ended_lines (joined lines ++ more) ≡ lines ++ ended_lines more
ended-joined [] more each = refl
ended-joined (line ∷ lines) more each = ap ended_lines (joined-more line lines more)
    ∙ ended-feed line (joined lines ++ more) each.0 ∙ ap (λ l. line ∷ l) (ended-joined lines more each.1)

unfinished-joined : (lines : List (List ℕ)) (more : List ℕ) → AllByRecursion HasNoLineFeed lines
    → unfinished_line (joined lines ++ more) ≡ unfinished_line more
unfinished-joined [] more each = refl
unfinished-joined (line ∷ lines) more each = ap unfinished_line (joined-more line lines more)
    ∙ unfinished-feed line (joined lines ++ more) each.0 ∙ unfinished-joined lines more each.1

-- the lines of a text and of more of it, from where its last line feed stands
ended-text : (text : List ℕ) → ended_lines text ≡ (parted text).lines
ended-text text = let p = parted text in ap ended_lines p.whole ∙ ended-joined p.lines p.tail p.each
    ∙ ap (λ l. p.lines ++ l) (ended-free p.tail p.free) ∙ append-nil p.lines

unfinished-text : (text : List ℕ) → unfinished_line text ≡ (parted text).tail
unfinished-text text = let p = parted text in ap unfinished_line p.whole ∙ unfinished-joined p.lines p.tail p.each
    ∙ unfinished-free p.tail p.free

pub unfinished-no_feed : (text : List ℕ) → HasNoLineFeed (unfinished_line text)
unfinished-no_feed text = subst HasNoLineFeed (sym (unfinished-text text)) (parted text).free

pub ended-more : (text more : List ℕ) → ended_lines (text ++ more)
    ≡ ended_lines text ++ ended_lines (unfinished_line text ++ more)
ended-more text more =
    let p = parted text in
    ap (λ t. ended_lines (t ++ more)) p.whole ∙ ap ended_lines (append_assoc (joined p.lines) p.tail more)
    ∙ ended-joined p.lines (p.tail ++ more) p.each
    ∙ ap (λ l. l ++ ended_lines (p.tail ++ more)) (sym (ended-text text))
    ∙ ap (λ u. ended_lines text ++ ended_lines (u ++ more)) (sym (unfinished-text text))

pub unfinished-more : (text more : List ℕ)
    → unfinished_line (text ++ more) ≡ unfinished_line (unfinished_line text ++ more)
unfinished-more text more =
    let p = parted text in
    ap (λ t. unfinished_line (t ++ more)) p.whole ∙ ap unfinished_line (append_assoc (joined p.lines) p.tail more)
    ∙ unfinished-joined p.lines (p.tail ++ more) p.each
    ∙ ap (λ u. unfinished_line (u ++ more)) (sym (unfinished-text text))

-- the mark of a text's start stands before its first line feed
mark-choice : (marked : Bool) (a b c : ℕ) (bytes more : List ℕ)
    → cond marked (bytes ++ more) (a ∷ b ∷ c ∷ (bytes ++ more)) ≡ cond marked bytes (a ∷ b ∷ c ∷ bytes) ++ more
mark-choice true a b c bytes more = refl
mark-choice false a b c bytes more = refl

pub mark-long : (a b c : ℕ) (bytes more : List ℕ)
    → without_mark ((a ∷ b ∷ c ∷ bytes) ++ more) ≡ without_mark (a ∷ b ∷ c ∷ bytes) ++ more
mark-long a b c bytes more = mark-choice (starts_with nat_eq (a ∷ b ∷ c ∷ bytes) byte_order_mark) a b c bytes more

one-by : (x : Bool) (l m : List ℕ) → cond (x && false) l m ≡ m
one-by true l m = refl
one-by false l m = refl

two-by : (x y : Bool) (l m : List ℕ) → cond (x && (y && false)) l m ≡ m
two-by true true l m = refl
two-by true false l m = refl
two-by false y l m = refl

pub mark-one : (a : ℕ) → without_mark (a ∷ []) ≡ a ∷ []
mark-one a = one-by (nat_eq 239 a) [] (a ∷ [])

pub mark-two : (a b : ℕ) → without_mark (a ∷ b ∷ []) ≡ a ∷ b ∷ []
mark-two a b = two-by (nat_eq 239 a) (nat_eq 187 b) [] (a ∷ b ∷ [])

pub mark-feed : (line more : List ℕ) → without_mark (line ++ 10 ∷ more) ≡ without_mark line ++ 10 ∷ more
mark-feed [] more = refl
mark-feed (a ∷ []) more = one-by (nat_eq 239 a) (drop 3 (a ∷ 10 ∷ more)) (a ∷ 10 ∷ more)
    ∙ ap (λ l. l ++ 10 ∷ more) (sym (mark-one a))
mark-feed (a ∷ b ∷ []) more = two-by (nat_eq 239 a) (nat_eq 187 b) (drop 3 (a ∷ b ∷ 10 ∷ more)) (a ∷ b ∷ 10 ∷ more)
    ∙ ap (λ l. l ++ 10 ∷ more) (sym (mark-two a b))
mark-feed (a ∷ b ∷ c ∷ line) more = mark-long a b c line (10 ∷ more)

mark-free-by : (marked : Bool) (a b c : ℕ) (bytes : List ℕ) → HasNoLineFeed (a ∷ b ∷ c ∷ bytes)
    → HasNoLineFeed (cond marked bytes (a ∷ b ∷ c ∷ bytes))
mark-free-by true a b c bytes free = free.1.1.1
mark-free-by false a b c bytes free = free

pub mark-free : (line : List ℕ) → HasNoLineFeed line → HasNoLineFeed (without_mark line)
mark-free [] free = tt
mark-free (a ∷ []) free = subst HasNoLineFeed (sym (mark-one a)) free
mark-free (a ∷ b ∷ []) free = subst HasNoLineFeed (sym (mark-two a b)) free
mark-free (a ∷ b ∷ c ∷ line) free = mark-free-by (starts_with nat_eq (a ∷ b ∷ c ∷ line) byte_order_mark) a b c line free

-- a text without its mark, where it has a line feed
pub ended-fed : (line more : List ℕ) → HasNoLineFeed line
    → ended_lines (without_mark (line ++ 10 ∷ more)) ≡ without_mark line ∷ ended_lines more
ended-fed line more free = ap ended_lines (mark-feed line more)
    ∙ ended-feed (without_mark line) more (mark-free line free)

pub unfinished-fed : (line more : List ℕ) → HasNoLineFeed line
    → unfinished_line (without_mark (line ++ 10 ∷ more)) ≡ unfinished_line more
unfinished-fed line more free = ap unfinished_line (mark-feed line more)
    ∙ unfinished-feed (without_mark line) more (mark-free line free)

line_at-later : (line : List ℕ) (lines : List (List ℕ)) (bytes : List ℕ) → line_at (length (line ∷ lines)) bytes ≡ bytes
line_at-later line lines bytes = let later : nat_eq (length (line ∷ lines)) 0 ≡ false =
    differs (length (line ∷ lines)) 0 (λ e. omega arith) in rw later refl

-- what some more bytes do to the lines of a text without its mark: a part of a line, and a part that a line feed ends
pub record Cut (text part : List ℕ) : Type 0 where
  pub line : List ℕ
  pub line_is : line ≡ line_at (length (ended_lines (without_mark text))) (unfinished_line text ++ part)
  pub kept_lines : ended_lines (without_mark (text ++ part)) ≡ ended_lines (without_mark text)
  pub kept_line : unfinished_line (without_mark (text ++ part)) ≡ line
  pub kept : unfinished_line (text ++ part) ≡ unfinished_line text ++ part
  pub ended : ended_lines (without_mark (text ++ (part ++ 10 ∷ []))) ≡ ended_lines (without_mark text) ++ line ∷ []
  pub ended_line : unfinished_line (without_mark (text ++ (part ++ 10 ∷ []))) ≡ []
  pub ended_kept : unfinished_line (text ++ (part ++ 10 ∷ [])) ≡ []

cut-free : (text part : List ℕ) → HasNoLineFeed text → HasNoLineFeed part → Cut text part
cut-free text part free part_free =
    let both : HasNoLineFeed (text ++ part) = all-append (λ byte. byte ≡ 10 → ⊥) text part free part_free in
    let none : ended_lines (without_mark text) ≡ [] = ended-free (without_mark text) (mark-free text free) in
    let same : unfinished_line text ≡ text = unfinished-free text free in
    record {
      line = without_mark (text ++ part);
      line_is = ap (λ u. without_mark (u ++ part)) (sym same)
          ∙ ap (λ lines. line_at (length lines) (unfinished_line text ++ part)) (sym none);
      kept_lines = ended-free (without_mark (text ++ part)) (mark-free (text ++ part) both) ∙ sym none;
      kept_line = unfinished-free (without_mark (text ++ part)) (mark-free (text ++ part) both);
      kept = unfinished-free (text ++ part) both ∙ ap (λ u. u ++ part) (sym same);
      ended = ap (λ t. ended_lines (without_mark t)) (sym (append_assoc text part (10 ∷ [])))
          ∙ ended-fed (text ++ part) [] both ∙ ap (λ lines. lines ++ without_mark (text ++ part) ∷ []) (sym none);
      ended_line = ap (λ t. unfinished_line (without_mark t)) (sym (append_assoc text part (10 ∷ [])))
          ∙ unfinished-fed (text ++ part) [] both;
      ended_kept = ap unfinished_line (sym (append_assoc text part (10 ∷ []))) ∙ unfinished-feed (text ++ part) [] both;
    }

cut-fed : (text part : List ℕ) → Fed text → HasNoLineFeed part → Cut text part
cut-fed text part fed part_free =
    let line : List ℕ = fed.line in
    let more : List ℕ = fed.more in
    let tail : HasNoLineFeed (unfinished_line more ++ part) =
    all-append (λ byte. byte ≡ 10 → ⊥) (unfinished_line more) part (unfinished-no_feed more) part_free in
    let behind : (bytes : List ℕ) → text ++ bytes ≡ line ++ 10 ∷ (more ++ bytes) =
    λ bytes. ap (λ t. t ++ bytes) fed.whole ∙ append_assoc line (10 ∷ more) bytes in
    let some : ended_lines (without_mark text) ≡ without_mark line ∷ ended_lines more =
    ap (λ t. ended_lines (without_mark t)) fed.whole ∙ ended-fed line more fed.free in
    let same : unfinished_line text ≡ unfinished_line more = ap unfinished_line fed.whole
    ∙ unfinished-feed line more fed.free in
    let whole : unfinished_line more ++ (part ++ 10 ∷ []) ≡ (unfinished_line more ++ part) ++ 10 ∷ [] =
    sym (append_assoc (unfinished_line more) part (10 ∷ [])) in
    record {
      line = unfinished_line more ++ part;
      line_is = ap (λ u. u ++ part) (sym same)
          ∙ sym (line_at-later (without_mark line) (ended_lines more) (unfinished_line text ++ part))
          ∙ ap (λ lines. line_at (length lines) (unfinished_line text ++ part)) (sym some);
      kept_lines = ap (λ t. ended_lines (without_mark t)) (behind part) ∙ ended-fed line (more ++ part) fed.free
          ∙ ap (λ lines. without_mark line ∷ lines) (ended-more more part
          ∙ ap (λ lines. ended_lines more ++ lines) (ended-free (unfinished_line more ++ part) tail)
          ∙ append-nil (ended_lines more)) ∙ sym some;
      kept_line = ap (λ t. unfinished_line (without_mark t)) (behind part) ∙ unfinished-fed line (more ++ part) fed.free
          ∙ unfinished-more more part ∙ unfinished-free (unfinished_line more ++ part) tail;
      kept = ap unfinished_line (behind part) ∙ unfinished-feed line (more ++ part) fed.free ∙ unfinished-more more part
          ∙ unfinished-free (unfinished_line more ++ part) tail ∙ ap (λ u. u ++ part) (sym same);
      ended = ap (λ t. ended_lines (without_mark t)) (behind (part ++ 10 ∷ []))
          ∙ ended-fed line (more ++ (part ++ 10 ∷ [])) fed.free
          ∙ ap (λ lines. without_mark line ∷ lines) (ended-more more (part ++ 10 ∷ [])
          ∙ ap (λ bytes. ended_lines more ++ ended_lines bytes) whole
          ∙ ap (λ lines. ended_lines more ++ lines) (ended-feed (unfinished_line more ++ part) [] tail))
          ∙ ap (λ lines. lines ++ (unfinished_line more ++ part) ∷ []) (sym some);
      ended_line = ap (λ t. unfinished_line (without_mark t)) (behind (part ++ 10 ∷ []))
          ∙ unfinished-fed line (more ++ (part ++ 10 ∷ [])) fed.free ∙ unfinished-more more (part ++ 10 ∷ [])
          ∙ ap unfinished_line whole ∙ unfinished-feed (unfinished_line more ++ part) [] tail;
      ended_kept = ap unfinished_line (behind (part ++ 10 ∷ []))
          ∙ unfinished-feed line (more ++ (part ++ 10 ∷ [])) fed.free ∙ unfinished-more more (part ++ 10 ∷ [])
          ∙ ap unfinished_line whole ∙ unfinished-feed (unfinished_line more ++ part) [] tail;
    }

pub cut : (text part : List ℕ) → HasNoLineFeed part → Cut text part
cut text part free = ⊎_elim (λ text_free. cut-free text part text_free free) (λ fed. cut-fed text part fed free)
    (first_feed text)

-- the line that is not ended, as the reader holds it
pub unfinished-now : (text : List ℕ) → unfinished_line (without_mark text)
    ≡ line_at (length (ended_lines (without_mark text))) (unfinished_line text)
unfinished-now text =
    let c = cut text [] tt in
    ap (λ t. unfinished_line (without_mark t)) (sym (append-nil text)) ∙ c.kept_line ∙ c.line_is
    ∙ ap (line_at (length (ended_lines (without_mark text)))) (append-nil (unfinished_line text))

-- the bytes before the first place of a line feed have none
free-before : (bytes : List ℕ) (at : ℕ) → ((k : ℕ) → k < at → k < length bytes → nat_eq (slice_index bytes k) 10 ≡ true
    → ⊥) → HasNoLineFeed (take at bytes)
free-before [] zero none = tt
free-before [] (suc at) none = tt
free-before (byte ∷ bytes) zero none = tt
free-before (byte ∷ bytes) (suc at) none = (
  λ is. none 0 (omega arith) (omega arith) (eq-eqb byte 10 is),
  free-before bytes at (λ k low high is. none (suc k) (omega arith) (omega arith) is),
)

fed-at : (bytes : List ℕ) (at : ℕ) → at < length bytes → slice_index bytes at ≡ 10
    → bytes ≡ take at bytes ++ 10 ∷ drop (suc at) bytes
fed-at [] at high is = absurd (omega arith)
fed-at (byte ∷ bytes) zero high is = ap (λ b. b ∷ bytes) is
fed-at (byte ∷ bytes) (suc at) high is = ap (λ b. byte ∷ b) (fed-at bytes at (omega arith) is)

-- what a search for a line feed tells
pub feed-none : (bytes : List ℕ) → IsFirstByte (is_byte 10) bytes None → HasNoLineFeed bytes
feed-none bytes found = subst HasNoLineFeed (take-length bytes)
    (free-before bytes (length bytes) (λ k low high is. found k (omega arith) high is))

pub feed-found : (bytes : List ℕ) (at : ℕ) → IsFirstByte (is_byte 10) bytes (Some at)
    → HasNoLineFeed (take at bytes) × (bytes ≡ take at bytes ++ 10 ∷ drop (at + 1) bytes)
feed-found bytes at found =
    let next : suc at ≡ at + 1 = omega arith in (
      free-before bytes at (λ k low high is. found.0.before k (omega arith) low is),
      fed-at bytes at found.0.high (eqb-true (slice_index bytes at) 10 found.1)
          ∙ ap (λ n. take at bytes ++ 10 ∷ drop n bytes) next,
    )

-- the rest of some bytes, as a slice from a place on
pub rest-from : (bytes : List ℕ) (at : ℕ) → take (length bytes - at) (drop at bytes) ≡ drop at bytes
rest-from bytes at = ap (λ n. take n (drop at bytes)) (sym (length-drop at bytes)) ∙ take-length (drop at bytes)
