-- For `TakesIn` and `Ends`: what taking bytes in does to the text that a reader stands for.
use Rattle.std.proofs.Common.{◌≡◌, ℕ, ◌+◌, ◌<◌, ◌≤◌, Bool, true, false, nat_eq, nat_lt, if◌then◌else◌, take, drop, List}
use Rattle.std.proofs.Common.{[], ◌∷◌, ◌++◌, length, Option, Some, None, Result, Ok, Err, refl, sym, ◌∙◌, ap, subst}
use Rattle.std.proofs.Common.{append_assoc, append-nil, arith}
use Rattle.std.specs.Option.{option_map}
use Rattle.std.specs.List.{AllByRecursion, flat_map, starts_with}
use Rattle.std.proofs.lemmas.Bool.{lt-ltb, le-ltb}
use Rattle.memchr.specs.Find.{IsFirstByte, is_byte}
use Rattle.mgf_reader.specs.declared.fault.MgfKind.TheVariants.{LineTooLong}
use Rattle.mgf_reader.specs.declared.fault.MgfFault.{MgfFault}
use Rattle.mgf_reader.specs.declared.fault.FeedFault.{FeedFault}
use Rattle.mgf_reader.specs.declared.fault.FeedFault.TheVariants.{Mgf, OutOfMemory}
use Rattle.mgf_reader.specs.Spectrum.{SpectrumValue}
use Rattle.mgf_reader.specs.Text.{greatest_line, byte_order_mark, without_mark, ended_lines, unfinished_line}
use Rattle.mgf_reader.specs.Text.{line_if_any, text_lines, judged_lines}
use Rattle.mgf_reader.specs.LineForm.{too_long, line_form}
use Rattle.mgf_reader.specs.Grammar.{Piece, piece_lines, IsPiece, spectra_of, Rest, nothing, ReadsLines, Reads, SoFar}
use Rattle.mgf_reader.specs.Stands.{ReaderValue, IsLeft, Stands, Answers, Broken}
use Rattle.mgf_reader.specs.inside.Cutting.{Kept, reader_with, TakesIn, Ends, HasNoLineFeed}
use Rattle.mgf_reader.specs.inside.Judging.{Judged, Judges, fault_behind, left_behind, counted, end_of, line_at}
use Rattle.mgf_reader.proofs.Judges.{Follows, IsEnd, follows-next, follows-fault, follows-end_of, open-rest, rest-open}
use Rattle.mgf_reader.proofs.EndedLines.{cut, unfinished-now, feed-found}
use Rattle.mgf_reader.proofs.SoFar.{is-too_long, judged-long, judged-short, fault-goes, follows-short, reading-breaks}
use Rattle.mgf_reader.proofs.SoFar.{reading-ends}

-- what a reader stands for, read so far
pub record StandsFor (reader : ReaderValue) (text : List ℕ) (out : List SpectrumValue) : Type 0 where
  pub fault : Option MgfFault
  pub reads : SoFar text (out ++ reader.waiting) fault
  pub failed : reader.failed ≡ option_map Mgf fault

pub stands-reads : (reader : ReaderValue) (text : List ℕ) (out : List SpectrumValue) → Stands reader text out
    → StandsFor reader text out
stands-reads reader text out stands = record {
  fault = stands.fault;
  reads = record {
    pieces = stands.pieces;
    rest = stands.rest;
    whole = stands.whole;
    right = stands.right;
    are_spectra = stands.spectra;
    is_fault = stands.is_fault;
  };
  failed = stands.failed;
}

-- a reader that failed keeps no more than its fault
pub stands-failed : (reader : ReaderValue) (text : List ℕ) (out : List SpectrumValue) (fault : MgfFault)
    → SoFar text (out ++ reader.waiting) (Some fault) → reader.failed ≡ Some (Mgf fault) → Stands reader text out
stands-failed reader text out fault reads failed = record {
  pieces = reads.pieces;
  rest = reads.rest;
  fault = Some fault;
  whole = reads.whole;
  right = reads.right;
  spectra = reads.are_spectra;
  is_fault = reads.is_fault;
  failed = failed;
  left = λ none. absurd cc;
}

-- a reader that has not failed
pub record Goes (kept : Kept) (text : List ℕ) (out : List SpectrumValue) : Type 0 where
  pub follows : Follows kept.lines (judged_lines text) out
  pub unfinished : kept.unfinished ≡ unfinished_line text

goes-by : (kept : Kept) (text : List ℕ) (out : List SpectrumValue) (pieces : List Piece) (rest : List (List ℕ))
    (fault : Option MgfFault)
    → judged_lines text ≡ flat_map piece_lines pieces ++ rest → AllByRecursion IsPiece pieces
    → out ++ kept.lines.waiting ≡ spectra_of [] 1 pieces
    → Rest false (1 + length (flat_map piece_lines pieces)) rest fault → None ≡ option_map Mgf fault
    → (fault ≡ None → IsLeft (reader_with None kept) text pieces rest)
    → Goes kept text out
goes-by kept text out pieces rest (Some fault) whole right spectra is_fault failed left = absurd cc
goes-by kept text out pieces rest None whole right spectra is_fault failed left =
    let is = left refl in
    record {
      follows = record {
        pieces = pieces;
        rest = rest;
        whole = whole;
        right = right;
        spectra = spectra;
        is_open = open-rest (1 + length (flat_map piece_lines pieces)) rest is_fault;
        judged = is.judged;
        defaults = is.defaults;
        open_block = is.open_block;
      };
      unfinished = is.unfinished;
    }

pub stands-goes : (kept : Kept) (text : List ℕ) (out : List SpectrumValue) → Stands (reader_with None kept) text out
    → Goes kept text out
stands-goes kept text out stands = goes-by kept text out stands.pieces stands.rest stands.fault stands.whole
    stands.right stands.spectra stands.is_fault stands.failed stands.left

pub goes-stands : (kept : Kept) (text : List ℕ) (out : List SpectrumValue) → Follows kept.lines (judged_lines text) out
    → kept.unfinished ≡ unfinished_line text → Stands (reader_with None kept) text out
goes-stands kept text out follows unfinished = record {
  pieces = follows.pieces;
  rest = follows.rest;
  fault = None;
  whole = follows.whole;
  right = follows.right;
  spectra = follows.spectra;
  is_fault = rest-open (1 + length (flat_map piece_lines follows.pieces)) follows.rest follows.is_open;
  failed = refl;
  left = λ none. record {
    unfinished = unfinished;
    judged = follows.judged;
    defaults = follows.defaults;
    open_block = follows.open_block;
  };
}

-- a reader that was fed nothing
pub stands-new : Stands (reader_with None
    (record {
      unfinished = [];
      lines = record {
        waiting = [];
        judged = 0;
        defaults = record { title = []; precursor = None; charges = [] };
        block = None;
      };
    })) [] []
stands-new = record {
  pieces = [];
  rest = [];
  fault = None;
  whole = refl;
  right = tt;
  spectra = refl;
  is_fault = nothing refl refl;
  failed = refl;
  left = λ none. record { unfinished = refl; judged = refl; defaults = refl; open_block = refl };
}

-- a spectrum that is handed out
pub stands-taken : (reader new : ReaderValue) (text : List ℕ) (out taken : List SpectrumValue)
    → reader.waiting ≡ taken ++ new.waiting → new ≡ record reader { waiting = new.waiting } → Stands reader text out
    → Stands new text (out ++ taken)
stands-taken reader new text out taken waits same stands =
    let later : Stands (record reader { waiting = new.waiting }) text (out ++ taken) = record {
      pieces = stands.pieces;
      rest = stands.rest;
      fault = stands.fault;
      whole = stands.whole;
      right = stands.right;
      spectra = append_assoc out taken new.waiting ∙ ap (λ w. out ++ w) (sym waits) ∙ stands.spectra;
      is_fault = stands.is_fault;
      failed = stands.failed;
      left = λ none. let is = stands.left none in
          record { unfinished = is.unfinished; judged = is.judged; defaults = is.defaults; open_block = is.open_block };
    } in
    subst (λ r. Stands r text (out ++ taken)) (sym same) later

-- the judged lines of a text and of a line that a line feed ends
judged-next : (kept : Kept) (text part : List ℕ) (out : List SpectrumValue) → HasNoLineFeed part → Goes kept text out
    → judged_lines (text ++ (part ++ 10 ∷ []))
    ≡ judged_lines text ++ line_at kept.lines.judged (kept.unfinished ++ part) ∷ []
judged-next kept text part out free goes =
    let c = cut text part free in
    let short : judged_lines text ≡ ended_lines (without_mark text) =
    judged-short text (follows-short kept.lines text out goes.follows) in
    let count : kept.lines.judged ≡ length (ended_lines (without_mark text)) = goes.follows.judged ∙ ap length short in
    let line : c.line ≡ line_at kept.lines.judged (kept.unfinished ++ part) = c.line_is
    ∙ ap (λ n. line_at n (unfinished_line text ++ part)) (sym count)
    ∙ ap (λ u. line_at kept.lines.judged (u ++ part)) (sym goes.unfinished) in
    judged-short (text ++ (part ++ 10 ∷ [])) (ap (λ u. nat_lt greatest_line (length u)) c.ended_line ∙ refl) ∙ c.ended
    ∙ ap (λ lines. lines ++ c.line ∷ []) (sym short) ∙ ap (λ l. judged_lines text ++ l ∷ []) line

-- want of memory leaves a first part of the spectra
pub takes-broken : (kept new : Kept) (bytes : List ℕ) → new.lines.waiting ≡ kept.lines.waiting
    → TakesIn kept bytes (Err OutOfMemory) new
takes-broken kept new bytes waits = λ text out stands.
    let for_text = stands-reads (reader_with None kept) text out stands in
    subst (λ w. Broken (SoFar (text ++ bytes)) (out ++ w)) (sym waits)
    (reading-breaks text bytes (out ++ kept.lines.waiting) for_text.fault for_text.reads)

-- a line that a line feed ends
pub takes-line : (kept : Kept) (part unfinished : List ℕ) (new : Judged) (result : Result (Unit {0}) FeedFault)
    → HasNoLineFeed part → unfinished ≡ []
    → Judges kept.lines (line_form (line_at kept.lines.judged (kept.unfinished ++ part))) result new
    → TakesIn kept (part ++ 10 ∷ []) result (record { unfinished = unfinished; lines = new })
takes-line kept part unfinished new (Ok done) free none judges = λ text out stands.
    let goes = stands-goes kept text out stands in
    let line : List ℕ = line_at kept.lines.judged (kept.unfinished ++ part) in
    let next : Follows (left_behind (counted kept.lines) (line_form line)) (judged_lines text ++ line ∷ []) out =
    follows-next kept.lines (judged_lines text) out line judges.0 goes.follows in
    let there : Follows new (judged_lines text ++ line ∷ []) out =
    subst (λ j. Follows j (judged_lines text ++ line ∷ []) out) (sym judges.1) next in
    goes-stands (record { unfinished = unfinished; lines = new }) (text ++ (part ++ 10 ∷ [])) out
    (subst (λ lines. Follows new lines out) (sym (judged-next kept text part out free goes)) there) (none
    ∙ sym (cut text part free).ended_kept)
takes-line kept part unfinished new (Err (Mgf fault)) free none judges = λ text out stands.
    let goes = stands-goes kept text out stands in
    let line : List ℕ = line_at kept.lines.judged (kept.unfinished ++ part) in
    let named : MgfFault = record { line = kept.lines.judged + 1; kind = fault.kind } in
    let same : named ≡ fault = ap (λ n. let f : MgfFault = record { line = n; kind = fault.kind } in f)
    (sym judges.1) in
    let reads : ReadsLines false (judged_lines text ++ line ∷ []) (out ++ kept.lines.waiting) (Some named) =
    follows-fault false kept.lines (judged_lines text) out line [] fault.kind judges.0 goes.follows in
    let moved : SoFar (text ++ (part ++ 10 ∷ [])) (out ++ kept.lines.waiting) (Some named) =
    subst (λ lines. ReadsLines false lines (out ++ kept.lines.waiting) (Some named))
    (sym (judged-next kept text part out free goes)) reads in
    let waits : SoFar (text ++ (part ++ 10 ∷ [])) (out ++ new.waiting) (Some named) =
    subst (λ w. SoFar (text ++ (part ++ 10 ∷ [])) (out ++ w) (Some named)) (sym judges.2) moved in
    stands-failed (reader_with (Some (Mgf fault)) (record { unfinished = unfinished; lines = new }))
    (text ++ (part ++ 10 ∷ [])) out fault
    (subst (λ f. SoFar (text ++ (part ++ 10 ∷ [])) (out ++ new.waiting) (Some f)) same waits) refl
takes-line kept part unfinished new (Err OutOfMemory) free none judges =
    takes-broken kept (record { unfinished = unfinished; lines = new }) (part ++ 10 ∷ []) judges

-- a part of a line that is not too long
pub takes-part : (kept : Kept) (part unfinished : List ℕ) → HasNoLineFeed part → unfinished ≡ kept.unfinished ++ part
    → length (line_at kept.lines.judged unfinished) ≤ greatest_line
    → TakesIn kept part (Ok tt) (record { unfinished = unfinished; lines = kept.lines })
takes-part kept part unfinished free is short = λ text out stands.
    let goes = stands-goes kept text out stands in
    let c = cut text part free in
    let now : judged_lines text ≡ ended_lines (without_mark text) =
    judged-short text (follows-short kept.lines text out goes.follows) in
    let count : kept.lines.judged ≡ length (ended_lines (without_mark text)) = goes.follows.judged ∙ ap length now in
    let held : unfinished ≡ unfinished_line text ++ part = is ∙ ap (λ u. u ++ part) goes.unfinished in
    let line : unfinished_line (without_mark (text ++ part)) ≡ line_at kept.lines.judged unfinished = c.kept_line
    ∙ c.line_is ∙ ap (λ n. line_at n (unfinished_line text ++ part)) (sym count)
    ∙ ap (line_at kept.lines.judged) (sym held) in
    let still : nat_lt greatest_line (length (unfinished_line (without_mark (text ++ part)))) ≡ false =
    ap (λ u. nat_lt greatest_line (length u)) line
    ∙ le-ltb greatest_line (length (line_at kept.lines.judged unfinished)) short in
    let lines : judged_lines (text ++ part) ≡ judged_lines text = judged-short (text ++ part) still ∙ c.kept_lines
    ∙ sym now in
    goes-stands (record { unfinished = unfinished; lines = kept.lines }) (text ++ part) out
    (subst (λ l. Follows kept.lines l out) (sym lines) goes.follows) (held ∙ sym c.kept)

long-behind-by : (old : Judged) (found : Option SpectrumValue)
    → fault_behind (record old { block = found }) too_long ≡ Some LineTooLong
long-behind-by old None = refl
long-behind-by old (Some block) = refl

long-behind : (old : Judged) → fault_behind old too_long ≡ Some LineTooLong
long-behind old = long-behind-by old old.block

-- a part of a line that is too long
pub takes-long : (kept : Kept) (part unfinished : List ℕ) (fault : MgfFault) → HasNoLineFeed part
    → greatest_line < length (line_at kept.lines.judged (kept.unfinished ++ part))
    → fault ≡ record { line = kept.lines.judged + 1; kind = LineTooLong }
    → TakesIn kept part (Err (Mgf fault)) (record { unfinished = unfinished; lines = kept.lines })
takes-long kept part unfinished fault free long named = λ text out stands.
    let goes = stands-goes kept text out stands in
    let c = cut text part free in
    let line : List ℕ = line_at kept.lines.judged (kept.unfinished ++ part) in
    let now : judged_lines text ≡ ended_lines (without_mark text) =
    judged-short text (follows-short kept.lines text out goes.follows) in
    let count : kept.lines.judged ≡ length (ended_lines (without_mark text)) = goes.follows.judged ∙ ap length now in
    let same : unfinished_line (without_mark (text ++ part)) ≡ line = c.kept_line ∙ c.line_is
    ∙ ap (λ n. line_at n (unfinished_line text ++ part)) (sym count)
    ∙ ap (λ u. line_at kept.lines.judged (u ++ part)) (sym goes.unfinished) in
    let is_long : nat_lt greatest_line (length line) ≡ true = lt-ltb greatest_line (length line) long in
    let lines : judged_lines (text ++ part) ≡ judged_lines text ++ line ∷ [] =
    judged-long (text ++ part) (ap (λ u. nat_lt greatest_line (length u)) same ∙ is_long)
    ∙ ap (λ l. l ++ unfinished_line (without_mark (text ++ part)) ∷ []) (c.kept_lines ∙ sym now)
    ∙ ap (λ u. judged_lines text ++ u ∷ []) same in
    let bad : fault_behind kept.lines (line_form line) ≡ Some LineTooLong =
    ap (fault_behind kept.lines) (is-too_long line is_long) ∙ long-behind kept.lines in
    let reads : ReadsLines false (judged_lines text ++ line ∷ []) (out ++ kept.lines.waiting)
    (Some (record { line = kept.lines.judged + 1; kind = LineTooLong })) =
    follows-fault false kept.lines (judged_lines text) out line [] LineTooLong bad goes.follows in
    let moved : SoFar (text ++ part) (out ++ kept.lines.waiting)
    (Some (record { line = kept.lines.judged + 1; kind = LineTooLong })) =
    subst (λ l. ReadsLines false l (out ++ kept.lines.waiting)
    (Some (record { line = kept.lines.judged + 1; kind = LineTooLong }))) (sym lines) reads in
    stands-failed (reader_with (Some (Mgf fault)) (record { unfinished = unfinished; lines = kept.lines }))
    (text ++ part) out fault (subst (λ f. SoFar (text ++ part) (out ++ kept.lines.waiting) (Some f)) (sym named) moved)
    refl

-- two pieces, one after the other
pub takes-then : (old mid new : Kept) (first second : List ℕ) (result : Result (Unit {0}) FeedFault)
    → TakesIn old first (Ok tt) mid → TakesIn mid second result new → TakesIn old (first ++ second) result new
takes-then old mid new first second (Ok done) before after =
    λ text out stands. subst (λ t. Stands (reader_with None new) t out) (append_assoc text first second)
    (after (text ++ first) out (before text out stands))
takes-then old mid new first second (Err (Mgf fault)) before after =
    λ text out stands. subst (λ t. Stands (reader_with (Some (Mgf fault)) new) t out) (append_assoc text first second)
    (after (text ++ first) out (before text out stands))
takes-then old mid new first second (Err OutOfMemory) before after =
    λ text out stands. subst (λ t. Broken (SoFar t) (out ++ new.lines.waiting)) (append_assoc text first second)
    (after (text ++ first) out (before text out stands))

-- a reader that failed stands for any longer text
pub stands-longer : (reader : ReaderValue) (text more : List ℕ) (out : List SpectrumValue) (fault : FeedFault)
    → reader.failed ≡ Some fault → Stands reader text out → Stands reader (text ++ more) out
stands-longer reader text more out fault failed stands =
    longer-by (stands-reads reader text out stands).fault (stands-reads reader text out stands).reads
    (stands-reads reader text out stands).failed where
      longer-by : (found : Option MgfFault) → SoFar text (out ++ reader.waiting) found
          → reader.failed ≡ option_map Mgf found → Stands reader (text ++ more) out
      longer-by None reads is = absurd cc
      longer-by (Some named) reads is = stands-failed reader (text ++ more) out named
          (fault-goes text more (out ++ reader.waiting) named reads) is

broken-longer : (text more : List ℕ) (spectra : List SpectrumValue) → Broken (SoFar text) spectra
    → Broken (SoFar (text ++ more)) spectra
broken-longer text more spectra broken =
    let whole = reading-breaks text more broken.all broken.fault broken.reads in
    record {
      all = whole.all;
      fault = whole.fault;
      reads = whole.reads;
      part = (
        broken.part.0 ++ whole.part.0,
        whole.part.1 ∙ ap (λ l. l ++ whole.part.0) broken.part.1
            ∙ append_assoc spectra broken.part.0 whole.part.0,
      );
    }

-- what was refused is refused whatever follows
pub takes-stops : (old new : Kept) (first second : List ℕ) (fault : FeedFault) → TakesIn old first (Err fault) new
    → TakesIn old (first ++ second) (Err fault) new
takes-stops old new first second (Mgf fault) before =
    λ text out stands. subst (λ t. Stands (reader_with (Some (Mgf fault)) new) t out) (append_assoc text first second)
    (stands-longer (reader_with (Some (Mgf fault)) new) (text ++ first) second out (Mgf fault) refl
    (before text out stands))
takes-stops old new first second OutOfMemory before =
    λ text out stands. subst (λ t. Broken (SoFar t) (out ++ new.lines.waiting)) (append_assoc text first second)
    (broken-longer (text ++ first) second (out ++ new.lines.waiting) (before text out stands))

-- all lines of a text, from where it is judged so far
lines-now : (kept : Kept) (text : List ℕ) (out : List SpectrumValue) → Goes kept text out
    → text_lines text ≡ judged_lines text ++ line_if_any (line_at kept.lines.judged kept.unfinished)
lines-now kept text out goes =
    let now : judged_lines text ≡ ended_lines (without_mark text) =
    judged-short text (follows-short kept.lines text out goes.follows) in
    let count : kept.lines.judged ≡ length (ended_lines (without_mark text)) = goes.follows.judged ∙ ap length now in
    let line : unfinished_line (without_mark text) ≡ line_at kept.lines.judged kept.unfinished = unfinished-now text
    ∙ ap (λ n. line_at n (unfinished_line text)) (sym count) ∙ ap (line_at kept.lines.judged) (sym goes.unfinished) in
    ap (λ l. l ++ line_if_any (unfinished_line (without_mark text))) (sym now)
    ∙ ap (λ u. judged_lines text ++ line_if_any u) line

ends-by : (text : List ℕ) (spectra : List SpectrumValue) (lines : List (List ℕ)) (block : Option SpectrumValue)
    (answer : Result (Unit {0}) FeedFault) → text_lines text ≡ lines → answer ≡ end_of block → IsEnd lines spectra block
    → Answers (Reads text) spectra answer × Broken (Reads text) spectra
ends-by text spectra lines block answer same is ended =
    let reads : Reads text spectra ended.fault =
    subst (λ l. ReadsLines true l spectra ended.fault) (sym same) ended.reads in (
      record { fault = ended.fault; reads = reads; answer = is ∙ ended.answer },
      record { all = spectra; fault = ended.fault; reads = reads; part = ([], sym (append-nil spectra)) },
    )

-- the text ends where nothing is left of a line
pub ends-empty : (kept : Kept) (answer : Result (Unit {0}) FeedFault) → line_at kept.lines.judged kept.unfinished ≡ []
    → answer ≡ end_of kept.lines.block → Ends kept answer kept
ends-empty kept answer none is = by answer is where
  both : (answer : Result (Unit {0}) FeedFault) → answer ≡ end_of kept.lines.block
      → (text : List ℕ) (out : List SpectrumValue) → Stands (reader_with None kept) text out
      → Answers (Reads text) (out ++ kept.lines.waiting) answer × Broken (Reads text) (out ++ kept.lines.waiting)
  both answer is = λ text out stands.
      let goes = stands-goes kept text out stands in
      let same : text_lines text ≡ judged_lines text = lines-now kept text out goes
      ∙ ap (λ l. judged_lines text ++ line_if_any l) none ∙ append-nil (judged_lines text) in
      ends-by text (out ++ kept.lines.waiting) (judged_lines text) kept.lines.block answer same is
      (follows-end_of kept.lines (judged_lines text) out goes.follows)

  by : (answer : Result (Unit {0}) FeedFault) → answer ≡ end_of kept.lines.block → Ends kept answer kept
  by (Ok done) is = λ text out stands. (both (Ok done) is text out stands).0
  by (Err (Mgf fault)) is = λ text out stands. (both (Err (Mgf fault)) is text out stands).0
  by (Err OutOfMemory) is = λ text out stands. (both (Err OutOfMemory) is text out stands).1

any-line : (line : List ℕ) → 0 < length line → line_if_any line ≡ line ∷ []
any-line [] some = absurd (omega arith)
any-line (byte ∷ bytes) some = refl

-- the text ends with a line that no line feed ends
pub ends-line : (kept : Kept) (unfinished : List ℕ) (new : Judged) (answer : Result (Unit {0}) FeedFault)
    (line : List ℕ) → line ≡ line_at kept.lines.judged kept.unfinished → 0 < length line
    → Judges kept.lines (line_form line) (Ok tt) new → answer ≡ end_of new.block
    → Ends kept answer (record { unfinished = unfinished; lines = new })
ends-line kept unfinished new answer line named some judges is = by answer is where
  both : (answer : Result (Unit {0}) FeedFault) → answer ≡ end_of new.block → (text : List ℕ) (out : List SpectrumValue)
      → Stands (reader_with None kept) text out
      → Answers (Reads text) (out ++ new.waiting) answer × Broken (Reads text) (out ++ new.waiting)
  both answer is = λ text out stands.
      let goes = stands-goes kept text out stands in
      let same : text_lines text ≡ judged_lines text ++ line ∷ [] = lines-now kept text out goes
      ∙ ap (λ l. judged_lines text ++ line_if_any l) (sym named)
      ∙ ap (λ l. judged_lines text ++ l) (any-line line some) in
      let next : Follows (left_behind (counted kept.lines) (line_form line)) (judged_lines text ++ line ∷ []) out =
      follows-next kept.lines (judged_lines text) out line judges.0 goes.follows in
      let there : Follows new (judged_lines text ++ line ∷ []) out =
      subst (λ j. Follows j (judged_lines text ++ line ∷ []) out) (sym judges.1) next in
      ends-by text (out ++ new.waiting) (judged_lines text ++ line ∷ []) new.block answer same is
      (follows-end_of new (judged_lines text ++ line ∷ []) out there)

  by : (answer : Result (Unit {0}) FeedFault) → answer ≡ end_of new.block
      → Ends kept answer (record { unfinished = unfinished; lines = new })
  by (Ok done) is = λ text out stands. (both (Ok done) is text out stands).0
  by (Err (Mgf fault)) is = λ text out stands. (both (Err (Mgf fault)) is text out stands).0
  by (Err OutOfMemory) is = λ text out stands. (both (Err OutOfMemory) is text out stands).1

-- or with one that is refused
pub ends-fault : (kept : Kept) (unfinished : List ℕ) (new : Judged) (fault : FeedFault) (line : List ℕ)
    → line ≡ line_at kept.lines.judged kept.unfinished → 0 < length line
    → Judges kept.lines (line_form line) (Err fault) new
    → Ends kept (Err fault) (record { unfinished = unfinished; lines = new })
ends-fault kept unfinished new (Mgf fault) line is some judges = λ text out stands.
    let goes = stands-goes kept text out stands in
    let same : text_lines text ≡ judged_lines text ++ line ∷ [] = lines-now kept text out goes
    ∙ ap (λ l. judged_lines text ++ line_if_any l) (sym is) ∙ ap (λ l. judged_lines text ++ l) (any-line line some) in
    let named : MgfFault = record { line = kept.lines.judged + 1; kind = fault.kind } in
    let named_is : named ≡ fault = ap (λ n. let f : MgfFault = record { line = n; kind = fault.kind } in f)
    (sym judges.1) in
    let reads : ReadsLines true (judged_lines text ++ line ∷ []) (out ++ kept.lines.waiting) (Some named) =
    follows-fault true kept.lines (judged_lines text) out line [] fault.kind judges.0 goes.follows in
    let moved : Reads text (out ++ kept.lines.waiting) (Some named) =
    subst (λ lines. ReadsLines true lines (out ++ kept.lines.waiting) (Some named)) (sym same) reads in
    let waits : Reads text (out ++ new.waiting) (Some named) =
    subst (λ w. Reads text (out ++ w) (Some named)) (sym judges.2) moved in
    record {
      fault = Some fault;
      reads = subst (λ f. Reads text (out ++ new.waiting) (Some f)) named_is waits;
      answer = refl;
    }
ends-fault kept unfinished new OutOfMemory line is some judges = λ text out stands.
    let for_text = stands-reads (reader_with None kept) text out stands in
    subst (λ w. Broken (Reads text) (out ++ w)) (sym judges)
    (reading-ends text (out ++ kept.lines.waiting) for_text.fault for_text.reads)

-- a reader's line is shorter than what it holds by the mark at most
mark-by : (marked : Bool) (bytes : List ℕ) → length bytes ≤ length (if marked then drop 3 bytes else bytes) + 3
mark-by true [] = omega arith
mark-by true (a ∷ []) = omega arith
mark-by true (a ∷ b ∷ []) = omega arith
mark-by true (a ∷ b ∷ c ∷ bytes) = omega arith
mark-by false bytes = omega arith

line_at-by : (first : Bool) (bytes : List ℕ) → length bytes ≤ length (if first then without_mark bytes else bytes) + 3
line_at-by true bytes = mark-by (starts_with nat_eq bytes byte_order_mark) bytes
line_at-by false bytes = omega arith

pub length-line_at : (judged : ℕ) (bytes : List ℕ) → length bytes ≤ length (line_at judged bytes) + 3
length-line_at judged bytes = line_at-by (nat_eq judged 0) bytes

-- nothing is taken in
pub takes-none : (kept : Kept) → TakesIn kept [] (Ok tt) kept
takes-none kept = λ text out stands. subst (λ t. Stands (reader_with None kept) t out) (sym (append-nil text)) stands

-- a piece is taken in up to its rest
pub record TakenTo (old : Kept) (piece rest : List ℕ) (now : Kept) : Type 0 where
  pub front : List ℕ
  pub whole : piece ≡ front ++ rest
  pub takes : TakesIn old front (Ok tt) now

pub taken-none : (kept : Kept) (piece : List ℕ) → TakenTo kept piece piece kept
taken-none kept piece = record { front = []; whole = refl; takes = takes-none kept }

pub taken-more : (old now new : Kept) (piece rest after : List ℕ) (at : ℕ) → TakenTo old piece rest now
    → IsFirstByte (is_byte 10) rest (Some at) → after ≡ drop (at + 1) rest
    → TakesIn now (take at rest ++ 10 ∷ []) (Ok tt) new → TakenTo old piece after new
taken-more old now new piece rest after at taken found is takes =
    let line : List ℕ = take at rest ++ 10 ∷ [] in
    record {
      front = taken.front ++ line;
      whole = taken.whole ∙ ap (λ r. taken.front ++ r) ((feed-found rest at found).1
          ∙ sym (append_assoc (take at rest) (10 ∷ []) (drop (at + 1) rest)) ∙ ap (λ a. line ++ a) (sym is))
          ∙ sym (append_assoc taken.front line after);
      takes = takes-then old now new taken.front line (Ok tt) taken.takes takes;
    }

pub taken-stops : (old now new : Kept) (piece rest : List ℕ) (at : ℕ) (fault : FeedFault) → TakenTo old piece rest now
    → IsFirstByte (is_byte 10) rest (Some at) → TakesIn now (take at rest ++ 10 ∷ []) (Err fault) new
    → TakesIn old piece (Err fault) new
taken-stops old now new piece rest at fault taken found takes =
    let line : List ℕ = take at rest ++ 10 ∷ [] in
    let more : List ℕ = drop (at + 1) rest in
    let whole : piece ≡ (taken.front ++ line) ++ more = taken.whole
    ∙ ap (λ r. taken.front ++ r) ((feed-found rest at found).1 ∙ sym (append_assoc (take at rest) (10 ∷ []) more))
    ∙ sym (append_assoc taken.front line more) in
    subst (λ p. TakesIn old p (Err fault) new) (sym whole)
    (takes-stops old new (taken.front ++ line) more fault
    (takes-then old now new taken.front line (Err fault) taken.takes takes))

pub taken-last : (old now new : Kept) (piece rest : List ℕ) (result : Result (Unit {0}) FeedFault)
    → TakenTo old piece rest now → TakesIn now rest result new → TakesIn old piece result new
taken-last old now new piece rest result taken takes =
    subst (λ p. TakesIn old p result new) (sym taken.whole)
    (takes-then old now new taken.front rest result taken.takes takes)
