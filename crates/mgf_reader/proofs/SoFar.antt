-- For `SoFar` and `Reads`: how the reading of a text goes on with more of it.
use Rattle.std.proofs.Common.{◌≡◌, ℕ, ◌+◌, ◌⊎◌, Bool, true, false, nat_lt, if◌then◌else◌, List, [], ◌∷◌, ◌++◌, length}
use Rattle.std.proofs.Common.{Option, Some, None, Result, Ok, Err, refl, sym, ◌∙◌, ap, subst, append_assoc, append-nil}
use Rattle.std.proofs.Common.{length-append, inl, inr, ⊎_elim, arith}
use Rattle.std.specs.List.{AllByRecursion, flat_map}
use Rattle.std.proofs.lemmas.Bool.{ltb-true, lt-ltb}
use Rattle.mgf_reader.specs.declared.fault.MgfKind.{MgfKind}
use Rattle.mgf_reader.specs.declared.fault.MgfKind.TheVariants.{LineTooLong}
use Rattle.mgf_reader.specs.declared.fault.MgfFault.{MgfFault}
use Rattle.mgf_reader.specs.declared.fault.FeedFault.{FeedFault}
use Rattle.mgf_reader.specs.declared.fault.FeedFault.TheVariants.{Mgf, OutOfMemory}
use Rattle.mgf_reader.specs.Spectrum.{SpectrumValue}
use Rattle.mgf_reader.specs.Text.{greatest_line, without_mark, ended_lines, unfinished_line, line_if_any, text_lines}
use Rattle.mgf_reader.specs.Text.{judged_lines}
use Rattle.mgf_reader.specs.LineForm.{LineForm, too_long, begin, end, line_form}
use Rattle.mgf_reader.specs.Grammar.{fault_outside, fault_inside, peaks_of, IsInside, Piece, outside, block}
use Rattle.mgf_reader.specs.Grammar.{piece_lines, IsPiece, Rest, nothing, stray, refused, open_block, ReadsLines, Reads}
use Rattle.mgf_reader.specs.Grammar.{SoFar}
use Rattle.mgf_reader.specs.Stands.{IsFirstPart, Broken}
use Rattle.mgf_reader.specs.inside.Cutting.{HasNoLineFeed}
use Rattle.mgf_reader.specs.inside.Judging.{Judged, Judges, fault_behind, left_behind, counted}
use Rattle.mgf_reader.proofs.SpectraOf.{all-append, all-back}
use Rattle.mgf_reader.proofs.Judges.{IsOpen, Follows, follows-next, follows-fault, follows-so_far, follows-end_of}
use Rattle.mgf_reader.proofs.Judges.{reading-follows}
use Rattle.mgf_reader.proofs.EndedLines.{first_feed, ended-free, unfinished-free, ended-feed, unfinished-no_feed}
use Rattle.mgf_reader.proofs.EndedLines.{ended-more, unfinished-more, mark-one, mark-two, mark-long, mark-free}
use Rattle.mgf_reader.proofs.EndedLines.{ended-fed, unfinished-fed}

-- each line of a reading without a fault is of a right length
abbrev IsFine : List ℕ → Type 0
IsFine line = line_form line ≡ too_long → ⊥

inside-fine : (line : List ℕ) → IsInside line → IsFine line
inside-fine line inside = λ long. let bad : Some LineTooLong ≡ None = sym (ap (fault_inside 0) long) ∙ inside.right in
    cc

body-fine : (body : List (List ℕ)) → AllByRecursion IsInside body → AllByRecursion IsFine body
body-fine [] each = tt
body-fine (line ∷ body) each = (inside-fine line each.0, body-fine body each.1)

piece-fine : (piece : Piece) → IsPiece piece → AllByRecursion IsFine (piece_lines piece)
piece-fine (outside line) right = (
  λ long. let bad : Some LineTooLong ≡ None = sym (ap fault_outside long)
      ∙ right.right in cc,
  tt,
)
piece-fine (block first body last) right = (
  λ long. let bad : too_long ≡ begin = sym long ∙ right.0 in
      cc,
  all-append IsFine body (last ∷ []) (body-fine body right.1.lines) (
    λ long. let bad : too_long ≡ end = sym long
        ∙ right.2 in cc,
    tt,
  ),
)

pieces-fine : (pieces : List Piece) → AllByRecursion IsPiece pieces
    → AllByRecursion IsFine (flat_map piece_lines pieces)
pieces-fine [] right = tt
pieces-fine (piece ∷ pieces) right = all-append IsFine (piece_lines piece) (flat_map piece_lines pieces)
    (piece-fine piece right.0) (pieces-fine pieces right.1)

rest-fine : (rest : List (List ℕ)) → IsOpen rest → AllByRecursion IsFine rest
rest-fine [] opened = tt
rest-fine (first ∷ body) opened = (
  λ long. let bad : too_long ≡ begin = sym long ∙ opened.0 in
      cc,
  body-fine body opened.1.lines,
)

pub none-too_long : (old : Judged) (lines : List (List ℕ)) (out : List SpectrumValue) (front : List (List ℕ))
    (line : List ℕ) → Follows old lines out → lines ≡ front ++ line ∷ [] → line_form line ≡ too_long → ⊥
none-too_long old lines out front line follows is =
    let all : AllByRecursion IsFine (flat_map piece_lines follows.pieces ++ follows.rest) =
    all-append IsFine (flat_map piece_lines follows.pieces) follows.rest (pieces-fine follows.pieces follows.right)
    (rest-fine follows.rest follows.is_open) in
    let here : AllByRecursion IsFine (front ++ line ∷ []) =
    subst (AllByRecursion IsFine) (sym follows.whole ∙ is) all in
    (all-back IsFine front (line ∷ []) here).0

-- any lines are read, and the spectra of the first of them come first
pub record Extends (at_end : Bool) (lines : List (List ℕ)) (spectra : List SpectrumValue) : Type 0 where
  pub all : List SpectrumValue
  pub fault : Option MgfFault
  pub reads : ReadsLines at_end lines all fault
  pub part : IsFirstPart spectra all

left-waits-by : (waiting : List SpectrumValue) (old : Judged) (found : Option SpectrumValue) (form : LineForm)
    → old.waiting ≡ waiting → IsFirstPart waiting (left_behind (record old { block = found }) form).waiting
left-waits-by waiting old None begin is = ([], is ∙ sym (append-nil waiting))
left-waits-by waiting old None form is = ([], is ∙ sym (append-nil waiting))
left-waits-by waiting old (Some now) end is = (now ∷ [], ap (λ w. w ++ now ∷ []) is)
left-waits-by waiting old (Some now) form is = ([], is ∙ sym (append-nil waiting))

-- what waited before a line goes on waiting behind it
left-waits : (old : Judged) (form : LineForm) → IsFirstPart old.waiting (left_behind (counted old) form).waiting
left-waits old form = left-waits-by old.waiting (counted old) old.block form refl

-- nothing more waits
pub first_part-same : (a b : List SpectrumValue) → b ≡ a → IsFirstPart a b
first_part-same a b is = ([], is ∙ sym (append-nil a))

pub first_part-then : (a b c : List SpectrumValue) → IsFirstPart a b → IsFirstPart b c → IsFirstPart a c
first_part-then a b c first second =
    (first.0 ++ second.0, second.1 ∙ ap (λ l. l ++ second.0) first.1 ∙ append_assoc a first.0 second.0)

-- whatever a line is judged to be, what waited goes on waiting
pub judges-waits : (old new : Judged) (form : LineForm) (result : Result (Unit {0}) FeedFault)
    → Judges old form result new
    → IsFirstPart old.waiting new.waiting
judges-waits old new form (Ok done) is =
    subst (λ (j : Judged). IsFirstPart old.waiting j.waiting) (sym is.1) (left-waits old form)
judges-waits old new form (Err (Mgf fault)) is = first_part-same old.waiting new.waiting is.2
judges-waits old new form (Err OutOfMemory) is = first_part-same old.waiting new.waiting is

first_part-join : (a b c out : List SpectrumValue) → IsFirstPart a b → IsFirstPart (out ++ b) c
    → IsFirstPart (out ++ a) c
first_part-join a b c out first second = (
  first.0 ++ second.0,
  second.1 ∙ ap (λ l. (out ++ l) ++ second.0) first.1
      ∙ ap (λ l. l ++ second.0) (sym (append_assoc out a first.0)) ∙ append_assoc (out ++ a) first.0 second.0,
)

option-known : (option : Option MgfKind) → (option ≡ None) ⊎ ((kind : MgfKind) × (option ≡ Some kind))
option-known None = inl refl
option-known (Some kind) = inr (kind, refl)

pub extends : (at_end : Bool) (more : List (List ℕ)) (old : Judged) (lines : List (List ℕ)) (out : List SpectrumValue)
    → Follows old lines out → Extends at_end (lines ++ more) (out ++ old.waiting)
extends false [] old lines out follows = record {
  all = out ++ old.waiting;
  fault = None;
  reads = subst (λ l. ReadsLines false l (out ++ old.waiting) None) (sym (append-nil lines))
      (follows-so_far old lines out follows);
  part = ([], sym (append-nil (out ++ old.waiting)));
}
extends true [] old lines out follows =
    let ended = follows-end_of old lines out follows in
    record {
      all = out ++ old.waiting;
      fault = ended.fault;
      reads = subst (λ l. ReadsLines true l (out ++ old.waiting) ended.fault) (sym (append-nil lines)) ended.reads;
      part = ([], sym (append-nil (out ++ old.waiting)));
    }
extends at_end (line ∷ more) old lines out follows =
    let new : Judged = left_behind (counted old) (line_form line) in
    ⊎_elim
    (λ right.
    let after = extends at_end more new (lines ++ line ∷ []) out (follows-next old lines out line right follows) in
    record {
      all = after.all;
      fault = after.fault;
      reads = subst (λ l. ReadsLines at_end l after.all after.fault) (append_assoc lines (line ∷ []) more) after.reads;
      part = first_part-join old.waiting new.waiting after.all out (left-waits old (line_form line)) after.part;
    })
    (λ bad. record {
      all = out ++ old.waiting;
      fault = Some (record { line = old.judged + 1; kind = bad.0 });
      reads = follows-fault at_end old lines out line more bad.0 bad.1 follows;
      part = ([], sym (append-nil (out ++ old.waiting)));
    })
    (option-known (fault_behind old (line_form line)))

-- a fault stays where lines are added
rest-longer : (at_end : Bool) (number : ℕ) (rest extra : List (List ℕ)) (fault : MgfFault)
    → Rest false number rest (Some fault) → Rest at_end number (rest ++ extra) (Some fault)
rest-longer at_end number rest extra fault (nothing empty is) = absurd cc
rest-longer at_end number rest extra fault (stray line more kind is bad named) =
    stray line (more ++ extra) kind (ap (λ l. l ++ extra) is) bad named
rest-longer at_end number rest extra fault (refused first body line more kind is begins is_body bad named) =
    refused first body line (more ++ extra) kind (ap (λ l. l ++ extra) is
    ∙ ap (λ l. first ∷ l) (append_assoc body (line ∷ more) extra)) begins is_body bad named
rest-longer at_end number rest extra fault (open_block first body is begins is_body named) = absurd cc

pub fault-longer : (at_end : Bool) (lines extra : List (List ℕ)) (spectra : List SpectrumValue) (fault : MgfFault)
    → ReadsLines false lines spectra (Some fault) → ReadsLines at_end (lines ++ extra) spectra (Some fault)
fault-longer at_end lines extra spectra fault reads = record {
  pieces = reads.pieces;
  rest = reads.rest ++ extra;
  whole = ap (λ l. l ++ extra) reads.whole ∙ append_assoc (flat_map piece_lines reads.pieces) reads.rest extra;
  right = reads.right;
  are_spectra = reads.are_spectra;
  is_fault = rest-longer at_end (1 + length (flat_map piece_lines reads.pieces)) reads.rest extra fault reads.is_fault;
}

-- where the last line of a list stands, if a line is known in it
pub record Within (front : List (List ℕ)) (line : List ℕ) (init : List (List ℕ)) : Type 0 where
  pub between : List (List ℕ)
  pub is : init ≡ front ++ line ∷ between

last-place : (front : List (List ℕ)) (line : List ℕ) (more init : List (List ℕ)) (last : List ℕ)
    → front ++ line ∷ more ≡ init ++ last ∷ [] → ((front ≡ init) × (line ≡ last)) ⊎ Within front line init
last-place [] line [] [] last is = inl (refl, let e : line ≡ last = cc in e)
last-place [] line [] (other ∷ init) last is = let e : [] ≡ init ++ last ∷ [] = cc in
    absurd (let size : 0 ≡ length (init ++ last ∷ []) = ap length e in
    omega (arith, size, length-append init (last ∷ [])))
last-place [] line (second ∷ more) [] last is = absurd cc
last-place [] line (second ∷ more) (other ∷ init) last is =
    inr (record { between = init; is = let e : line ≡ other = cc in ap (λ l. l ∷ init) (sym e) })
last-place (known ∷ front) line more [] last is = let e : front ++ line ∷ more ≡ [] = cc in
    absurd (let size : length (front ++ line ∷ more) ≡ 0 = ap length e in
    omega (arith, size, length-append front (line ∷ more)))
last-place (known ∷ front) line more (other ∷ init) last is =
    let e : front ++ line ∷ more ≡ init ++ last ∷ [] = cc in
    let same : known ≡ other = cc in
    ⊎_elim
    (λ at. inl (cc at.0, at.1))
    (λ within. inr (record { between = within.between; is = cc within.is }))
    (last-place front line more init last e)

-- a fault stays where the last line, too long already, grows on
rest-grows : (at_end : Bool) (number : ℕ) (front init rest extra : List (List ℕ)) (last longer : List ℕ)
    (fault : MgfFault) → init ++ last ∷ [] ≡ front ++ rest → line_form last ≡ line_form longer
    → Rest false number rest (Some fault) → (grown : List (List ℕ)) × (init ++ longer ∷ extra ≡ front ++ grown)
    × Rest at_end number grown (Some fault)
rest-grows at_end number front init rest extra last longer fault whole same (nothing empty is) = absurd cc
rest-grows at_end number front init rest extra last longer fault whole same (stray line more kind is bad named) =
    ⊎_elim
    (λ at. (
      longer ∷ extra,
      ap (λ l. l ++ longer ∷ extra) (sym at.0),
      stray longer extra kind refl (ap fault_outside (sym same ∙ ap line_form (sym at.1)) ∙ bad) named,
    ))
    (λ within. (
      line ∷ (within.between ++ longer ∷ extra),
      ap (λ l. l ++ longer ∷ extra) within.is
          ∙ append_assoc front (line ∷ within.between) (longer ∷ extra),
      stray line (within.between ++ longer ∷ extra) kind refl bad named,
    ))
    (last-place front line more init last (sym (whole ∙ ap (λ l. front ++ l) is)))
rest-grows at_end number front init rest extra last longer fault whole same
    (refused first body line more kind is begins is_body bad named) =
    ⊎_elim
    (λ at. (
      first ∷ (body ++ longer ∷ extra),
      ap (λ l. l ++ longer ∷ extra) (sym at.0)
          ∙ append_assoc front (first ∷ body) (longer ∷ extra),
      refused first body longer extra kind refl begins is_body
          (ap (fault_inside (length (peaks_of 0 body))) (sym same ∙ ap line_form (sym at.1)) ∙ bad) named,
    ))
    (λ within. (
      first ∷ (body ++ line ∷ (within.between ++ longer ∷ extra)),
      ap (λ l. l ++ longer ∷ extra) within.is
          ∙ append_assoc (front ++ first ∷ body) (line ∷ within.between) (longer ∷ extra)
          ∙ append_assoc front (first ∷ body) (line ∷ (within.between ++ longer ∷ extra)),
      refused first body line (within.between ++ longer ∷ extra) kind refl begins is_body bad named,
    ))
    (last-place (front ++ first ∷ body) line more init last (append_assoc front (first ∷ body) (line ∷ more)
    ∙ sym (whole ∙ ap (λ l. front ++ l) is)))
rest-grows at_end number front init rest extra last longer fault whole same
    (open_block first body is begins is_body named) = absurd cc

pub fault-grows : (at_end : Bool) (init extra : List (List ℕ)) (last longer : List ℕ) (spectra : List SpectrumValue)
    (fault : MgfFault) → line_form last ≡ line_form longer → ReadsLines false (init ++ last ∷ []) spectra (Some fault)
    → ReadsLines at_end (init ++ longer ∷ extra) spectra (Some fault)
fault-grows at_end init extra last longer spectra fault same reads =
    let grown = rest-grows at_end (1 + length (flat_map piece_lines reads.pieces))
    (flat_map piece_lines reads.pieces) init reads.rest extra last longer fault reads.whole same reads.is_fault in
    record {
      pieces = reads.pieces;
      rest = grown.0;
      whole = grown.1;
      right = reads.right;
      are_spectra = reads.are_spectra;
      is_fault = grown.2;
    }

-- what is judged of an unfinished line
abbrev long_line : List ℕ → List (List ℕ)
long_line line = if nat_lt greatest_line (length line) then line ∷ [] else []

pub is-too_long : (line : List ℕ) → nat_lt greatest_line (length line) ≡ true → line_form line ≡ too_long
is-too_long line long = rw long refl

pub judged-long : (text : List ℕ) → nat_lt greatest_line (length (unfinished_line (without_mark text))) ≡ true
    → judged_lines text ≡ ended_lines (without_mark text) ++ unfinished_line (without_mark text) ∷ []
judged-long text long = rw long refl

pub judged-short : (text : List ℕ) → nat_lt greatest_line (length (unfinished_line (without_mark text))) ≡ false
    → judged_lines text ≡ ended_lines (without_mark text)
judged-short text short = rw short (append-nil (ended_lines (without_mark text)))

-- a line that is too long stays so however it goes on
pub record Longer (lines : List (List ℕ)) : Type 0 where
  pub line : List ℕ
  pub extra : List (List ℕ)
  pub is : lines ≡ line ∷ extra
  pub long : nat_lt greatest_line (length line) ≡ true

line-longer : (line more : List ℕ) → HasNoLineFeed line → nat_lt greatest_line (length line) ≡ true
    → Longer (ended_lines (line ++ more) ++ long_line (unfinished_line (line ++ more)))
line-longer line more free long =
    ⊎_elim
    (λ more_free.
    let both : HasNoLineFeed (line ++ more) = all-append (λ byte. byte ≡ 10 → ⊥) line more free more_free in
    let still : nat_lt greatest_line (length (line ++ more)) ≡ true =
    lt-ltb greatest_line (length (line ++ more))
    (omega (arith, ltb-true greatest_line (length line) long, length-append line more)) in
    record {
      line = line ++ more;
      extra = [];
      is = ap (λ lines. lines ++ long_line (unfinished_line (line ++ more))) (ended-free (line ++ more) both)
          ∙ ap long_line (unfinished-free (line ++ more) both)
          ∙ ap (λ (b : Bool). if b then (line ++ more) ∷ [] else []) still;
      long = still;
    })
    (λ fed.
    let both : HasNoLineFeed (line ++ fed.line) = all-append (λ byte. byte ≡ 10 → ⊥) line fed.line free fed.free in
    let whole : line ++ more ≡ (line ++ fed.line) ++ 10 ∷ fed.more = ap (λ m. line ++ m) fed.whole
    ∙ sym (append_assoc line fed.line (10 ∷ fed.more)) in
    record {
      line = line ++ fed.line;
      extra = ended_lines fed.more ++ long_line (unfinished_line (line ++ more));
      is = ap (λ lines. lines ++ long_line (unfinished_line (line ++ more))) (ap ended_lines whole
          ∙ ended-feed (line ++ fed.line) fed.more both);
      long = lt-ltb greatest_line (length (line ++ fed.line))
          (omega (arith, ltb-true greatest_line (length line) long, length-append line fed.line));
    })
    (first_feed more)

-- a text that is long has its mark whole
mark-whole : (text more : List ℕ) → nat_lt greatest_line (length (without_mark text)) ≡ true
    → without_mark (text ++ more) ≡ without_mark text ++ more
mark-whole [] more long = absurd (omega (arith, ltb-true greatest_line (length (without_mark [])) long))
mark-whole (a ∷ []) more long = absurd (omega (
  arith,
  ltb-true greatest_line (length (without_mark (a ∷ []))) long,
  ap length (mark-one a),
))
mark-whole (a ∷ b ∷ []) more long = absurd
    (omega (arith, ltb-true greatest_line (length (without_mark (a ∷ b ∷ []))) long, ap length (mark-two a b)))
mark-whole (a ∷ b ∷ c ∷ text) more long = mark-long a b c text more

-- the lines of a longer text begin with those that are ended
pub ended-first : (text more : List ℕ) → (extra : List (List ℕ))
    × (ended_lines (without_mark (text ++ more)) ≡ ended_lines (without_mark text) ++ extra)
ended-first text more =
    ⊎_elim
    (λ free. (
      ended_lines (without_mark (text ++ more)),
      ap (λ lines. lines ++ ended_lines (without_mark (text ++ more)))
          (sym (ended-free (without_mark text) (mark-free text free))),
    ))
    (λ fed.
    let some : ended_lines (without_mark text) ≡ without_mark fed.line ∷ ended_lines fed.more =
    ap (λ t. ended_lines (without_mark t)) fed.whole ∙ ended-fed fed.line fed.more fed.free in (
      ended_lines (unfinished_line fed.more ++ more),
      ap (λ t. ended_lines (without_mark t)) (ap (λ t. t ++ more) fed.whole
          ∙ append_assoc fed.line (10 ∷ fed.more) more)
          ∙ ended-fed fed.line (fed.more ++ more) fed.free
          ∙ ap (λ lines. without_mark fed.line ∷ lines) (ended-more fed.more more)
          ∙ ap (λ lines. lines ++ ended_lines (unfinished_line fed.more ++ more)) (sym some),
    ))
    (first_feed text)

-- and then with the one that is too long
long-first : (text more : List ℕ) → nat_lt greatest_line (length (unfinished_line (without_mark text))) ≡ true
    → (after : List (List ℕ)) × (judged_lines (text ++ more) ≡ ended_lines (without_mark text) ++ after) × Longer after
long-first text more long =
    ⊎_elim
    (λ free.
    let bare : List ℕ = without_mark text in
    let bare_free : HasNoLineFeed bare = mark-free text free in
    let bare_long : nat_lt greatest_line (length bare) ≡ true =
    ap (λ l. nat_lt greatest_line (length l)) (sym (unfinished-free bare bare_free)) ∙ long in
    let after : List (List ℕ) = ended_lines (bare ++ more) ++ long_line (unfinished_line (bare ++ more)) in (
      after,
      ap (λ t. ended_lines t ++ long_line (unfinished_line t)) (mark-whole text more bare_long)
          ∙ ap (λ lines. lines ++ after) (sym (ended-free bare bare_free)),
      line-longer bare more bare_free bare_long,
    ))
    (λ fed.
    let tail : List ℕ = unfinished_line fed.more in
    let some : ended_lines (without_mark text) ≡ without_mark fed.line ∷ ended_lines fed.more =
    ap (λ t. ended_lines (without_mark t)) fed.whole ∙ ended-fed fed.line fed.more fed.free in
    let same : unfinished_line (without_mark text) ≡ tail = ap (λ t. unfinished_line (without_mark t)) fed.whole
    ∙ unfinished-fed fed.line fed.more fed.free in
    let tail_long : nat_lt greatest_line (length tail) ≡ true = ap (λ l. nat_lt greatest_line (length l)) (sym same)
    ∙ long in
    let behind : text ++ more ≡ fed.line ++ 10 ∷ (fed.more ++ more) = ap (λ t. t ++ more) fed.whole
    ∙ append_assoc fed.line (10 ∷ fed.more) more in
    let ended : ended_lines (without_mark (text ++ more))
    ≡ ended_lines (without_mark text) ++ ended_lines (tail ++ more) = ap (λ t. ended_lines (without_mark t)) behind
    ∙ ended-fed fed.line (fed.more ++ more) fed.free
    ∙ ap (λ lines. without_mark fed.line ∷ lines) (ended-more fed.more more)
    ∙ ap (λ lines. lines ++ ended_lines (tail ++ more)) (sym some) in
    let rest : unfinished_line (without_mark (text ++ more)) ≡ unfinished_line (tail ++ more) =
    ap (λ t. unfinished_line (without_mark t)) behind ∙ unfinished-fed fed.line (fed.more ++ more) fed.free
    ∙ unfinished-more fed.more more in
    let after : List (List ℕ) = ended_lines (tail ++ more) ++ long_line (unfinished_line (tail ++ more)) in (
      after,
      ap (λ lines. lines ++ long_line (unfinished_line (without_mark (text ++ more)))) ended
          ∙ ap (λ u. (ended_lines (without_mark text) ++ ended_lines (tail ++ more)) ++ long_line u) rest
          ∙ append_assoc (ended_lines (without_mark text)) (ended_lines (tail ++ more))
          (long_line (unfinished_line (tail ++ more))),
      line-longer tail more (unfinished-no_feed fed.more) tail_long,
    ))
    (first_feed text)

bool-known : (b : Bool) → (b ≡ true) ⊎ (b ≡ false)
bool-known true = inl refl
bool-known false = inr refl

-- the judged lines of a longer text, where the unfinished line was short
judged-first : (text more : List ℕ) → nat_lt greatest_line (length (unfinished_line (without_mark text))) ≡ false
    → (extra : List (List ℕ)) × (judged_lines (text ++ more) ≡ judged_lines text ++ extra)
judged-first text more short =
    let first = ended-first text more in
    let rest : List (List ℕ) = long_line (unfinished_line (without_mark (text ++ more))) in (
      first.0 ++ rest,
      ap (λ lines. lines ++ rest) first.1 ∙ append_assoc (ended_lines (without_mark text)) first.0 rest
          ∙ ap (λ lines. lines ++ (first.0 ++ rest)) (sym (judged-short text short)),
    )

any-long : (line : List ℕ) → nat_lt greatest_line (length line) ≡ true → line_if_any line ≡ line ∷ []
any-long [] long = absurd (omega (arith, ltb-true greatest_line 0 long))
any-long (byte ∷ bytes) long = refl

-- the fault of a text is that of a longer one
pub fault-goes : (text more : List ℕ) (spectra : List SpectrumValue) (fault : MgfFault)
    → SoFar text spectra (Some fault) → SoFar (text ++ more) spectra (Some fault)
fault-goes text more spectra fault reads =
    ⊎_elim
    (λ long.
    let first = long-first text more long in
    let longer = first.2 in
    let grown : ReadsLines false (ended_lines (without_mark text) ++ longer.line ∷ longer.extra) spectra (Some fault) =
    fault-grows false (ended_lines (without_mark text)) longer.extra
    (unfinished_line (without_mark text)) longer.line spectra fault
    (is-too_long (unfinished_line (without_mark text)) long ∙ sym (is-too_long longer.line longer.long))
    (subst (λ l. ReadsLines false l spectra (Some fault)) (judged-long text long) reads) in
    subst (λ l. ReadsLines false l spectra (Some fault))
    (sym (first.1 ∙ ap (λ l. ended_lines (without_mark text) ++ l) longer.is)) grown)
    (λ short.
    let first = judged-first text more short in
    subst (λ l. ReadsLines false l spectra (Some fault)) (sym first.1)
    (fault-longer false (judged_lines text) first.0 spectra fault reads))
    (bool-known (nat_lt greatest_line (length (unfinished_line (without_mark text)))))

-- and that of the text as a whole
pub fault-ends : (text : List ℕ) (spectra : List SpectrumValue) (fault : MgfFault) → SoFar text spectra (Some fault)
    → Reads text spectra (Some fault)
fault-ends text spectra fault reads =
    ⊎_elim
    (λ long.
    let same : judged_lines text ++ [] ≡ text_lines text = append-nil (judged_lines text) ∙ judged-long text long
    ∙ ap (λ l. ended_lines (without_mark text) ++ l) (sym (any-long (unfinished_line (without_mark text)) long)) in
    subst (λ l. ReadsLines true l spectra (Some fault)) same
    (fault-longer true (judged_lines text) [] spectra fault reads))
    (λ short.
    subst (λ l. ReadsLines true l spectra (Some fault))
    (ap (λ l. l ++ line_if_any (unfinished_line (without_mark text))) (judged-short text short))
    (fault-longer true (judged_lines text) (line_if_any (unfinished_line (without_mark text))) spectra fault reads))
    (bool-known (nat_lt greatest_line (length (unfinished_line (without_mark text)))))

-- where no line is wrong, the unfinished one is short
pub follows-short : (old : Judged) (text : List ℕ) (out : List SpectrumValue) → Follows old (judged_lines text) out
    → nat_lt greatest_line (length (unfinished_line (without_mark text))) ≡ false
follows-short old text out follows =
    ⊎_elim
    (λ long. absurd (none-too_long old (judged_lines text) out (ended_lines (without_mark text))
    (unfinished_line (without_mark text)) follows (judged-long text long)
    (is-too_long (unfinished_line (without_mark text)) long)))
    (λ short. short)
    (bool-known (nat_lt greatest_line (length (unfinished_line (without_mark text)))))

-- the spectra of a text come first in a longer one
pub reading-breaks : (text more : List ℕ) (spectra : List SpectrumValue) (fault : Option MgfFault)
    → SoFar text spectra fault → Broken (SoFar (text ++ more)) spectra
reading-breaks text more spectra (Some fault) reads =
    record {
      all = spectra;
      fault = Some fault;
      reads = fault-goes text more spectra fault reads;
      part = ([], sym (append-nil spectra));
    }
reading-breaks text more spectra None reads =
    let follows = reading-follows (judged_lines text) spectra reads in
    let first = judged-first text more (follows-short _ text [] follows) in
    let whole = extends false first.0 _ (judged_lines text) [] follows in
    record {
      all = whole.all;
      fault = whole.fault;
      reads = subst (λ l. ReadsLines false l whole.all whole.fault) (sym first.1) whole.reads;
      part = whole.part;
    }

-- and in the text as a whole
pub reading-ends : (text : List ℕ) (spectra : List SpectrumValue) (fault : Option MgfFault) → SoFar text spectra fault
    → Broken (Reads text) spectra
reading-ends text spectra (Some fault) reads =
    record {
      all = spectra;
      fault = Some fault;
      reads = fault-ends text spectra fault reads;
      part = ([], sym (append-nil spectra));
    }
reading-ends text spectra None reads =
    let follows = reading-follows (judged_lines text) spectra reads in
    let rest : List (List ℕ) = line_if_any (unfinished_line (without_mark text)) in
    let whole = extends true rest _ (judged_lines text) [] follows in
    let same : judged_lines text ++ rest ≡ text_lines text =
    ap (λ l. l ++ rest) (judged-short text (follows-short _ text [] follows)) in
    record {
      all = whole.all;
      fault = whole.fault;
      reads = subst (λ l. ReadsLines true l whole.all whole.fault) same whole.reads;
      part = whole.part;
    }
