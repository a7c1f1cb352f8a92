-- The text of a line holds no line feed: its bytes are at least a space. So the lines of a spelling are cut where they
-- were joined.
use Rattle.std.proofs.Common.{◌≡◌, ◌<◌, ◌≤◌, ◌+◌, ◌/◌, ◌%◌, ◌∙◌, ℕ, ℤ, pos, negsuc, Bool, true, false, not, ◌&&◌, cond}
use Rattle.std.proofs.Common.{List, [], ◌∷◌, ◌++◌, eqb, leb, ltb, refl, sym, ap, subst, arith}
use Rattle.std.specs.Char.{is_ascii_digit}
use Rattle.std.specs.List.{AllByRecursion, list_all}
use Rattle.std.specs.Str.{all_ascii_digits}
use Rattle.std.proofs.lemmas.Bool.{and_from, and_parts, le-leb, leb-true, ne_eqb}
use Rattle.std.proofs.lemmas.List.{append_assoc}
use Rattle.std.proofs.lemmas.List.Elements.{recursion_from_All}
use Rattle.std.proofs.lemmas.List.Folds.{list_all-append}
use Rattle.element_table.specs.FormulaText.{formula_text}
use Rattle.mgf_reader.specs.Fault.{kind_text}
use Rattle.mgf_reader.specs.Text.{ended_lines, unfinished_line}
use Rattle.mgf_reader.specs.declared.fault.MgfKind.{MgfKind}
use Rattle.mgf_reader.specs.declared.fault.MgfKind.TheVariants.{NestedBegin, StrayEnd, OpenBlock, PeakOutside, BadPeak}
use Rattle.mgf_reader.specs.declared.fault.MgfKind.TheVariants.{BadPrecursor, BadCharge, NoForm, LineTooLong}
use Rattle.mgf_reader.specs.declared.fault.MgfKind.TheVariants.{TooManyPeaks}
use Rattle.tree_document.specs.declared.document.Skip.TheVariants.{NoPrecursor, Charge, Range, TooMany}
use Rattle.tree_document.specs.declared.entry.Mark.{Mark}
use Rattle.tree_document.specs.declared.entry.Mark.TheVariants.{Optimal, Gap}
use Rattle.tree_document.specs.Title.{escaped, escaped_byte, hexadecimal}
use Rattle.tree_document.specs.Line.{Field, a_word, a_number, a_signed, a_formula, a_mark, a_kind, a_title}
use Rattle.tree_document.specs.Line.{some_numbers, Line, header_line, clean_line, refused_line, spectrum_line}
use Rattle.tree_document.specs.Line.{skip_line, lists_line, list_line, formula_line, entries_line, too_large_line}
use Rattle.tree_document.specs.Line.{tree_line, row_line, table_line, table_row_line, split_line, prices_line}
use Rattle.tree_document.specs.Line.{potentials_line, done_line, Spells, WritesAll, WritesField, WritesFields}
use Rattle.tree_document.specs.Line.{WritesNumber, WritesSigned, form_of, is_number, line_text, mark_text}
use Rattle.tree_document.specs.Document.{AreGoodLines, text_of}
use Rattle.tree_document.specs.Reading.{Spelled}
use Rattle.document_reader.proofs.WholeLines.{ended-some, unfinished-more}
use Rattle.document_reader.proofs.Known.{Known}

abbrev Plain : List ℕ → Type 0
Plain text = list_all (leb 32) text ≡ true

joined : (first later : List ℕ) → Plain first → Plain later → Plain (first ++ later)
joined first later one other = list_all-append (leb 32) first later ∙ and_from _ _ one other

digits_plain : (digits : List ℕ) → all_ascii_digits digits ≡ true → Plain digits
digits_plain [] all = refl
digits_plain (digit ∷ digits) all =
    let parts = and_parts (is_ascii_digit digit) (all_ascii_digits digits) all in
    let low : 48 ≤ digit = leb-true 48 digit (and_parts (leb 48 digit) (leb digit 57) parts.0).0 in
    and_from _ _ (le-leb 32 digit (omega arith)) (digits_plain digits parts.1)

visible_plain : (text : List ℕ) → AllByRecursion (λ byte. (32 < byte) × (byte < 127)) text → Plain text
visible_plain [] all = refl
visible_plain (byte ∷ text) all =
    let above : 32 < byte = all.0.0 in
    and_from _ _ (le-leb 32 byte (omega arith)) (visible_plain text all.1)

kind_plain : (kind : MgfKind) → Plain (kind_text kind)
kind_plain NestedBegin = refl
kind_plain StrayEnd = refl
kind_plain OpenBlock = refl
kind_plain PeakOutside = refl
kind_plain BadPeak = refl
kind_plain BadPrecursor = refl
kind_plain BadCharge = refl
kind_plain NoForm = refl
kind_plain LineTooLong = refl
kind_plain TooManyPeaks = refl

mark_plain : (mark : Mark) → Plain (mark_text mark)
mark_plain Optimal = refl
mark_plain Gap = refl

hexadecimal_plain : (digit : ℕ) → leb 32 (hexadecimal digit) ≡ true
hexadecimal_plain digit = step (ltb digit 10)
  where
    step : (b : Bool) → leb 32 (cond b (48 + digit) (87 + digit)) ≡ true
    step true = le-leb 32 (48 + digit) (omega arith)
    step false = le-leb 32 (87 + digit) (omega arith)

byte_plain : (byte : ℕ) → Plain (escaped_byte byte)
byte_plain byte = step (leb 32 byte && (leb byte 126 && not (eqb byte 92))) refl
  where
    step : (b : Bool) → (leb 32 byte && (leb byte 126 && not (eqb byte 92))) ≡ b
        → Plain (cond b (byte ∷ []) (92 ∷ 120 ∷ hexadecimal (byte / 16) ∷ hexadecimal (byte % 16) ∷ []))
    step true is = and_from _ _ (and_parts (leb 32 byte) (leb byte 126 && not (eqb byte 92)) is).0 refl
    step false is = and_from _ _ (hexadecimal_plain (byte / 16)) (and_from _ _ (hexadecimal_plain (byte % 16)) refl)

escaped_plain : (title : List ℕ) → Plain (escaped title)
escaped_plain [] = refl
escaped_plain (byte ∷ title) = joined (escaped_byte byte) (escaped title) (byte_plain byte) (escaped_plain title)

number_digits : (token : List ℕ) → is_number token ≡ true → all_ascii_digits token ≡ true
number_digits [] is = (cc)
number_digits (digit ∷ []) is = and_from _ _ is refl
number_digits (digit ∷ next ∷ digits) is = (and_parts (not (eqb digit 48)) (all_ascii_digits (digit ∷ next ∷ digits))
    is).1

number_plain : (number : ℕ) (text : List ℕ) → WritesNumber number text → Plain text
number_plain number text is = digits_plain text (number_digits text is.0)

signed_plain : (number : ℤ) (text : List ℕ) → WritesSigned number text → Plain text
signed_plain (pos n) text is = number_plain n text is
signed_plain (negsuc n) text is = subst Plain (sym is.1) (digits_plain is.0 (number_digits is.0 is.2.0))

all_plain : (numbers : List ℤ) (text : List ℕ) → WritesAll numbers text → Plain text
all_plain [] text is = subst Plain (sym is) refl
all_plain (number ∷ numbers) text is =
    subst Plain (sym is.2) (joined is.0 is.1 (signed_plain number is.0 is.3) (all_plain numbers is.1 is.4))

-- the words of a form hold no line feed
abbrev has_plain_word : Field → Bool
has_plain_word (a_word word) = list_all (leb 32) word
has_plain_word field = true

field_plain : Known → (field : Field) (text : List ℕ) → has_plain_word field ≡ true → WritesField field text
    → Plain text
field_plain known (a_word word) text good is = subst Plain (sym is) good
field_plain known (a_number least most number) text good is = subst Plain (sym is.1) (number_plain number is.0 is.2)
field_plain known (a_signed most number) text good is = subst Plain (sym is.1) (signed_plain number is.0 is.2)
field_plain known (a_formula counts) text good is =
    subst Plain (sym is.1) (visible_plain (formula_text counts)
    (recursion_from_All _ (formula_text counts) (known.visible counts is.0)))
field_plain known (a_mark mark) text good is = subst Plain (sym is) (mark_plain mark)
field_plain known (a_kind number) text good is = subst Plain (sym is.2) (kind_plain is.0)
field_plain known (a_title title) text good is = subst Plain (sym is.1) (escaped_plain title)
field_plain known (some_numbers least count most numbers) text good is = all_plain numbers text is.1

fields_plain : Known → (fields : List Field) (text : List ℕ) → list_all has_plain_word fields ≡ true
    → WritesFields fields text → Plain text
fields_plain known [] text good is = subst Plain (sym is) refl
fields_plain known (field ∷ fields) text good is =
    let parts = and_parts (has_plain_word field) (list_all has_plain_word fields) good in
    subst Plain (sym is.2) (joined is.0 is.1 (field_plain known field is.0 parts.0 is.3)
    (fields_plain known fields is.1 parts.1 is.4))

words_plain : (line : Line) → (list_all (leb 32) (form_of line).word && list_all has_plain_word (form_of line).fields) ≡
    true
words_plain header_line = refl
words_plain clean_line = refl
words_plain (refused_line line kind) = refl
words_plain (spectrum_line line title) = refl
words_plain (skip_line NoPrecursor) = refl
words_plain (skip_line Charge) = refl
words_plain (skip_line (Range mz)) = refl
words_plain (skip_line (TooMany mz)) = refl
words_plain (lists_line count) = refl
words_plain (list_line mz intensity count) = refl
words_plain (formula_line counts) = refl
words_plain (entries_line count) = refl
words_plain (too_large_line candidate error vertices) = refl
words_plain (tree_line candidate error score upper mark count) = refl
words_plain (row_line it) = refl
words_plain (table_line count) = refl
words_plain (table_row_line items) = refl
words_plain (split_line above colour edges) = refl
words_plain (prices_line numbers) = refl
words_plain (potentials_line numbers) = refl
words_plain done_line = refl

line_plain : Known → (line : Line) (text : List ℕ) → Spells line text → Plain text
line_plain known line text is =
    let parts = and_parts (list_all (leb 32) (form_of line).word) (list_all has_plain_word (form_of line).fields)
    (words_plain line) in
    subst Plain (sym is.1) (joined (form_of line).word is.0 parts.0
    (fields_plain known (form_of line).fields is.0 parts.1 is.2))

no_feed : (byte : ℕ) → leb 32 byte ≡ true → eqb byte 10 ≡ false
no_feed byte is = let above : 32 ≤ byte = leb-true 32 byte is in ne_eqb byte 10 (λ same. omega arith)

ended-plain : (line rest : List ℕ) → Plain line → ended_lines (line ++ 10 ∷ rest) ≡ line ∷ ended_lines rest
ended-plain [] rest all = refl
ended-plain (byte ∷ line) rest all =
    let parts = and_parts (leb 32 byte) (list_all (leb 32) line) all in
    ended-some byte (line ++ 10 ∷ rest) line (ended_lines rest) (no_feed byte parts.0) (ended-plain line rest parts.1)

unfinished-plain : (line rest : List ℕ) → Plain line → unfinished_line (line ++ 10 ∷ rest) ≡ unfinished_line rest
unfinished-plain [] rest all = unfinished-more 10 rest [] (ended_lines rest) refl
unfinished-plain (byte ∷ line) rest all =
    let parts = and_parts (leb 32 byte) (list_all (leb 32) line) all in
    unfinished-more byte (line ++ 10 ∷ rest) (byte ∷ line) (ended_lines rest) (ended-plain (byte ∷ line) rest all)
    ∙ unfinished-plain line rest parts.1

-- the whole lines of the text of good lines are spellings of these, and nothing stands behind them
pub spelled_text : Known → (lines : List Line) → AreGoodLines lines
    → Spelled lines (ended_lines (text_of lines)) × (unfinished_line (text_of lines) ≡ [])
spelled_text known [] good = (tt, refl)
spelled_text known (line ∷ lines) good =
    let later = spelled_text known lines good.1 in
    let plain : Plain (line_text line) = line_plain known line (line_text line) good.0.spelled in
    let whole : text_of (line ∷ lines) ≡ line_text line ++ 10 ∷ text_of lines =
    append_assoc (line_text line) (10 ∷ []) (text_of lines) in
    let texts : ended_lines (text_of (line ∷ lines)) ≡ line_text line ∷ ended_lines (text_of lines) =
    ap ended_lines whole ∙ ended-plain (line_text line) (text_of lines) plain in (
      subst (Spelled (line ∷ lines)) (sym texts) (good.0.spelled, later.0),
      ap unfinished_line whole
          ∙ unfinished-plain (line_text line) (text_of lines) plain ∙ later.1,
    )
