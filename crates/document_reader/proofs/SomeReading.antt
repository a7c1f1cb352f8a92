-- Bytes have a reading: where their lines do not stop, they are those of a document.
use Rattle.std.proofs.Common.{◌≡◌, ◌+◌, ◌-◌, ◌∙◌, ℕ, Bool, true, false, List, [], ◌∷◌, ◌++◌, length, Option, Some, None}
use Rattle.std.proofs.Common.{Result, Ok, Err, eqb, ltb, inl, inr, refl, sym, ap}
use Rattle.std.specs.List.{flat_map}
use Rattle.std.proofs.lemmas.Bool.{cond-false, eqb-true}
use Rattle.std.proofs.lemmas.List.{append-nil}
use Rattle.mgf_reader.specs.Text.{ended_lines, unfinished_line}
use Rattle.tree_document.specs.declared.document.Document.{Document}
use Rattle.tree_document.specs.declared.fault.CertFault.{CertFault}
use Rattle.tree_document.specs.declared.fault.CertFault.TheVariants.{BadLine, TooBig, TooDeep, Truncated}
use Rattle.tree_document.specs.Line.{Line, in_range, is_shallow, line_text}
use Rattle.tree_document.specs.Document.{AreGoodLines, lines_of, text_of}
use Rattle.tree_document.specs.Reading.{IsReading, Spelled}
use Rattle.line_fields.specs.Need.{Need, need_document}
use Rattle.line_reader.specs.Verdict.{Stop, at_bad, at_big, at_deep, at_end, verdict}
use Rattle.document_reader.proofs.WholeLines.{ended-some, unfinished-more}
use Rattle.document_reader.proofs.Known.{Known}
use Rattle.document_reader.proofs.Needs.{Leads, document_leads}
use Rattle.document_reader.proofs.Refusing.{bad_line, big_line, cut_short, deep_line, past_end}
use Rattle.document_reader.proofs.Running.{taken}

-- lines, each with its line feed
abbrev fed : List (List ℕ) → List ℕ
fed texts = flat_map (λ text. text ++ 10 ∷ []) texts

ended_by_feed : (byte : ℕ) (bytes : List ℕ) → eqb byte 10 ≡ true → ended_lines (byte ∷ bytes) ≡ [] ∷ ended_lines bytes
ended_by_feed byte bytes is = rw is refl

ended_by_none : (byte : ℕ) (bytes : List ℕ) → eqb byte 10 ≡ false → ended_lines bytes ≡ []
    → ended_lines (byte ∷ bytes) ≡ []
ended_by_none byte bytes is none = rw (is, none) refl

-- the whole lines of some bytes and what stands behind them are the bytes
rejoined : (bytes : List ℕ) → fed (ended_lines bytes) ++ unfinished_line bytes ≡ bytes
rejoined [] = refl
rejoined (byte ∷ bytes) = step (eqb byte 10) refl (ended_lines bytes) refl (rejoined bytes)
  where
    step : (b : Bool) → eqb byte 10 ≡ b → (lines : List (List ℕ)) → ended_lines bytes ≡ lines
        → fed (ended_lines bytes) ++ unfinished_line bytes ≡ bytes
        → fed (ended_lines (byte ∷ bytes)) ++ unfinished_line (byte ∷ bytes) ≡ byte ∷ bytes
    step true feed lines is later =
        let now : ended_lines (byte ∷ bytes) ≡ [] ∷ ended_lines bytes = ended_by_feed byte bytes feed in
        (λ i. fed (now i) ++ unfinished-more byte bytes [] (ended_lines bytes) now i) ∙ ap (λ t. 10 ∷ t) later
        ∙ ap (λ b. b ∷ bytes) (sym (eqb-true byte 10 feed))
    step false other [] is later =
        let now : ended_lines (byte ∷ bytes) ≡ [] = ended_by_none byte bytes other is in
        let all : unfinished_line (byte ∷ bytes) ≡ byte ∷ bytes =
        cond-false (ltb 0 (length (ended_lines (byte ∷ bytes)))) (unfinished_line bytes) (byte ∷ bytes)
        (ap (λ ls. ltb 0 (length ls)) now) in
        (λ i. fed (now i) ++ all i)
    step false other (line ∷ lines) is later =
        let now : ended_lines (byte ∷ bytes) ≡ (byte ∷ line) ∷ lines = ended-some byte bytes line lines other is in
        (λ i. fed (now i) ++ unfinished-more byte bytes (byte ∷ line) lines now i)
        ∙ ap (λ t. byte ∷ t) (ap (λ ls. fed ls ++ unfinished_line bytes) (sym is) ∙ later)

-- the texts of good lines of a document are their spellings
spelled_so : Known → (lines : List Line) (texts : List (List ℕ)) (needs left : List Need) → Leads lines needs left
    → AreGoodLines lines → Spelled lines texts → fed texts ≡ text_of lines
spelled_so known [] [] needs left leads good spelled = refl
spelled_so known [] (text ∷ texts) needs left leads good spelled = absurd spelled
spelled_so known (line ∷ lines) [] needs left leads good spelled = absurd spelled
spelled_so known (line ∷ lines) (text ∷ texts) [] left leads good spelled = absurd leads
spelled_so known (line ∷ lines) (text ∷ texts) (need ∷ needs) left leads good spelled =
    let read = known.complete need text line leads.0 leads.1 spelled.0 in
    let near : in_range read.line ≡ true = read.range ∙ good.0.in_range in
    let same : read.line ≡ line = read.same near in
    let told : text ≡ line_text line = (taken known need text read.line read.read near
    (ap is_shallow same ∙ good.0.shallow)).text_is ∙ ap line_text same in
    (λ i. (told i ++ 10 ∷ []) ++ spelled_so known lines texts (leads.0 ++ needs) left leads.2 good.1 spelled.1 i)

abbrev Told : List ℕ → Type 0
Told bytes = (result : Result Document CertFault) × IsReading bytes result

pub some_reading : Known → (bytes : List ℕ) → Told bytes
some_reading known bytes = step (verdict (need_document ∷ []) (ended_lines bytes)) refl
  where
    whole : (unfinished : List ℕ) → unfinished_line bytes ≡ unfinished
        → verdict (need_document ∷ []) (ended_lines bytes) ≡ None → Told bytes
    whole [] none is =
        let texts = ended_lines bytes in
        let at = past_end known texts (0 ∷ []) (length texts + 1) is (λ empty. (cc)) refl in (
          Ok at.whole,
          (
            at.good,
            sym (rejoined bytes) ∙ (λ i. spelled_so known (lines_of at.whole) (ended_lines bytes) (need_document ∷ [])
                [] (document_leads at.whole) at.good at.spelled i ++ none i)
                ∙ append-nil (text_of (lines_of at.whole)),
          ),
        )
    whole (byte ∷ rest) some is = (
      Err (BadLine (length (ended_lines bytes) + 1)),
      inr (past_end known (ended_lines bytes) (unfinished_line bytes) (length (ended_lines bytes) + 1) is
          (λ empty. no_byte (sym some ∙ empty)) refl),
    )
      where
        no_byte : byte ∷ rest ≡ [] → ⊥
        no_byte empty = (cc)

    step : (stop : Option Stop) → verdict (need_document ∷ []) (ended_lines bytes) ≡ stop → Told bytes
    step None is = whole (unfinished_line bytes) refl is
    step (Some (at_bad bad)) is = (
      Err (BadLine ((length (ended_lines bytes) + 1) - length bad)),
      inl
          (bad_line known (ended_lines bytes) bad _ is refl),
    )
    step (Some (at_big bad)) is = (
      Err (TooBig ((length (ended_lines bytes) + 1) - length bad)),
      big_line known
          (ended_lines bytes) bad _ is refl,
    )
    step (Some (at_deep bad)) is = (
      Err (TooDeep ((length (ended_lines bytes) + 1) - length bad)),
      deep_line known
          (ended_lines bytes) bad _ is refl,
    )
    step (Some at_end) is = (Err Truncated, cut_short known (ended_lines bytes) is)
