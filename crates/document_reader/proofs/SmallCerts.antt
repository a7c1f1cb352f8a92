-- The certificates of a good document are small: as many splits as may stand above each of their lines, and each split
-- takes a line.
use Rattle.std.proofs.Common.{◌≡◌, ◌<◌, ◌≤◌, ◌+◌, ◌-◌, ℕ, List, [], ◌∷◌, ◌++◌, length, map, max, ap, arith}
use Rattle.std.specs.List.{AllByRecursion, flat_map}
use Rattle.std.proofs.Math.Nat.{max-le}
use Rattle.std.proofs.lemmas.Bool.{ltb-true}
use Rattle.std.proofs.lemmas.List.{length-append}
use Rattle.tree_document.specs.declared.document.Body.{Body}
use Rattle.tree_document.specs.declared.document.Body.TheVariants.{Skipped, Solved}
use Rattle.tree_document.specs.declared.document.Section.{Section}
use Rattle.tree_document.specs.declared.document.Document.{Document}
use Rattle.tree_document.specs.declared.entry.Outcome.{Outcome}
use Rattle.tree_document.specs.declared.entry.Outcome.TheVariants.{Tree, TooLarge}
use Rattle.tree_document.specs.declared.entry.Entry.{Entry}
use Rattle.tree_certificate.specs.BoundHolds.{depth_of, greatest_depth, splits_of}
use Rattle.tree_certificate.specs.BoundValue.{BoundValue, priced, split}
use Rattle.tree_certificate.specs.Value.{CertValue, a_bound, a_table}
use Rattle.tree_document.specs.Line.{Line, done_line, entries_line, line_text, row_line}
use Rattle.tree_document.specs.Document.{AreGoodLines, EachCert, IsGood, IsSmallCert, OfBody, OfOutcome, body_lines}
use Rattle.tree_document.specs.Document.{bound_lines, cert_lines, ending_line, entry_lines, lines_of, list_lines}
use Rattle.tree_document.specs.Document.{outcome_lines, section_lines, text_of}
use Rattle.tree_document.specs.Reading.{greatest_document}
use Rattle.line_fields.specs.Need.{Need}
use Rattle.line_reader.specs.Verdict.{Took}

-- the bytes of lines are no fewer than these, since each ends with a line feed
lines_take_bytes : (lines : List Line) → length lines ≤ length (text_of lines)
lines_take_bytes [] = omega arith
lines_take_bytes (line ∷ lines) =
    let later = lines_take_bytes lines in
    omega (arith, length-append (line_text line ++ 10 ∷ []) (text_of lines), length-append (line_text line) (10 ∷ []))

splits_take_lines : (above : ℕ) (bound : BoundValue) → splits_of bound < length (bound_lines above bound)
splits_take_lines above (priced cert) = omega arith
splits_take_lines above (split colour part first second) =
    let one = splits_take_lines (above + 1) first in
    let other = splits_take_lines (above + 1) second in
    omega (arith, length-append (bound_lines (above + 1) first) (bound_lines (above + 1) second))

good_parts : (first later : List Line) → AreGoodLines (first ++ later) → AreGoodLines first × AreGoodLines later
good_parts [] later are = (tt, are)
good_parts (line ∷ first) later are = let behind = good_parts first later are.1 in ((are.0, behind.0), behind.1)

one_deeper : (above one other : ℕ) → above < greatest_depth → one + (above + 1) ≤ greatest_depth
    → other + (above + 1) ≤ greatest_depth → (1 + max one other) + above ≤ greatest_depth
one_deeper above one other within first second =
    let least : max one other ≤ 1023 - above = max-le (omega arith) (omega arith) in
    omega arith

shallow_bound : (above : ℕ) (bound : BoundValue) → above ≤ greatest_depth → AreGoodLines (bound_lines above bound)
    → depth_of bound + above ≤ greatest_depth
shallow_bound above (priced cert) within good = omega arith
shallow_bound above (split colour part first second) within good =
    let open_splits : above < greatest_depth = ltb-true above greatest_depth good.0.shallow in
    let sides = good_parts (bound_lines (above + 1) first) (bound_lines (above + 1) second) good.1 in
    one_deeper above (depth_of first) (depth_of second) open_splits
    (shallow_bound (above + 1) first (omega arith) sides.0) (shallow_bound (above + 1) second (omega arith) sides.1)

cert_small : (cert : CertValue) → AreGoodLines (cert_lines cert) → length (cert_lines cert) ≤ greatest_document
    → IsSmallCert cert
cert_small (a_table rows) good few = record { depth = omega arith; splits = omega arith }
cert_small (a_bound bound) good few =
    let deep = shallow_bound 0 bound (omega arith) good in
    let many = splits_take_lines 0 bound in
    record { depth = omega arith; splits = omega arith }

outcome_small : (candidate : List ℕ) (error : ℕ) (outcome : Outcome)
    → AreGoodLines (outcome_lines candidate error outcome) → length (outcome_lines candidate error outcome) ≤
    greatest_document → OfOutcome IsSmallCert outcome
outcome_small candidate error (TooLarge vertices) good few = tt
outcome_small candidate error (Tree it) good few =
    let rows : List Line = map row_line it.rows in
    cert_small it.cert (good_parts rows (cert_lines it.cert) good.1).1
    (omega (arith, length-append rows (cert_lines it.cert)))

entries_small : (entries : List Entry) → AreGoodLines (flat_map entry_lines entries)
    → length (flat_map entry_lines entries) ≤ greatest_document
    → AllByRecursion (λ entry. OfOutcome IsSmallCert entry.outcome) entries
entries_small [] good few = tt
entries_small (entry ∷ entries) good few =
    let parts = good_parts (entry_lines entry) (flat_map entry_lines entries) good in
    let all = length-append (entry_lines entry) (flat_map entry_lines entries) in (
      outcome_small entry.candidate entry.error entry.outcome parts.0 (omega arith),
      entries_small entries parts.1
          (omega arith),
    )

body_small : (body : Body) → AreGoodLines (body_lines body) → length (body_lines body) ≤ greatest_document
    → OfBody IsSmallCert body
body_small (Skipped reason) good few = tt
body_small (Solved it) good few =
    let lists = flat_map list_lines it.lists in
    let entries = flat_map entry_lines it.entries in
    let behind = good_parts lists (entries_line (length it.entries) ∷ entries) good.1 in
    entries_small it.entries behind.1.1 (omega (
      arith,
      length-append lists
          (entries_line (length it.entries) ∷ entries),
    ))

section_small : (section : Section) → AreGoodLines (section_lines section)
    → length (section_lines section) ≤ greatest_document → OfBody IsSmallCert section.body
section_small section good few =
    body_small section.body (good_parts (body_lines section.body) (done_line ∷ []) good.1).0
    (omega (arith, length-append (body_lines section.body) (done_line ∷ [])))

sections_small : (sections : List Section) → AreGoodLines (flat_map section_lines sections)
    → length (flat_map section_lines sections) ≤ greatest_document
    → AllByRecursion (λ section. OfBody IsSmallCert section.body) sections
sections_small [] good few = tt
sections_small (section ∷ sections) good few =
    let parts = good_parts (section_lines section) (flat_map section_lines sections) good in
    let all = length-append (section_lines section) (flat_map section_lines sections) in
    (section_small section parts.0 (omega arith), sections_small sections parts.1 (omega arith))

small_certs : (document : Document) → IsGood document → length (lines_of document) ≤ greatest_document
    → EachCert IsSmallCert document
small_certs document good few =
    let sections = flat_map section_lines document.sections in
    let end = ending_line document.ending ∷ [] in
    sections_small document.sections (good_parts sections end good.1).0 (omega (arith, length-append sections end))

-- so are those of a document that few bytes begin with
pub small_read : (document : Document) (needs left : List Need) (bytes rest : List ℕ)
    → Took needs left (lines_of document) bytes rest → length bytes ≤ greatest_document → EachCert IsSmallCert document
small_read document needs left bytes rest took short =
    let whole : length bytes ≡ length (text_of (lines_of document) ++ rest) = ap length took.spelled in
    let lines = lines_take_bytes (lines_of document) in
    small_certs document took.good (omega (arith, length-append (text_of (lines_of document)) rest))
