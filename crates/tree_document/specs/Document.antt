-- The lines of a document, and its one spelling.
use Rattle.std.specs.Prelude.{◌+◌, ◌++◌, ◌≤◌, ◌<◌, ◌^◌, ℕ, List, [], ◌∷◌, length, map, codes, IsTrue}
use Rattle.std.specs.List.{AllByRecursion, flat_map, list_all}
use Rattle.element_table.specs.FormulaList.{FormulaListValue}
use Rattle.tree_document.specs.declared.document.Body.{Body}
use Rattle.tree_document.specs.declared.document.Body.TheVariants.{Skipped, Solved}
use Rattle.tree_document.specs.declared.document.Section.{Section}
use Rattle.tree_document.specs.declared.document.Ending.{Ending}
use Rattle.tree_document.specs.declared.document.Ending.TheVariants.{Clean, Refused}
use Rattle.tree_document.specs.declared.document.Document.{Document}
use Rattle.tree_document.specs.declared.entry.Outcome.{Outcome}
use Rattle.tree_document.specs.declared.entry.Outcome.TheVariants.{Tree, TooLarge}
use Rattle.tree_document.specs.declared.entry.Entry.{Entry}
use Rattle.tree_certificate.specs.BoundHolds.{greatest_depth}
use Rattle.tree_certificate.specs.BoundValue.{BoundValue, PriceValue, priced, split}
use Rattle.tree_certificate.specs.CertHolds.{cert_depth, cert_splits}
use Rattle.tree_certificate.specs.Value.{CertValue, a_bound, a_table}
use Rattle.tree_document.specs.Line.{Line, header_line, clean_line, refused_line, spectrum_line, skip_line, lists_line}
use Rattle.tree_document.specs.Line.{list_line, formula_line, entries_line, too_large_line, tree_line, row_line}
use Rattle.tree_document.specs.Line.{table_line, table_row_line, split_line, prices_line, potentials_line, done_line}
use Rattle.tree_document.specs.Line.{Spells, in_range, is_shallow, line_text}

abbrev pub list_lines : FormulaListValue → List Line
list_lines it = list_line it.mz it.intensity (length it.formulas) ∷ map formula_line it.formulas

abbrev pub price_lines : PriceValue → List Line
price_lines cert = prices_line cert.prices ∷ potentials_line cert.potentials ∷ []

-- the lines of a bound under so many splits
abbrev pub bound_lines : ℕ → BoundValue → List Line
bound_lines above (priced cert) = price_lines cert
bound_lines above (split colour part first second) =
    split_line above colour part ∷ bound_lines (above + 1) first ++ bound_lines (above + 1) second

abbrev pub cert_lines : CertValue → List Line
cert_lines (a_table rows) = table_line (length rows) ∷ map table_row_line rows
cert_lines (a_bound bound) = bound_lines 0 bound

abbrev pub outcome_lines : List ℕ → ℕ → Outcome → List Line
outcome_lines candidate error (TooLarge vertices) = too_large_line candidate error vertices ∷ []
outcome_lines candidate error (Tree it) =
    tree_line candidate error it.score it.upper it.mark (length it.rows) ∷ map row_line it.rows ++ cert_lines it.cert

abbrev pub entry_lines : Entry → List Line
entry_lines entry = outcome_lines entry.candidate entry.error entry.outcome

abbrev pub body_lines : Body → List Line
body_lines (Skipped reason) = skip_line reason ∷ []
body_lines (Solved it) =
    lists_line (length it.lists) ∷ flat_map list_lines it.lists ++ entries_line (length it.entries)
    ∷ flat_map entry_lines it.entries

abbrev pub section_lines : Section → List Line
section_lines section = spectrum_line section.line section.title ∷ body_lines section.body ++ done_line ∷ []

abbrev pub ending_line : Ending → Line
ending_line Clean = clean_line
ending_line (Refused fault) = refused_line fault.line fault.kind

abbrev pub lines_of : Document → List Line
lines_of document = header_line ∷ flat_map section_lines document.sections ++ ending_line document.ending ∷ []

-- the bytes of lines, each with its line feed
abbrev pub text_of : List Line → List ℕ
text_of lines = flat_map (λ line. line_text line ++ codes "\n") lines

-- The spelling of a document.
abbrev pub spelling_of : Document → List ℕ
spelling_of document = text_of (lines_of document)

-- a line whose numbers are in their ranges, above which stand no more splits than may, and that has a spelling: its
-- formulas are formulas, its title is bytes, its kind is one of the ten, and a row of a table, a split and potentials
-- have a number
pub record IsGoodLine (line : Line) : Type 0 where
  pub in_range : IsTrue (in_range line)
  pub shallow : IsTrue (is_shallow line)
  pub spelled : Spells line (line_text line)

abbrev pub AreGoodLines : List Line → Type 0
AreGoodLines lines = AllByRecursion IsGoodLine lines

-- a document with a spelling: each of its lines is good
abbrev pub IsGood : Document → Type 0
IsGood document = AreGoodLines (lines_of document)

-- a document whose numbers are all in their ranges
abbrev pub IsInRange : Document → Type 0
IsInRange document = IsTrue (list_all in_range (lines_of document))

-- a fact of each certificate of a document
abbrev pub OfOutcome : (CertValue → Type 0) → Outcome → Type 0
OfOutcome Is (TooLarge vertices) = Unit {0}
OfOutcome Is (Tree it) = Is it.cert

abbrev pub OfBody : (CertValue → Type 0) → Body → Type 0
OfBody Is (Skipped reason) = Unit {0}
OfBody Is (Solved it) = AllByRecursion (λ entry. OfOutcome Is entry.outcome) it.entries

abbrev pub EachCert : (CertValue → Type 0) → Document → Type 0
EachCert Is document = AllByRecursion (λ section. OfBody Is section.body) document.sections

-- a certificate that a document of at most 268,435,456 bytes may have: each of its splits takes a line
pub record IsSmallCert (cert : CertValue) : Type 0 where
  pub depth : cert_depth cert ≤ greatest_depth
  pub splits : cert_splits cert < 2 ^ 28
