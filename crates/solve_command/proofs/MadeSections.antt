-- `IsMade`: how the sections of a document and of its report follow one another.
use Rattle.std.proofs.Common.{◌≡◌, ◌++◌, ℕ, List, [], ◌∷◌, Option, refl, sym, ◌∙◌, ap, append_assoc, append-nil}
use Rattle.std.proofs.lemmas.List.Elements.{All-from_recursion}
use Rattle.std.specs.List.{AllByRecursion, flat_map}
use Rattle.mgf_reader.specs.Grammar.{Reads}
use Rattle.mgf_reader.specs.Spectrum.{SpectrumValue}
use Rattle.mgf_reader.specs.declared.fault.MgfFault.{MgfFault}
use Rattle.rank_report.specs.Report.{ending_text_of, section_text_of}
use Rattle.tree_document.specs.Document.{AreGoodLines, IsGoodLine, ending_line, section_lines, spelling_of, text_of}
use Rattle.tree_document.specs.Line.{header_line}
use Rattle.tree_document.specs.declared.document.Document.{Document}
use Rattle.tree_document.specs.declared.document.Section.{Section}
use Rattle.right_document.specs.Ending.{ending_of}
use Rattle.right_document.specs.OneEach.{OneEach}
use Rattle.right_document.specs.RightSection.{SectionIsRight}
use Rattle.right_document.specs.SolveSettings.{SolveSettingsValue}
use Rattle.solve_command.specs.inside.Made.{IsMade, IsMadeSection}
use Rattle.solve_command.proofs.GoodSections.{document_is_good}
use Rattle.right_document.proofs.OneEach.{HandedOut, handed_none, handed_more, handed_all, told_more}

-- where each of the others is right and has a fact of its own, all are right, and all have the fact
OneEach-right : {X Y : Type 0} (IsRight : X → Y → Type 0) (Has : Y → Type 0) (items : List X) (others : List Y)
    → OneEach (λ item other. IsRight item other × Has other) items others → OneEach IsRight items others
OneEach-right IsRight Has [] [] each = tt
OneEach-right IsRight Has [] (other ∷ others) each = absurd each
OneEach-right IsRight Has (item ∷ items) [] each = absurd each
OneEach-right IsRight Has (item ∷ items) (other ∷ others) each =
    (each.0.0, OneEach-right IsRight Has items others each.1)

OneEach-has : {X Y : Type 0} (IsRight : X → Y → Type 0) (Has : Y → Type 0) (items : List X) (others : List Y)
    → OneEach (λ item other. IsRight item other × Has other) items others → AllByRecursion Has others
OneEach-has IsRight Has [] [] each = tt
OneEach-has IsRight Has [] (other ∷ others) each = absurd each
OneEach-has IsRight Has (item ∷ items) [] each = absurd each
OneEach-has IsRight Has (item ∷ items) (other ∷ others) each = (each.0.1, OneEach-has IsRight Has items others each.1)

-- the lines of a section, as bytes
abbrev pub spelled : Section → List ℕ
spelled section = text_of (section_lines section)

-- The sections of the spectra that were handed out stand in a document and in its report; the others wait.
pub record Made (settings : SolveSettingsValue) (all waiting : List SpectrumValue) (document now report told : List ℕ)
    : Type 0 where
  pub sections : List Section
  pub handed : HandedOut (IsMadeSection settings) all waiting sections
  pub written : now ≡ document ++ flat_map spelled sections
  pub reported : told ≡ report ++ flat_map section_text_of sections

pub made_none : (settings : SolveSettingsValue) (all : List SpectrumValue) (document report : List ℕ)
    → Made settings all all document document report report
made_none settings all document report = record {
  sections = [];
  handed = handed_none (IsMadeSection settings) all;
  written = sym (append-nil document);
  reported = sym (append-nil report);
}

pub made_more : (settings : SolveSettingsValue) (all waiting rest : List SpectrumValue)
    (document now next report told more : List ℕ) (spectrum : SpectrumValue) (section : Section)
    → Made settings all waiting document now report told → waiting ≡ spectrum ∷ rest
    → IsMadeSection settings spectrum section → next ≡ now ++ spelled section → more ≡ told ++ section_text_of section
    → Made settings all rest document next report more
made_more settings all waiting rest document now next report told more spectrum section made taken is lines text =
    record {
      sections = made.sections ++ section ∷ [];
      handed = handed_more (IsMadeSection settings) all waiting rest made.sections spectrum section made.handed taken
          is;
      written = told_more spelled made.sections section document now next made.written lines;
      reported = told_more section_text_of made.sections section report told more made.reported text;
    }

pub made_all : (settings : SolveSettingsValue) (all waiting : List SpectrumValue) (document now report told : List ℕ)
    → Made settings all waiting document now report told → waiting ≡ []
    → (sections : List Section) × OneEach (IsMadeSection settings) all sections
    × (now ≡ document ++ flat_map spelled sections) × (told ≡ report ++ flat_map section_text_of sections)
made_all settings all waiting document now report told made none = (
  made.sections,
  handed_all (IsMadeSection settings) all waiting made.sections made.handed none,
  made.written,
  made.reported,
)

abbrev has_good_lines : Section → Type 0
has_good_lines section = AreGoodLines (section_lines section)

-- The parts, joined, are the spelling of a right document and its report.
pub parts_are_made : (settings : SolveSettingsValue) (text : List ℕ) (spectra : List SpectrumValue)
    (fault : Option MgfFault) (sections : List Section) (header now whole told reported : List ℕ)
    → ((document : Document) → spelling_of document ≡ text_of (header_line ∷ [])
    ++ (flat_map spelled document.sections ++ text_of (ending_line document.ending ∷ [])))
    → Reads text spectra fault → OneEach (IsMadeSection settings) spectra sections
    → IsGoodLine (ending_line (ending_of fault))
    → header ≡ text_of (header_line ∷ []) → now ≡ header ++ flat_map spelled sections
    → whole ≡ now ++ text_of (ending_line (ending_of fault) ∷ [])
    → told ≡ flat_map section_text_of sections → reported ≡ told ++ ending_text_of (ending_of fault)
    → IsMade settings text fault whole reported
parts_are_made settings text spectra fault sections header now whole told reported parts reads each end head lines all
    text_is report_is =
    let document : Document = record { sections = sections; ending = ending_of fault } in
    record {
      document = document;
      right = record {
        spectra = spectra;
        reads = reads;
        sections = OneEach-right (SectionIsRight settings) has_good_lines spectra sections each;
        ending = refl;
      };
      good = document_is_good document
          (All-from_recursion has_good_lines sections
          (OneEach-has (SectionIsRight settings) has_good_lines spectra sections each)) end;
      is_spelled = all
          ∙ ap (λ (bytes : List ℕ). bytes ++ text_of (ending_line (ending_of fault) ∷ []))
          (lines ∙ ap (λ (bytes : List ℕ). bytes ++ flat_map spelled sections) head)
          ∙ append_assoc (text_of (header_line ∷ [])) (flat_map spelled sections)
          (text_of (ending_line (ending_of fault) ∷ []))
          ∙ sym (parts document);
      is_reported = report_is ∙ ap (λ (bytes : List ℕ). bytes ++ ending_text_of (ending_of fault)) text_is;
    }
