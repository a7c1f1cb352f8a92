-- What is a first part of a right document and of its report.
use Rattle.std.specs.Prelude.{◌++◌, ℕ, List, [], ◌∷◌, length, take, Option, IfSome, nat_lt, Bool, if◌then◌else◌}
use Rattle.std.specs.List.{flat_map}
use Rattle.mgf_reader.specs.Grammar.{Reads}
use Rattle.mgf_reader.specs.Spectrum.{SpectrumValue}
use Rattle.mgf_reader.specs.declared.fault.MgfFault.{MgfFault}
use Rattle.rank_report.specs.Report.{ending_text_of, section_text_of}
use Rattle.right_document.specs.Ending.{ending_of}
use Rattle.right_document.specs.OneEach.{OneEach}
use Rattle.right_document.specs.RightDocument.{IsPrefix}
use Rattle.right_document.specs.RightSection.{SectionIsRight}
use Rattle.right_document.specs.SolveSettings.{SolveSettingsValue}
use Rattle.tree_document.specs.Document.{AreGoodLines, ending_line, section_lines, text_of}
use Rattle.tree_document.specs.Line.{header_line}
use Rattle.tree_document.specs.declared.document.Section.{Section}

-- the spelling of a document as far as these sections, and of its ending where they are all
abbrev pub document_so_far : List Section → Bool → Option MgfFault → List ℕ
document_so_far sections more fault =
    text_of (header_line ∷ []) ++ flat_map (λ section. text_of (section_lines section)) sections
    ++ (if more then [] else text_of (ending_line (ending_of fault) ∷ []))

-- the report so far
abbrev pub report_so_far : List Section → Bool → Option MgfFault → List ℕ
report_so_far sections more fault =
    flat_map section_text_of sections ++ (if more then [] else ending_text_of (ending_of fault))

-- What is told of the document and of the report are first parts of those with right sections for the first spectra of
-- the text, each of which has a spelling, and with the ending where these are all.
pub record PartIsRight (settings : SolveSettingsValue) (text : List ℕ) (document report : Option (List ℕ))
    : Type 0 where
  pub spectra : List SpectrumValue
  pub fault : Option MgfFault
  pub reads : Reads text spectra fault
  pub sections : List Section
  pub are_right : OneEach (SectionIsRight settings) (take (length sections) spectra) sections
  pub good : AreGoodLines (flat_map section_lines sections)
  pub document_part : IfSome document
      (λ bytes. IsPrefix bytes (document_so_far sections (nat_lt (length sections) (length spectra)) fault))
  pub report_part : IfSome report
      (λ bytes. IsPrefix bytes (report_so_far sections (nat_lt (length sections) (length spectra)) fault))
