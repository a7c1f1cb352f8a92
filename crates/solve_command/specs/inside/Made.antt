-- What is made of a text before it is written.
use Rattle.std.specs.Prelude.{◌≡◌, ℕ, List, Option}
use Rattle.mgf_reader.specs.Spectrum.{SpectrumValue}
use Rattle.mgf_reader.specs.declared.fault.MgfFault.{MgfFault}
use Rattle.rank_report.specs.Report.{report_text_of}
use Rattle.tree_document.specs.Document.{AreGoodLines, IsGood, section_lines, spelling_of}
use Rattle.tree_document.specs.declared.document.Document.{Document}
use Rattle.tree_document.specs.declared.document.Section.{Section}
use Rattle.right_document.specs.RightDocument.{DocumentIsRight}
use Rattle.right_document.specs.RightSection.{SectionIsRight}
use Rattle.right_document.specs.SolveSettings.{SolveSettingsValue}

-- a section that is made for a spectrum: it is right, and its lines have a spelling
abbrev pub IsMadeSection : SolveSettingsValue → SpectrumValue → Section → Type 0
IsMadeSection settings spectrum section = SectionIsRight settings spectrum section
    × AreGoodLines (section_lines section)

-- the spelling and the report of one right document for a text that is read with this fault
pub record IsMade (settings : SolveSettingsValue) (text : List ℕ) (fault : Option MgfFault) (spelled reported : List ℕ)
    : Type 0 where
  pub document : Document
  pub right : DocumentIsRight settings text fault document
  pub good : IsGood document
  pub is_spelled : spelled ≡ spelling_of document
  pub is_reported : reported ≡ report_text_of document
