-- The report of a list: the sections of its spectra, and an ending.
use Rattle.std.specs.Prelude.{ℕ, List, Option}
use Rattle.mgf_reader.specs.declared.fault.MgfFault.{MgfFault}
use Rattle.rank_report.specs.ListReport.{list_ending_text, list_section_text}
use Rattle.right_document.specs.Ending.{ending_of}
use Rattle.right_document.specs.Outlined.{Outlined}

abbrev pub section_text : Outlined → List ℕ
section_text told = list_section_text told.line told.title told.outline

-- the ending tells the line that refused the text, where there is one
abbrev pub ending_text : Option MgfFault → List ℕ
ending_text fault = list_ending_text (ending_of fault)
