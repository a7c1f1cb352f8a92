-- Which report of a list is right for a text.
use Rattle.std.specs.Prelude.{◌≡◌, ◌++◌, ℕ, List, [], length, take, Option, if◌then◌else◌, nat_lt}
use Rattle.std.specs.List.{flat_map}
use Rattle.mgf_reader.specs.declared.fault.MgfFault.{MgfFault}
use Rattle.mgf_reader.specs.Spectrum.{SpectrumValue}
use Rattle.mgf_reader.specs.Grammar.{Reads}
use Rattle.right_document.specs.RunSettings.{RunSettingsValue}
use Rattle.right_document.specs.OneEach.{OneEach}
use Rattle.right_document.specs.Outlined.{IsOutlined, Outlined}
use Rattle.list_command.specs.ReportForm.{section_text, ending_text}

-- the report of a text that is read with this fault: the right section of each of its spectra, and the ending
pub record IsReport (settings : RunSettingsValue) (text : List ℕ) (fault : Option MgfFault) (bytes : List ℕ)
    : Type 0 where
  pub spectra : List SpectrumValue
  pub reads : Reads text spectra fault
  pub sections : List Outlined
  pub are_sections : OneEach (IsOutlined settings) spectra sections
  pub form : bytes ≡ flat_map section_text sections ++ ending_text fault

-- A first part of the report of a text: of the right sections of its first spectra, and of the ending where these are
-- all.
pub record IsReportPart (settings : RunSettingsValue) (text bytes : List ℕ) : Type 0 where
  pub spectra : List SpectrumValue
  pub fault : Option MgfFault
  pub reads : Reads text spectra fault
  pub sections : List Outlined
  pub are_sections : OneEach (IsOutlined settings) (take (length sections) spectra) sections
  pub rest : List ℕ
  pub form : flat_map section_text sections
      ++ (if nat_lt (length sections) (length spectra) then [] else ending_text fault) ≡ bytes ++ rest
