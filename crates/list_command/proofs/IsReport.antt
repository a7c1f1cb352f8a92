-- `IsReport`: how the sections of a report follow one another, and what its first parts are.
use Rattle.std.proofs.Common.{◌≡◌, ◌++◌, ℕ, List, [], ◌∷◌, Bool, false, length, take, drop, Option, sym, ◌∙◌, ap, subst}
use Rattle.std.proofs.Common.{append-nil, arith, if◌then◌else◌, nat_lt}
use Rattle.std.proofs.Math.Seq.{take-length}
use Rattle.std.proofs.lemmas.Bool.Decides.{nat_tests}
use Rattle.std.specs.List.{flat_map}
use Rattle.std.proofs.lemmas.List.{take-append-drop}
use Rattle.mgf_reader.specs.declared.fault.MgfFault.{MgfFault}
use Rattle.mgf_reader.specs.Spectrum.{SpectrumValue}
use Rattle.right_document.specs.OneEach.{OneEach}
use Rattle.right_document.specs.Outlined.{IsOutlined, Outlined}
use Rattle.right_document.specs.RunSettings.{RunSettingsValue}
use Rattle.list_command.specs.ReportForm.{section_text, ending_text}
use Rattle.list_command.specs.Sections.{IsReport, IsReportPart}
use Rattle.right_document.proofs.OneEach.{HandedOut, handed_none, handed_more, handed_all, length-OneEach, told_more}

-- The sections of the spectra that were handed out stand in a report; the others wait.
pub record Pushed (settings : RunSettingsValue) (all waiting : List SpectrumValue) (before now : List ℕ) : Type 0 where
  pub sections : List Outlined
  pub handed : HandedOut (IsOutlined settings) all waiting sections
  pub bytes : now ≡ before ++ flat_map section_text sections

pub pushed_none : (settings : RunSettingsValue) (all : List SpectrumValue) (before : List ℕ) → Pushed settings all all
    before before
pushed_none settings all before = record {
  sections = [];
  handed = handed_none (IsOutlined settings) all;
  bytes = sym
      (append-nil before);
}

pub pushed_more : (settings : RunSettingsValue) (all waiting rest : List SpectrumValue) (before now next : List ℕ)
    (spectrum : SpectrumValue) (section : Outlined)
    → Pushed settings all waiting before now → waiting ≡ spectrum ∷ rest → IsOutlined settings spectrum section → next
    ≡ now ++ section_text section
    → Pushed settings all rest before next
pushed_more settings all waiting rest before now next spectrum section pushed taken is more = record {
  sections = pushed.sections ++ section ∷ [];
  handed = handed_more (IsOutlined settings) all waiting rest pushed.sections spectrum section pushed.handed taken is;
  bytes = told_more section_text pushed.sections section before now next pushed.bytes more;
}

pub pushed_all : (settings : RunSettingsValue) (all waiting : List SpectrumValue) (before now : List ℕ) → Pushed
    settings all waiting before now → waiting ≡ []
    → (sections : List Outlined) × OneEach (IsOutlined settings) all sections × (now ≡ before ++ flat_map section_text
    sections)
pushed_all settings all waiting before now pushed none =
    (pushed.sections, handed_all (IsOutlined settings) all waiting pushed.sections pushed.handed none, pushed.bytes)

-- any first bytes of a right report are a first part of it
pub part_of : (settings : RunSettingsValue) (text : List ℕ) (fault : Option MgfFault) (bytes : List ℕ) (n : ℕ) →
    IsReport settings text fault bytes → IsReportPart settings text (take n bytes)
part_of settings text fault bytes n report =
    let same : length report.sections ≡ length report.spectra = length-OneEach (IsOutlined settings) report.spectra
    report.sections report.are_sections in
    let none : nat_lt (length report.sections) (length report.spectra) ≡ false = grind (arith, nat_tests) in
    record {
      spectra = report.spectra;
      fault = fault;
      reads = report.reads;
      sections = report.sections;
      are_sections = subst (λ (n : ℕ). OneEach (IsOutlined settings) (take n report.spectra) report.sections) (sym
          same) (subst (λ (s : List SpectrumValue). OneEach (IsOutlined settings) s report.sections) (sym (take-length
          report.spectra)) report.are_sections);
      rest = drop n bytes;
      form = ap (λ (whole : Bool). flat_map section_text report.sections ++ (if whole then [] else ending_text fault))
          none ∙ sym report.form ∙ sym (take-append-drop n bytes);
    }
