-- `solve_meaning`: what a solving owes to its text by its document and its report.
use Rattle.std.proofs.Common.{◌≡◌, ◌≤◌, ◌++◌, ℕ, List, [], ◌∷◌, Bool, false, length, take, Option, Some, None, refl}
use Rattle.std.proofs.Common.{sym, ◌∙◌, ap, subst, arith, nat_lt, IfSome}
use Rattle.std.proofs.Math.Seq.{take-length}
use Rattle.std.proofs.lemmas.Bool.Decides.{nat_tests}
use Rattle.std.specs.List.{flat_map}
use Rattle.frag_io.specs.declared.desk.Slot.TheVariants.{Spectra, Report, CertOut}
use Rattle.frag_io.specs.DeskState.{DeskState}
use Rattle.frag_io.specs.Desk.{IsEmpty, appended}
use Rattle.mgf_reader.specs.Spectrum.{SpectrumValue}
use Rattle.mgf_reader.specs.declared.fault.MgfFault.{MgfFault}
use Rattle.rank_report.specs.Report.{report_text_of}
use Rattle.tree_document.specs.Document.{AreGoodLines, ending_line, section_lines, spelling_of, text_of}
use Rattle.tree_document.specs.Line.{Line, header_line}
use Rattle.tree_document.specs.declared.document.Document.{Document}
use Rattle.tree_document.specs.declared.document.Ending.{Ending}
use Rattle.tree_document.specs.declared.document.Section.{Section}
use Rattle.run_plan.specs.Class.{class_of}
use Rattle.right_document.specs.Ending.{ending_of}
use Rattle.run_plan.specs.Limits.{greatest_text_of}
use Rattle.right_document.specs.OneEach.{OneEach}
use Rattle.right_document.specs.RightSection.{SectionIsRight}
use Rattle.right_document.specs.RightDocument.{DocumentIsRight, IsPrefix}
use Rattle.solve_command.specs.RightPart.{PartIsRight, document_so_far, report_so_far}
use Rattle.right_document.specs.SolveSettings.{SolveSettingsValue}
use Rattle.run_plan.specs.TextPromise.{OwesText}
use Rattle.solve_command.specs.inside.Made.{IsMade}
use Rattle.run_plan.specs.TextSteps.{ArePartlyWritten, IsWriteStop}
use Rattle.solve_command.specs.SolvePromise.{IsSolved, solve_meaning}
use Rattle.run_plan.specs.declared.status.Status.{Status}
use Rattle.run_plan.specs.declared.status.Status.TheVariants.{Done, MgfRefused}
use Rattle.run_plan.proofs.TextPromise.{answered_owes, partly_owes, written_alone}
use Rattle.right_document.proofs.OneEach.{length-OneEach}
use Rattle.right_document.proofs.IsPrefix.{prefix_of}

-- the spelling of a document is that of its parts, joined
abbrev pub AreParts : Type 0
AreParts = (document : Document) → spelling_of document ≡ text_of (header_line ∷ [])
    ++ (flat_map (λ section. text_of (section_lines section)) document.sections ++ text_of
    (ending_line document.ending ∷ []))

-- a document that ends so is spelled section by section
spelled_whole : AreParts → (document : Document) (fault : Option MgfFault) → document.ending ≡ ending_of fault
    → document_so_far document.sections false fault ≡ spelling_of document
spelled_whole parts document fault is = sym (parts document ∙ ap (λ (ending : Ending). text_of (header_line ∷ [])
    ++ (flat_map (λ section. text_of (section_lines section)) document.sections ++ text_of (ending_line ending ∷ [])))
    is)

-- the first of good lines are good
front_good : (front back : List Line) → AreGoodLines (front ++ back) → AreGoodLines front
front_good [] back all = tt
front_good (line ∷ front) back all = (all.0, front_good front back all.1)

-- first bytes of a right document and of its report are first parts
part_of : AreParts → (settings : SolveSettingsValue) (text : List ℕ) (fault : Option MgfFault) (bytes reported : List ℕ)
    (n m : ℕ)
    (document report : Option (List ℕ))
    → IsMade settings text fault bytes reported
    → ((P : List ℕ → Type 0) → P (take n bytes) → IfSome document P)
    → ((P : List ℕ → Type 0) → P (take m reported) → IfSome report P)
    → PartIsRight settings text document report
part_of parts settings text fault bytes reported n m document report made of_document of_report =
    let right : DocumentIsRight settings text fault made.document = made.right in
    let sections : List Section = made.document.sections in
    let same : length sections ≡ length right.spectra =
    length-OneEach (SectionIsRight settings) right.spectra sections right.sections in
    let none : nat_lt (length sections) (length right.spectra) ≡ false = grind (arith, nat_tests) in
    record {
      spectra = right.spectra;
      fault = fault;
      reads = right.reads;
      sections = sections;
      are_right = subst (λ (n : ℕ). OneEach (SectionIsRight settings) (take n right.spectra) sections) (sym same)
          (subst (λ (s : List SpectrumValue). OneEach (SectionIsRight settings) s sections)
          (sym (take-length right.spectra))
          right.sections);
      good = front_good (flat_map section_lines sections) (ending_line made.document.ending ∷ []) made.good.1;
      document_part = of_document
          (λ b. IsPrefix b (document_so_far sections (nat_lt (length sections) (length right.spectra)) fault))
          (prefix_of n bytes _ (ap (λ (more : Bool). document_so_far sections more fault) none
          ∙ spelled_whole parts made.document fault right.ending ∙ sym made.is_spelled));
      report_part = of_report
          (λ b. IsPrefix b (report_so_far sections (nat_lt (length sections) (length right.spectra)) fault))
          (prefix_of m reported _ (ap (λ (more : Bool). report_so_far sections more fault) none
          ∙ ap (λ (ending : Ending). report_text_of (record { sections = sections; ending = ending }))
          (sym right.ending)
          ∙ sym made.is_reported));
    }

-- what is owed where the document and the report were not written whole
pub partly_solves : AreParts
    → (settings : SolveSettingsValue) (text : List ℕ) (before now : DeskState) (found : Option MgfFault)
    (bytes reported : List ℕ) (status : Status)
    → IsWriteStop (class_of status)
    → length text ≤ greatest_text_of Spectra
    → IsMade settings text found bytes reported
    → IsEmpty (before.written CertOut)
    → IsEmpty (before.written Report)
    → ArePartlyWritten before now bytes reported
    → OwesText (solve_meaning settings text) text now status
partly_solves parts settings text before now found bytes reported status stop short made no_document no_report partly =
    partly_owes (solve_meaning settings text) text now status stop short
    (part_of parts settings text found bytes reported partly.of_document partly.of_report (now.written CertOut)
    (now.written Report) made
    (λ P holds. written_alone (before.written CertOut) (now.written CertOut) (take partly.of_document bytes) P
    no_document
    partly.document_part holds)
    (λ P holds. written_alone (before.written Report) (now.written Report) (take partly.of_report reported) P no_report
    partly.report_part
    holds))

-- document and report were written whole
solved : (settings : SolveSettingsValue) (text : List ℕ) (before now : DeskState) (found fault : Option MgfFault)
    (bytes reported : List ℕ)
    → found ≡ fault → IsMade settings text found bytes reported
    → IsEmpty (before.written CertOut) → IsEmpty (before.written Report)
    → now.written CertOut ≡ appended (before.written CertOut) bytes
    → now.written Report ≡ appended (before.written Report) reported
    → IsSolved settings text fault now.written
solved settings text before now found fault bytes reported told made no_document no_report document_is report_is =
    record {
      document = made.document;
      right = subst (λ f. DocumentIsRight settings text f made.document) told made.right;
      spelled = written_alone (before.written CertOut) (now.written CertOut) bytes (λ b. b ≡ spelling_of made.document)
          no_document document_is
          made.is_spelled;
      good = made.good;
      reported = written_alone (before.written Report) (now.written Report) reported (λ b. b ≡ report_text_of
          made.document)
          no_report report_is
          made.is_reported;
    }

-- what is owed where they were written whole
pub done_solves : (settings : SolveSettingsValue) (text : List ℕ) (before now : DeskState) (found : Option MgfFault)
    (bytes reported : List ℕ)
    → found ≡ None → IsMade settings text found bytes reported
    → IsEmpty (before.written CertOut) → IsEmpty (before.written Report)
    → now.written CertOut ≡ appended (before.written CertOut) bytes
    → now.written Report ≡ appended (before.written Report) reported
    → OwesText (solve_meaning settings text) text now Done
done_solves settings text before now found bytes reported told made no_document no_report document_is report_is =
    answered_owes (solve_meaning settings text) text now Done tt
    (solved settings text before now found None bytes reported told made
    no_document no_report document_is report_is)

-- what is owed where they were written whole of a text that a line refuses
pub refused_solves : (settings : SolveSettingsValue) (text : List ℕ) (before now : DeskState) (found : Option MgfFault)
    (fault : MgfFault)
    (bytes reported : List ℕ)
    → found ≡ Some fault → IsMade settings text found bytes reported
    → IsEmpty (before.written CertOut) → IsEmpty (before.written Report)
    → now.written CertOut ≡ appended (before.written CertOut) bytes
    → now.written Report ≡ appended (before.written Report) reported
    → OwesText (solve_meaning settings text) text now (MgfRefused fault)
refused_solves settings text before now found fault bytes reported told made no_document no_report document_is report_is
    =
    answered_owes (solve_meaning settings text) text now (MgfRefused fault) tt
    (solved settings text before now found (Some fault) bytes reported told made no_document no_report document_is
    report_is)
