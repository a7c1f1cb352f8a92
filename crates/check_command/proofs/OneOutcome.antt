-- `IsOutcome`: what is accepted is nothing else.
use Rattle.std.proofs.Common.{◌≡◌, ◌∙◌, sym, ap, subst, List, ℕ, Option, Result, Ok, Err, length}
use Rattle.mgf_reader.specs.Grammar.{Reads}
use Rattle.mgf_reader.specs.Spectrum.{SpectrumValue}
use Rattle.mgf_reader.specs.declared.fault.MgfFault.{MgfFault}
use Rattle.tree_document.specs.Reading.{IsReading}
use Rattle.tree_document.specs.declared.document.Document.{Document}
use Rattle.tree_document.specs.declared.fault.CertFault.{CertFault}
use Rattle.right_document.specs.RightDocument.{DocumentIsRight}
use Rattle.right_document.specs.SolveSettings.{SolveSettingsValue}
use Rattle.check_command.specs.CheckPlaces.{IsDocumentPlace}
use Rattle.check_command.specs.CheckOutcome.{CheckOutcome, IsOutcome, accepted, refused, rejected}
use Rattle.run_plan.specs.declared.reject.RejectPart.{RejectPart}

-- bytes read in one way, and a text does
abbrev pub OneBytes : Type 0
OneBytes = (bytes : List ℕ) (one other : Result Document CertFault) → IsReading bytes one → IsReading bytes other
    → one ≡ other

abbrev pub OneText : Type 0
OneText = (text : List ℕ) (spectra other : List SpectrumValue) (fault another : Option MgfFault)
    → Reads text spectra fault → Reads text other another → (spectra ≡ other) × (fault ≡ another)

abbrev pub NotRight : Type 0
NotRight = (settings : SolveSettingsValue) (text : List ℕ) (spectra : List SpectrumValue)
    (fault another : Option MgfFault) (document : Document) (number : ℕ) (part : RejectPart)
    → Reads text spectra fault → IsDocumentPlace settings spectra fault document number part
    → DocumentIsRight settings text another document → ⊥

abbrev the_reading : Document → Result Document CertFault
the_reading document = Ok document

same_document : (document other : Document) → the_reading document ≡ the_reading other → document ≡ other
same_document document other same = cc

never_refused : (document : Document) (fault : CertFault) → the_reading document ≡ Err fault → ⊥
never_refused document fault same = cc

pub same_outcome : OneBytes → OneText → NotRight → (settings : SolveSettingsValue) (text bytes : List ℕ) (count : ℕ)
    (fault : Option MgfFault) (other : CheckOutcome) → IsOutcome settings text bytes (accepted count fault)
    → IsOutcome settings text bytes other → other ≡ accepted count fault
same_outcome one_bytes one_text not_right settings text bytes count fault (refused reason) is also =
    absurd (never_refused is.document reason (one_bytes bytes (Ok is.document) (Err reason) is.read also))
same_outcome one_bytes one_text not_right settings text bytes count fault (rejected place) is also =
    let same : also.document ≡ is.document =
    same_document also.document is.document (one_bytes bytes (Ok also.document) (Ok is.document) also.read is.read)
    in
    absurd (not_right settings text also.spectra also.fault fault also.document place.section place.part also.reads
    also.is_place (subst (λ document. DocumentIsRight settings text fault document) (sym same) is.right))
same_outcome one_bytes one_text not_right settings text bytes count fault (accepted other another) is also =
    told (also.counted ∙ ap (λ (document : Document). length document.sections) same ∙ sym is.counted)
    (one_text text also.right.spectra is.right.spectra another fault also.right.reads is.right.reads).1
  where
    same : also.document ≡ is.document
    same = same_document also.document is.document
        (one_bytes bytes (Ok also.document) (Ok is.document) also.read is.read)

    told : other ≡ count → another ≡ fault → accepted other another ≡ accepted count fault
    told counts faults = cc
