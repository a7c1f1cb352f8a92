-- The code and the line of each status.
use Rattle.std.specs.Prelude.{◌++◌, ℕ, List, [], codes, decimal}
use Rattle.mgf_reader.specs.Fault.{kind_text}
use Rattle.frag_io.specs.declared.desk.Slot.{Slot}
use Rattle.frag_io.specs.declared.desk.Slot.TheVariants.{Spectra, Profile, CertIn, Report, CertOut}
use Rattle.std.specs.Fmt.{signed_decimal}
use Rattle.profile.specs.declared.fault.ProfileFault.{ProfileFault}
use Rattle.profile.specs.declared.fault.ProfileFault.TheVariants.{NotToml, UnknownKey, BadValue, OverLimit}
use Rattle.tree_document.specs.Title.{escaped}
use Rattle.run_plan.specs.declared.status.Status.{Status}
use Rattle.run_plan.specs.declared.status.Status.TheVariants.{Done, Words, Memory, ReadFault, WriteFault}
use Rattle.run_plan.specs.declared.status.Status.TheVariants.{OpenFault, TooLong, MgfRefused, ProfileRefused}
use Rattle.run_plan.specs.declared.status.Status.TheVariants.{DocumentRefused, DocumentRejected}
use Rattle.tree_document.specs.declared.fault.CertFault.{CertFault}
use Rattle.tree_document.specs.declared.fault.CertFault.TheVariants as cert
use Rattle.run_plan.specs.declared.reject.RejectPart.{RejectPart}
use Rattle.run_plan.specs.declared.reject.RejectPart.TheVariants as part

abbrev pub code_of : Status → ℕ
code_of Done = 0
code_of Words = 2
code_of Memory = 3
code_of (MgfRefused fault) = 4
code_of (ProfileRefused fault) = 5
code_of (ReadFault slot) = 6
code_of (WriteFault slot) = 7
code_of (OpenFault slot) = 8
code_of (TooLong slot) = 9
code_of (DocumentRefused fault) = 10
code_of (DocumentRejected place) = 11

abbrev pub slot_name_of : Slot → List ℕ
slot_name_of Spectra = codes "spectra"
slot_name_of Profile = codes "profile"
slot_name_of CertIn = codes "cert-in"
slot_name_of Report = codes "report"
slot_name_of CertOut = codes "cert-out"

-- why a profile is refused; a name is escaped as titles are
abbrev pub refusal_text : ProfileFault → List ℕ
refusal_text NotToml = codes "not TOML"
refusal_text (UnknownKey name) = codes "unknown key " ++ escaped name
refusal_text (BadValue name) = codes "bad value " ++ escaped name
refusal_text (OverLimit name number) = codes "out of range " ++ escaped name ++ codes " " ++ signed_decimal number

-- why the bytes of a document are refused
abbrev pub document_refusal_text : CertFault → List ℕ
document_refusal_text (cert.BadLine line) = codes "line " ++ decimal line ++ codes ": bad line"
document_refusal_text (cert.TooBig line) = codes "line " ++ decimal line ++ codes ": too big"
document_refusal_text (cert.TooDeep line) = codes "line " ++ decimal line ++ codes ": too deep"
document_refusal_text cert.Truncated = codes "truncated"

-- the part of a section that differs; where the tree of an entry is wrong is not told
abbrev pub part_text : RejectPart → List ℕ
part_text part.Missing = codes "missing"
part_text part.Extra = codes "extra"
part_text part.Spectrum = codes "spectrum"
part_text part.Skipped = codes "skip"
part_text (part.Lists number) = codes "list " ++ decimal number
part_text part.Candidates = codes "candidates"
part_text (part.Error number) = codes "error " ++ decimal number
part_text (part.Outcome number) = codes "outcome " ++ decimal number
part_text (part.Tree number place) = codes "tree " ++ decimal number
part_text (part.Order number) = codes "order " ++ decimal number
part_text part.Ending = codes "ending"

-- the line that tells a status, with its line feed; a run that is done has none
abbrev pub fault_line : Status → List ℕ
fault_line Done = []
fault_line Words = codes "words: not an order of this program\n"
fault_line Memory = codes "memory: refused\n"
fault_line (ReadFault slot) = codes "read fault: " ++ slot_name_of slot ++ codes "\n"
fault_line (WriteFault slot) = codes "write fault: " ++ slot_name_of slot ++ codes "\n"
fault_line (OpenFault slot) = codes "open fault: " ++ slot_name_of slot ++ codes "\n"
fault_line (TooLong slot) = codes "too long: " ++ slot_name_of slot ++ codes "\n"
fault_line (MgfRefused fault) =
    codes "mgf: line " ++ decimal fault.line ++ codes ": " ++ kind_text fault.kind ++ codes "\n"
fault_line (ProfileRefused fault) = codes "profile: " ++ refusal_text fault ++ codes "\n"
fault_line (DocumentRefused fault) = codes "document: " ++ document_refusal_text fault ++ codes "\n"
fault_line (DocumentRejected place) =
    codes "rejected: section " ++ decimal place.section ++ codes ": " ++ part_text place.part ++ codes "\n"
