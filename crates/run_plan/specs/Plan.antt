-- The plan of a run: the steps over the desk that a command is made of, in their order.
use Rattle.std.specs.Prelude.{◌≡◌, ℕ, Bool, true, false, List, [], ◌∷◌, ◌++◌, Option, Some, None, is_some}
use Rattle.std.specs.Prelude.{option_and_then, IfSome, if◌then◌else◌}
use Rattle.std.specs.List.{list_any}
use Rattle.frag_io.specs.declared.desk.Slot.{Slot}
use Rattle.frag_io.specs.declared.desk.Slot.TheVariants.{Spectra, Profile, CertIn, Report, CertOut}
use Rattle.frag_io.specs.DeskState.{DeskState}
use Rattle.frag_io.specs.Desk.{IsNamed}

pub data Step : Type 0 where
  -- the slot is begun under this name
  begin : Slot → List ℕ → Step
  -- the slot is read to its end, up to its limit
  read : Slot → Step
  -- what the slot is to hold is written to it
  write : Slot → Step
  -- the slot is finished
  finish : Slot → Step

-- the steps that take the profile of a run, where one is named
abbrev pub profile_steps : Option (List ℕ) → List Step
profile_steps None = []
profile_steps (Some name) = begin Profile name ∷ read Profile ∷ []

-- the step of a document, where a command has one
abbrev pub document_steps : Option Step → List Step
document_steps None = []
document_steps (Some step) = step ∷ []

-- The steps with which a command on a text begins: all its slots are begun, the text, the document where there is one,
-- and the report, which has no name; then the text is read.
abbrev pub text_steps : List ℕ → Option Step → List Step
text_steps name document = begin Spectra name ∷ (document_steps document ++ begin Report [] ∷ read Spectra ∷ [])

-- the steps with which a command ends that writes a report alone
abbrev pub report_steps : List Step
report_steps = write Report ∷ finish Report ∷ []

-- the steps with which a command ends that writes a document and its report
abbrev pub output_steps : List Step
output_steps = write CertOut ∷ write Report ∷ finish CertOut ∷ finish Report ∷ []

abbrev pub is_same_slot : Slot → Slot → Bool
is_same_slot Spectra Spectra = true
is_same_slot Profile Profile = true
is_same_slot CertIn CertIn = true
is_same_slot Report Report = true
is_same_slot CertOut CertOut = true
is_same_slot slot other = false

abbrev pub is_read_of : Slot → Step → Bool
is_read_of slot (read own) = is_same_slot own slot
is_read_of slot step = false

abbrev pub is_write_to : Slot → Step → Bool
is_write_to slot (write own) = is_same_slot own slot
is_write_to slot step = false

abbrev pub is_finish_of : Slot → Step → Bool
is_finish_of slot (finish own) = is_same_slot own slot
is_finish_of slot step = false

-- whether steps read, write, finish a slot
abbrev pub is_read_in : List Step → Slot → Bool
is_read_in steps slot = list_any (is_read_of slot) steps

abbrev pub is_written_in : List Step → Slot → Bool
is_written_in steps slot = list_any (is_write_to slot) steps

abbrev pub is_finished_in : List Step → Slot → Bool
is_finished_in steps slot = list_any (is_finish_of slot) steps

-- whether the first of these steps passes a test
abbrev pub is_next : (Step → Bool) → List Step → Bool
is_next test [] = false
is_next test (step ∷ later) = test step

-- the name under which steps begin a slot, where they do
abbrev pub name_in : List Step → Slot → Option (List ℕ)
name_in [] slot = None
name_in (begin own name ∷ later) slot = if is_same_slot own slot then Some name else name_in later slot
name_in (step ∷ later) slot = name_in later slot

-- the text that a desk gives for that name, where it tells it
abbrev pub text_in : List Step → DeskState → Slot → Option (List ℕ)
text_in steps desk slot = option_and_then desk.gives (name_in steps slot)

-- Exactly the slots that these steps begin were begun, each under its name where the desk tells it.
pub record HasBegun (done : List Step) (now : DeskState) : Type 0 where
  pub slots : (slot : Slot) → now.begun slot ≡ is_some (name_in done slot)
  pub names : (slot : Slot) → IfSome (name_in done slot) (λ name. IsNamed slot name now)
