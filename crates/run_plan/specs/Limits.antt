-- How long a text may be, and what it means that one is too long.
use Rattle.std.specs.Prelude.{◌≡◌, ◌≤◌, ◌<◌, ◌++◌, ◌↔◌, ℕ, Bool, true, false, List, [], length, Option, Some, IfSome}
use Rattle.frag_io.specs.declared.desk.Slot.{Slot}
use Rattle.frag_io.specs.declared.desk.Slot.TheVariants.{Spectra, Profile, CertIn, Report, CertOut}
use Rattle.frag_io.specs.DeskState.{DeskState}
use Rattle.frag_io.specs.Slot.{IsRead}
use Rattle.tree_document.specs.Reading.{greatest_document}
use Rattle.run_plan.specs.Plan.{Step, name_in}
use Rattle.run_plan.specs.Class.{Class, too_long}

-- How many bytes a text of spectra or a profile may have.
abbrev pub greatest_text : ℕ
greatest_text = 67108864

-- How many bytes may be read from a slot; nothing is read from a written one.
abbrev pub greatest_text_of : Slot → ℕ
greatest_text_of Spectra = greatest_text
greatest_text_of Profile = greatest_text
greatest_text_of CertIn = greatest_document
greatest_text_of Report = 0
greatest_text_of CertOut = 0

-- What was read of a text and what is left make it up; and it is too long exactly where more was read than the limit.
abbrev pub FitsLimit : Slot → List ℕ → Option (List ℕ) → Class → Type 0
FitsLimit slot text left class =
    (read : List ℕ) × (rest : List ℕ) × (left ≡ Some rest) × (text ≡ read ++ rest)
    × ((class ≡ too_long slot) ↔ (greatest_text_of slot < length read))

-- What is left of a text: nothing of one that was read, which is within its limit, and all of one that was not.
abbrev pub IsLeft : Bool → Slot → List ℕ → Option (List ℕ) → Type 0
IsLeft true slot text left = (left ≡ Some []) × (length text ≤ greatest_text_of slot)
IsLeft false slot text left = left ≡ Some text

-- The desk tells the texts that these steps begin, and each is within its limit.
abbrev pub AreWithinLimits : List Step → DeskState → Type 0
AreWithinLimits plan before =
    (slot : Slot) → IsRead slot → IfSome (name_in plan slot)
    (λ name. (text : List ℕ) × (before.gives name ≡ Some text) × (length text ≤ greatest_text_of slot))
