-- What a function of the slots says at one of them and at the others.
use Rattle.std.specs.Prelude.{◌≡◌, ◌≢◌, Bool, true, false}
use Rattle.frag_io.specs.declared.desk.Slot.{Slot}
use Rattle.frag_io.specs.declared.desk.Slot.TheVariants.{Spectra, Profile, CertIn, Report, CertOut}

-- a slot that is read: the texts and the document that a run is given
abbrev pub is_read : Slot → Bool
is_read Spectra = true
is_read Profile = true
is_read CertIn = true
is_read Report = false
is_read CertOut = false

abbrev pub IsRead : Slot → Type 0
IsRead slot = is_read slot ≡ true

-- a slot that is written: the report and the document that a run makes
abbrev pub IsWritten : Slot → Type 0
IsWritten slot = is_read slot ≡ false

-- what stands at each slot is what stood there
abbrev pub Same : {T : Type 0} → (Slot → T) → (Slot → T) → Type 0
Same before now = (slot : Slot) → now slot ≡ before slot

-- what stands at every other slot is what stood there
abbrev pub SameBut : {T : Type 0} → Slot → (Slot → T) → (Slot → T) → Type 0
SameBut own before now = (slot : Slot) → slot ≢ own → now slot ≡ before slot

-- a set of slots gains one, and keeps the others as they were
pub record Gains (own : Slot) (before now : Slot → Bool) : Type 0 where
  pub added : now own ≡ true
  pub others : SameBut own before now
