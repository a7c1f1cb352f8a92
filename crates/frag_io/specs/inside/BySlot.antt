-- One value for each slot.
use Rattle.frag_io.specs.declared.desk.Slot.{Slot}
use Rattle.frag_io.specs.declared.desk.Slot.TheVariants.{Spectra, Profile, CertIn, Report, CertOut}
use Rattle.frag_io.specs.declared.by_slot.BySlot.{BySlot}

-- the value at a slot
abbrev pub at : {T : Type 0} → BySlot T → Slot → T
at values Spectra = values.spectra
at values Profile = values.profile
at values CertIn = values.cert_in
at values Report = values.report
at values CertOut = values.cert_out
