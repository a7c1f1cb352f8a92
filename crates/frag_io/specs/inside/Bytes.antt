-- The bytes that a desk in memory keeps for its written slots.
use Rattle.std.specs.Prelude.{ℕ, List, []}
use Rattle.frag_io.specs.declared.desk.Slot.{Slot}
use Rattle.frag_io.specs.declared.desk.Slot.TheVariants.{Spectra, Profile, CertIn, Report, CertOut}
use Rattle.frag_io.specs.declared.memory.MemoryDesk.{MemoryDesk}

abbrev pub bytes_at : MemoryDesk → Slot → List ℕ
bytes_at desk Spectra = []
bytes_at desk Profile = []
bytes_at desk CertIn = []
bytes_at desk Report = desk.report.items
bytes_at desk CertOut = desk.cert_out.items
