-- Which slots of a desk over real files were begun and finished.
use Rattle.std.specs.Prelude.{◌≡◌, refl, Bool, true, false, is_some}
use Rattle.frag_io.specs.declared.desk.Slot.{Slot}
use Rattle.frag_io.specs.declared.desk.Slot.TheVariants.{Spectra, Profile, CertIn, Report, CertOut}
use Rattle.frag_io.specs.declared.real.Outlet.{Outlet}
use Rattle.frag_io.specs.declared.real.Outlet.TheVariants.{Fresh, Open, Finished}
use Rattle.frag_io.specs.declared.real.Slots.{Slots}

abbrev pub is_open : {F : Type 0} → Outlet F → Bool
is_open Fresh = false
is_open (Open file) = true
is_open Finished = false

abbrev pub is_ended : {F : Type 0} → Outlet F → Bool
is_ended Fresh = false
is_ended (Open file) = false
is_ended Finished = true

abbrev pub is_started : {F : Type 0} → Outlet F → Bool
is_started Fresh = false
is_started (Open file) = true
is_started Finished = true

abbrev pub is_begun_in : {F : Type 0} → Slots F → Slot → Bool
is_begun_in slots Spectra = is_some slots.spectra
is_begun_in slots Profile = is_some slots.profile
is_begun_in slots CertIn = is_some slots.cert_in
is_begun_in slots Report = is_started slots.report
is_begun_in slots CertOut = is_started slots.cert_out

abbrev pub is_finished_in : {F : Type 0} → Slots F → Slot → Bool
is_finished_in slots Spectra = false
is_finished_in slots Profile = false
is_finished_in slots CertIn = false
is_finished_in slots Report = is_ended slots.report
is_finished_in slots CertOut = is_ended slots.cert_out

pub ended_is_started : {F : Type 0} (outlet : Outlet F) → is_ended outlet ≡ true → is_started outlet ≡ true
ended_is_started Fresh is = is
ended_is_started (Open file) is = refl
ended_is_started Finished is = refl

pub finished_in_is_begun : {F : Type 0} (slots : Slots F) (slot : Slot)
    → is_finished_in slots slot ≡ true → is_begun_in slots slot ≡ true
finished_in_is_begun slots Spectra is = absurd cc
finished_in_is_begun slots Profile is = absurd cc
finished_in_is_begun slots CertIn is = absurd cc
finished_in_is_begun slots Report is = ended_is_started slots.report is
finished_in_is_begun slots CertOut is = ended_is_started slots.cert_out is
