-- What a desk over real files tells of its slots: how far they have come and how many faults were counted, and no name
-- and no bytes.
use Rattle.std.specs.Prelude.{None}
use Rattle.frag_io.specs.declared.real.Slots.{Slots}
use Rattle.frag_io.specs.DeskState.{DeskState}
use Rattle.frag_io.specs.inside.Faults.{faults_of}
use Rattle.frag_io.specs.inside.Outlets.{is_begun_in, is_finished_in}

abbrev pub state_of : {F : Type 0} → Slots F → DeskState
state_of slots = record {
  begun = is_begun_in slots;
  finished = is_finished_in slots;
  names = λ _. None;
  gives = λ _. None;
  left = λ _. None;
  written = λ _. None;
  faults = faults_of slots.faults;
}
