-- How many faults of each slot were counted.
use Rattle.std.specs.Prelude.{ℕ}
use Rattle.frag_io.specs.declared.desk.Slot.{Slot}
use Rattle.frag_io.specs.declared.faults.Faults.{Faults}
use Rattle.frag_io.specs.inside.BySlot.{at}

abbrev pub faults_of : Faults → Slot → ℕ
faults_of faults slot = (at faults.counts slot).value
