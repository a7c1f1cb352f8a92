-- What a desk in memory tells of its slots, and what its calls count.
use Rattle.std.specs.Prelude.{◌≡◌, ℕ, List, Some, string_bytes, option_map}
use Rattle.frag_io.specs.declared.desk.Slot.{Slot}
use Rattle.frag_io.specs.declared.failing.CallKind.{CallKind}
use Rattle.frag_io.specs.declared.failing.Failing.{Failing}
use Rattle.frag_io.specs.declared.memory.MemoryDesk.{MemoryDesk}
use Rattle.frag_io.specs.DeskState.{DeskState}
use Rattle.frag_io.specs.Failing.{calls_of, IsDue, CountsCall}
use Rattle.frag_io.specs.Files.{bytes_under}
use Rattle.frag_io.specs.inside.BySlot.{at}
use Rattle.frag_io.specs.inside.Faults.{faults_of}
use Rattle.frag_io.specs.inside.Bytes.{bytes_at}
use Rattle.frag_io.specs.inside.Stage.{is_begun, is_finished, left_at, written_at}

-- What a desk in memory tells: all of it.
abbrev pub state_of : MemoryDesk → DeskState
state_of desk = record {
  begun = λ slot. is_begun (at desk.stages slot);
  finished = λ slot. is_finished (at desk.stages slot);
  names = λ slot. option_map string_bytes (at desk.names slot);
  gives = λ name. bytes_under desk.files.items name;
  left = λ slot. Some (left_at desk.files.items (at desk.stages slot));
  written = λ slot. Some (written_at (at desk.stages slot) (bytes_at desk slot));
  faults = faults_of desk.faults;
}

-- what a read slot still has to give
abbrev pub left_of : MemoryDesk → Slot → List ℕ
left_of desk slot = left_at desk.files.items (at desk.stages slot)

-- how many bytes a call takes at most
abbrev pub piece_of : MemoryDesk → ℕ
piece_of desk = desk.piece

-- the calls that are to fail
abbrev pub failing_of : MemoryDesk → List Failing
failing_of desk = desk.plan.failing.items

-- how many calls of a kind there were, over all slots
abbrev pub calls_made : MemoryDesk → CallKind → ℕ
calls_made desk kind = calls_of desk.plan kind

-- The next call of this kind is one of those that are to fail.
abbrev pub FailsNext : MemoryDesk → CallKind → Type 0
FailsNext desk kind = IsDue desk.plan kind

-- A call of a kind is counted, and nothing else of what is planned changes.
pub record Counts (kind : CallKind) (before now : MemoryDesk) : Type 0 where
  pub calls : CountsCall kind before.plan now.plan
  pub piece : piece_of now ≡ piece_of before
