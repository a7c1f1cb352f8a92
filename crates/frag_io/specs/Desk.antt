-- What the calls of a desk do to its state, and which fault has which cause.
use Rattle.std.specs.Prelude.{◌≡◌, ◌≤◌, ◌++◌, ℕ, Bool, true, false, if◌then◌else◌, List, [], take}
use Rattle.std.specs.Prelude.{Option, Some, None, Result, Ok, Err, IfSome, IsErrOf}
use Rattle.frag_io.specs.declared.desk.Slot.{Slot}
use Rattle.frag_io.specs.declared.desk.DeskFault.{DeskFault}
use Rattle.frag_io.specs.declared.desk.DeskFault.TheVariants.{Failed, OutOfMemory}
use Rattle.frag_io.specs.Count.{raised}
use Rattle.frag_io.specs.DeskState.{DeskState}
use Rattle.frag_io.specs.Slot.{SameBut, Same, Gains}

-- A fault of a slot is counted between two moments: its count rose, or stands at the last value of a u64.
abbrev pub IsCounted : Slot → DeskState → DeskState → Type 0
IsCounted slot before now = raised (before.faults slot) ≤ now.faults slot

-- Where the desk tells the name under which a slot was begun, it is this one.
abbrev pub IsNamed : Slot → List ℕ → DeskState → Type 0
IsNamed slot name state = IfSome (state.names slot) (λ told. told ≡ name)

-- where a slot's bytes are told, there are none
abbrev pub IsEmpty : Option (List ℕ) → Type 0
IsEmpty told = IfSome told (λ bytes. bytes ≡ [])

-- what is told of a slot, with these bytes behind it
abbrev pub appended : Option (List ℕ) → List ℕ → Option (List ℕ)
appended None bytes = None
appended (Some told) bytes = Some (told ++ bytes)

-- What no call on a slot changes: each name gives what it gave, the other slots keep their names and their bytes, and
-- no count falls.
pub record Keeps (own : Slot) (before now : DeskState) : Type 0 where
  pub gives : (name : List ℕ) → now.gives name ≡ before.gives name
  pub others_named : SameBut own before.names now.names
  pub others_left : SameBut own before.left now.left
  pub others_written : SameBut own before.written now.written
  pub counts : (slot : Slot) → before.faults slot ≤ now.faults slot

-- A call that answers Ok adds its slot to a set of slots; one that does not leaves the set.
abbrev pub AddsOnOk : {T : Type 0} → Slot → (Slot → Bool) → (Slot → Bool) → Result T DeskFault → Type 0
AddsOnOk own before now (Ok _) = Gains own before now
AddsOnOk own before now (Err _) = Same before now

-- `Failed` is answered only where a fault of the slot is counted in the call.
abbrev pub HasCause : {T : Type 0} → Slot → DeskState → DeskState → Result T DeskFault → Type 0
HasCause slot before now result = IsErrOf result Failed → IsCounted slot before now

abbrev pub is_failed : {T : Type 0} → Result T DeskFault → Bool
is_failed (Ok value) = false
is_failed (Err Failed) = true
is_failed (Err OutOfMemory) = false

-- The exact counts of a call: one that answers `Failed` raises the count of its slot by one, any other raises none, and
-- no call raises the count of another slot.
pub record CountsFault {T : Type 0} (slot : Slot) (before now : DeskState) (result : Result T DeskFault) : Type 0 where
  pub own : now.faults slot ≡ (if is_failed result then raised (before.faults slot) else before.faults slot)
  pub others : SameBut slot before.faults now.faults

-- A read moved the first n of the bytes that were left to the front of the buffer.
abbrev pub Moves : Option (List ℕ) → Option (List ℕ) → List ℕ → ℕ → Type 0
Moves None left' buffer n = left' ≡ None
Moves (Some left) left' buffer n = (rest : List ℕ) × (left' ≡ Some rest) × (left ≡ take n buffer ++ rest)
