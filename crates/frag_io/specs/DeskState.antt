-- What is known of the outside at one moment: the state of a desk, as its calls change it.
use Rattle.std.specs.Prelude.{ℕ, Bool, List, Option}
use Rattle.frag_io.specs.declared.desk.Slot.{Slot}

pub record DeskState : Type 0 where
  -- which slots were begun
  pub begun : Slot → Bool
  -- which slots were finished
  pub finished : Slot → Bool
  -- the name under which a slot was begun, where the desk tells it; of a slot that was not begun it means nothing
  pub names : Slot → Option (List ℕ)
  -- what a read slot that is begun under a name gives, where the desk tells it
  pub gives : List ℕ → Option (List ℕ)
  -- what a read slot still has to give, where the desk tells it
  pub left : Slot → Option (List ℕ)
  -- what was written to a written slot, where the desk tells it
  pub written : Slot → Option (List ℕ)
  -- how many faults of a slot were counted
  pub faults : Slot → ℕ
