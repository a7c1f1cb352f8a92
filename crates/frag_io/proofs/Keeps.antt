-- For `Keeps` and what stands beside it in the clauses: what holds of one call of a desk and of those before it holds
-- of all of them.
use Rattle.std.proofs.Common.{◌∙◌, arith}
use Rattle.frag_io.specs.declared.desk.Slot.{Slot}
use Rattle.frag_io.specs.DeskState.{DeskState}
use Rattle.frag_io.specs.Slot.{Same}
use Rattle.frag_io.specs.Desk.{Keeps}

pub Same-trans : {T : Type 0} (old mid new : Slot → T) → Same old mid → Same mid new → Same old new
Same-trans old mid new first next = λ slot. next slot ∙ first slot

pub Keeps-trans : (own : Slot) (old mid new : DeskState) → Keeps own old mid → Keeps own mid new → Keeps own old new
Keeps-trans own old mid new first next = record {
  gives = λ name. next.gives name ∙ first.gives name;
  others_named = λ slot other. next.others_named slot other ∙ first.others_named slot other;
  others_left = λ slot other. next.others_left slot other ∙ first.others_left slot other;
  others_written = λ slot other. next.others_written slot other ∙ first.others_written slot other;
  counts = λ slot. omega (arith, next.counts slot, first.counts slot);
}
