use Rattle.std.proofs.Common.{◌≡◌, ◌≢◌, ap, sym, subst, ◌∙◌, arith, Some, Option, String, string_bytes}
use Rattle.std.specs.Option.{option_map}
use Rattle.std.specs.declared.alloc.Global.{Global}
use Rattle.frag_io.specs.declared.desk.Slot.{Slot}
use Rattle.frag_io.specs.declared.failing.CallKind.TheVariants.{Begin}
use Rattle.frag_io.specs.declared.failing.Plan.{Plan}
use Rattle.frag_io.specs.declared.memory.MemoryDesk.{MemoryDesk}
use Rattle.frag_io.specs.declared.by_slot.BySlot.{BySlot}
use Rattle.frag_io.specs.Failing.{CountsCall}
use Rattle.frag_io.specs.inside.BySlot.{at}
use Rattle.frag_io.specs.inside.Bytes.{bytes_at}
use Rattle.frag_io.specs.inside.Faults.{faults_of}
use Rattle.frag_io.specs.inside.Stage.{is_begun, left_at, written_at}
use Rattle.frag_io.proofs.memory.MemoryDeskDesk.begin.Goals as goal

-- another slot stands where it stood
stage_of : (c : goal.After-self-2-1) (slot : Slot) → slot ≢ c.args.slot
    → at c.put-2.new.self slot ≡ at c.args.self.now.stages slot
stage_of c slot other = c.put-2.ensures.others slot other
    ∙ ap (λ (d : MemoryDesk). at d.stages slot) c.clear.ensures.rest
    ∙ ap (λ (d : MemoryDesk). at d.stages slot) c.is_due.ensures.rest

-- no fault is counted
faults_kept : (c : goal.After-self-2-1) (slot : Slot)
    → faults_of c.clear.new.self.faults slot ≡ faults_of c.args.self.now.faults slot
faults_kept c slot = ap (λ (d : MemoryDesk). faults_of d.faults slot) c.clear.ensures.rest
    ∙ ap (λ (d : MemoryDesk). faults_of d.faults slot) c.is_due.ensures.rest

pub returns-clause-begun : goal.returns-clause-begun
returns-clause-begun c = record {
  added = ap is_begun c.put-2.ensures.own ∙ c.in-Some.ensures.begun.0;
  others = λ slot other. ap is_begun (stage_of c slot other);
}

pub returns-clause-faults : goal.returns-clause-faults
returns-clause-faults c = record { own = faults_kept c c.args.slot; others = λ slot other. faults_kept c slot }

pub returns-clause-calls : goal.returns-clause-calls
returns-clause-calls c = record {
  calls = subst (λ (plan : Plan). CountsCall Begin c.args.self.now.plan plan)
      (sym (ap (λ (d : MemoryDesk). d.plan) c.clear.ensures.rest)) c.is_due.ensures.counted;
  piece = ap (λ (d : MemoryDesk). d.piece) c.clear.ensures.rest
      ∙ ap (λ (d : MemoryDesk). d.piece) c.is_due.ensures.rest;
}

pub returns-clause-keeps : goal.returns-clause-keeps
returns-clause-keeps c =
    let before = c.args.self.now in
    let cleared = c.clear.new.self in
    let files : cleared.files ≡ before.files = ap (λ (d : MemoryDesk). d.files) c.clear.ensures.rest
    ∙ ap (λ (d : MemoryDesk). d.files) c.is_due.ensures.rest in
    let names : cleared.names ≡ before.names = ap (λ (d : MemoryDesk). d.names) c.clear.ensures.rest
    ∙ ap (λ (d : MemoryDesk). d.names) c.is_due.ensures.rest in
    let name_of : (slot : Slot) → slot ≢ c.args.slot → at c.put.new.self slot ≡ at before.names slot =
    λ slot other. c.put.ensures.others slot other ∙ ap (λ (s : BySlot (Option (String Global))). at s slot) names in
    let bytes : (slot : Slot) → slot ≢ c.args.slot → bytes_at cleared slot ≡ bytes_at before slot =
    λ slot other. c.clear.ensures.others slot other
    ∙ ap (λ (d : MemoryDesk). bytes_at d slot) c.is_due.ensures.rest in
    record {
      gives = λ name. cc;
      others_named = λ slot other. ap (λ (name : Option (String Global)). option_map string_bytes name)
          (name_of slot other);
      others_left = λ slot other. let stage = stage_of c slot other in (λ i. Some (left_at (files i).items (stage i)));
      others_written = λ slot other. let stage = stage_of c slot other in let same = bytes slot other in
          (λ i. Some (written_at (stage i) (same i)));
      counts = λ slot. omega (arith, faults_kept c slot);
    }
