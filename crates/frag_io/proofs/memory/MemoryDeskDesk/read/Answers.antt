use Rattle.std.proofs.Common.{◌≡◌, ◌≤◌, ◌++◌, ◌↔◌, ℕ, List, [], length, min, take, drop, refl, sym, ap, subst, ◌∙◌}
use Rattle.std.proofs.Common.{arith}
use Rattle.frag_io.specs.Files.{Files}
use Rattle.frag_io.specs.declared.memory.MemoryDesk.{MemoryDesk}
use Rattle.frag_io.specs.declared.stage.Stage.{Stage}
use Rattle.frag_io.specs.declared.stage.Stage.TheVariants.{Reading}
use Rattle.frag_io.specs.inside.BySlot.{at}
use Rattle.frag_io.specs.inside.Stage.{rest_of, left_at}
use Rattle.frag_io.proofs.Moves.{read-moves, read_ends, read_on}
use Rattle.frag_io.proofs.memory.MemoryDeskDesk.read.Goals as goal

-- what the slot had left is what the read looks at
left_before : (c : goal.After-self-2-1) → left_at c.args.self.now.files.items (at c.args.self.now.stages c.args.slot)
    ≡ rest_of c.is_due.new.self.files.items c.in-Reading.source
left_before c =
    let same = ap (λ (d : MemoryDesk). d.files) (sym c.is_due.ensures.rest) in
    let stage : at c.args.self.now.stages c.args.slot ≡ Reading c.in-Reading.source =
    ap (λ (d : MemoryDesk). at d.stages c.args.slot) (sym c.is_due.ensures.rest) ∙ sym c.at.ensures
    ∙ c.in-Reading.is in
    λ i. left_at (same i).items (stage i)

looked_at : (c : goal.After-self-2-1) → c.rest-rest.result.now
    ≡ rest_of c.is_due.new.self.files.items c.in-Reading.source
looked_at c = c.rest-rest.ensures ∙ ap (λ (files : Files). rest_of files c.in-Reading.source) c.deref.ensures.value

pub returns-clause-moved : goal.returns-clause-moved
returns-clause-moved c =
    let files = c.is_due.new.self.files.items in
    let source = c.in-Reading.source in
    let n = c.min-n.result in
    let buffer = c.copy_from_slice.new.self ++ drop n c.args.buffer.now in
    let long : n ≤ length (rest_of files source) = omega (arith, ap length (looked_at c)) in
    let copied : c.copy_from_slice.new.self ≡ take n (rest_of files source) =
    c.copy_from_slice.ensures.after ∙ ap (λ (l : List ℕ). take n l) (looked_at c) in
    let now : left_at files (at c.put.new.self c.args.slot) ≡ rest_of files (read_on source n) =
    ap (λ (s : Stage). left_at files s) c.put.ensures.own in
    let moved = read-moves files source n _ _ long copied in
    (_, refl, left_before c ∙ moved ∙ ap (λ (l : List ℕ). take n buffer ++ l) (sym now))

pub returns-clause-end : goal.returns-clause-end
returns-clause-end c =
    let took = c.min-n.ensures ∙ ap (λ (m : ℕ). min m c.is_due.new.self.piece) c.min.ensures in
    subst (λ (left : List ℕ). (c.min-n.result ≡ 0) ↔ (left ≡ [])) (looked_at c ∙ sym (left_before c))
    (read_ends c.rest-rest.result.now c.min-n.result (length c.args.buffer.now) c.is_due.new.self.piece took
    c.requires.room c.is_due.new.self.has_piece)
