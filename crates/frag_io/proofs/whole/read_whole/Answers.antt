use Rattle.std.proofs.Common.{◌≡◌, ◌≤◌, ◌++◌, ◌∙◌, ℕ, List, Result, Err, Vec, IfSome, length, take, refl, sym, ap}
use Rattle.std.proofs.Common.{subst, arith}
use Rattle.std.specs.declared.alloc.Global.{Global}
use Rattle.frag_io.specs.declared.whole.ReadWhole.{ReadWhole}
use Rattle.frag_io.specs.declared.whole.ReadWhole.TheVariants.{TooLong, OutOfMemory}
use Rattle.frag_io.specs.Whole.{ReadsWhole}
use Rattle.frag_io.proofs.Keeps.{Keeps-trans}
use Rattle.frag_io.proofs.ReadsWhole.{buffer_now, Err-of, left_behind, ReadsWhole-part, stays_short}
use Rattle.frag_io.proofs.whole.read_whole.Goals as goal

pub returns-then-n-limit-clause-whole : goal.returns-then-n-limit-clause-whole
returns-then-n-limit-clause-whole g c =
    let state = g.D.Desk.state in
    let slot = c.args.slot in
    ReadsWhole-part c.args.limit c.in_ok-n.n ((state c.args.desk.now).left slot) ((state c.loop-buffer.desk).left slot)
    ((state c.read.new.self).left slot) c.loop-buffer.text.items c.read.new.buffer TooLong c.loop-buffer.invariant.left
    c.in_ok-n.ensures.moved (omega (arith, c.in_ok-n.ensures.fits, c.read.auto.buffer)) (λ _. omega arith, λ _. refl)
    (omega (arith, c.in_ok-n.ensures.fits, c.loop-buffer.invariant.short, c.loop-buffer.invariant.room))

pub returns-in_err-extend_from_slice-clause-whole : goal.returns-in_err-extend_from_slice-clause-whole
returns-in_err-extend_from_slice-clause-whole g c =
    let state = g.D.Desk.state in
    let slot = c.args.slot in
    let told = (state c.args.desk.now).left slot in
    let left = (state c.read.new.self).left slot in
    let result = c.from_residual-in_err-extend_from_slice.result in
    let is : result ≡ Err OutOfMemory = Err-of result OutOfMemory c.from_residual-in_err-extend_from_slice.ensures.1 in
    let whole : IfSome told (ReadsWhole c.args.limit left (Err OutOfMemory)) =
    ReadsWhole-part c.args.limit c.in_ok-n.n told ((state c.loop-buffer.desk).left slot) left c.loop-buffer.text.items
    c.read.new.buffer OutOfMemory c.loop-buffer.invariant.left c.in_ok-n.ensures.moved
    (omega (arith, c.in_ok-n.ensures.fits, c.read.auto.buffer)) (λ is. cc, λ above. absurd (omega arith))
    (omega (arith, c.in_ok-n.ensures.fits, c.loop-buffer.invariant.short, c.loop-buffer.invariant.room)) in
    subst (λ (r : Result (Vec ℕ Global) ReadWhole). IfSome told (ReadsWhole c.args.limit left r)) (sym is) whole

pub loop-buffer-preserved : goal.loop-buffer-preserved
loop-buffer-preserved g c =
    let state = g.D.Desk.state in
    let before = c.loop-buffer.invariant in
    let read = c.in_ok-n.ensures in
    let n = c.in_ok-n.n in
    let slot = c.args.slot in
    let text = c.loop-buffer.text in
    let bytes = c.read.new.buffer in
    let kept = c.loop-buffer.buffer in
    let same : length bytes ≡ length kept.items = c.read.auto.buffer ∙ ap length c.deref_mut.ensures.value in
    let now = buffer_now bytes kept.items kept.len kept.ok.0 same in
    let text' = c.extend_from_slice.new.self.items in
    let is : text' ≡ text.items ++ take n bytes =
    c.in_ok-extend_from_slice.ensures.items
    ∙ ap (λ (l : List ℕ). text.items ++ take n l) (c.deref.ensures.value ∙ now) in
    let fits : n ≤ length bytes = omega (arith, read.fits, c.read.auto.buffer) in
    record {
      short = stays_short text.items text' bytes n c.args.limit c.len.result is fits (c.len.ensures ∙ text.ok.0)
          c.if-n-limit.false before.short;
      room = ap length now ∙ same ∙ before.room;
      left = left_behind ((state c.args.desk.now).left slot) ((state c.loop-buffer.desk).left slot)
          ((state c.read.new.self).left slot) text.items text' bytes n before.left read.moved is;
      begun = λ slot. read.begun slot ∙ before.begun slot;
      finished = λ slot. read.finished slot ∙ before.finished slot;
      names = λ slot. read.names slot ∙ before.names slot;
      keeps = Keeps-trans slot (state c.args.desk.now) (state c.loop-buffer.desk) (state c.read.new.self) before.keeps
          read.keeps;
    }
