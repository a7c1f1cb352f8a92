use Rattle.std.proofs.Common.{◌≡◌, ◌++◌, ℕ, List, length, ◌≤◌, ◌<◌, Ok, Err, refl, ap, subst, ◌∙◌, arith, length-append}
use Rattle.std.proofs.lemmas.Grind.{common_steps}
use Rattle.mgf_reader.specs.declared.fault.FeedFault.TheVariants.{OutOfMemory}
use Rattle.mgf_reader.specs.Text.{greatest_line}
use Rattle.mgf_reader.specs.inside.Judging.{line_at}
use Rattle.mgf_reader.specs.inside.Cutting.{Kept, TakesIn}
use Rattle.mgf_reader.proofs.TakesIn.{takes-long, takes-part, takes-broken, length-line_at}
use Rattle.mgf_reader.proofs.cutter.Cutter.keep.Goals as goal

pub returns-then-len-part-clause-takes : goal.returns-then-len-part-clause-takes
returns-then-len-part-clause-takes c =
    let held : List ℕ = c.self.inside.unfinished.items in
    let kept : Kept = record { unfinished = held; lines = c.self.inside.judge } in
    let bytes : List ℕ = c.args.part.now in
    let long : greatest_line < length (line_at kept.lines.judged (held ++ bytes)) =
    omega (
      arith,
      length-line_at kept.lines.judged (held ++ bytes),
      length-append held bytes,
      c.self.inside.unfinished.ok.0,
      c.len.ensures,
      c.if-len-part.true,
    ) in
    subst (λ k. TakesIn k bytes (Err c.too_long.result) k) c.self.view_is
    (rw c.too_long.ensures (takes-long kept bytes held _ c.requires.part long refl))

pub returns-then-is_err-clause-takes : goal.returns-then-is_err-clause-takes
returns-then-is_err-clause-takes c =
    let kept : Kept = record { unfinished = c.self.inside.unfinished.items; lines = c.self.inside.judge } in
    let bytes : List ℕ = c.args.part.now in
    subst (λ k. TakesIn k bytes (Err OutOfMemory) kept) c.self.view_is (takes-broken kept kept bytes refl)

pub returns-then-line_at-gt-GREATEST_LINE-clause-takes :
    goal.returns-then-line_at-gt-GREATEST_LINE-clause-takes
returns-then-line_at-gt-GREATEST_LINE-clause-takes c =
    let kept : Kept = record { unfinished = c.self.inside.unfinished.items; lines = c.self.inside.judge } in
    let bytes : List ℕ = c.args.part.now in
    let held : c.extend_from_slice.new.self.items ≡ kept.unfinished ++ bytes = grind (arith, common_steps) in
    let line : c.line_at.result.now ≡ line_at kept.lines.judged (kept.unfinished ++ bytes) = c.line_at.ensures
    ∙ ap (line_at c.judged.result) (c.deref.ensures.value ∙ held)
    ∙ ap (λ n. line_at n (kept.unfinished ++ bytes)) c.judged.ensures in
    let long : greatest_line < length (line_at kept.lines.judged (kept.unfinished ++ bytes)) =
    omega (arith, ap length line) in
    subst (λ k. TakesIn k bytes (Err c.too_long-then-line_at-gt-GREATEST_LINE.result)
    (record { unfinished = c.extend_from_slice.new.self.items; lines = c.self.inside.judge })) c.self.view_is
    (rw c.too_long-then-line_at-gt-GREATEST_LINE.ensures
    (takes-long kept bytes c.extend_from_slice.new.self.items _ c.requires.part long refl))

pub returns-clause-takes : goal.returns-clause-takes
returns-clause-takes c =
    let kept : Kept = record { unfinished = c.self.inside.unfinished.items; lines = c.self.inside.judge } in
    let bytes : List ℕ = c.args.part.now in
    let held : c.extend_from_slice.new.self.items ≡ kept.unfinished ++ bytes = grind (arith, common_steps) in
    let line : c.line_at.result.now ≡ line_at kept.lines.judged c.extend_from_slice.new.self.items = c.line_at.ensures
    ∙ ap (line_at c.judged.result) c.deref.ensures.value
    ∙ ap (λ n. line_at n c.extend_from_slice.new.self.items) c.judged.ensures in
    let short : length (line_at kept.lines.judged c.extend_from_slice.new.self.items) ≤ greatest_line =
    omega (arith, ap length line) in
    subst (λ k. TakesIn k bytes (Ok tt) (record {
      unfinished = c.extend_from_slice.new.self.items;
      lines = c.self.inside.judge;
    })) c.self.view_is
    (takes-part kept bytes c.extend_from_slice.new.self.items c.requires.part held short)
