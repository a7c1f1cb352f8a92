use Rattle.std.proofs.Common.{ℕ, ◌-◌, List, Option, length, take, drop, ap, ◌∙◌, arith}
use Rattle.frag_io.specs.Desk.{appended}
use Rattle.frag_io.proofs.Keeps.{Same-trans, Keeps-trans}
use Rattle.frag_io.proofs.Appended.{appended-more}
use Rattle.frag_io.proofs.whole.write_whole.Goals as goal

pub loop-done-preserved : goal.loop-done-preserved
loop-done-preserved g c =
    let so_far = c.loop-done.invariant in
    let call = c.in_ok-done.ensures in
    let bytes = c.args.bytes.now in
    let rest = take (length bytes - c.loop-done.done) (drop c.loop-done.done bytes) in
    let now = ap (λ (told : Option (List ℕ)). appended told (take c.in_ok-done.field-0 rest)) so_far.part in
    record {
      within = omega (arith, call.fits);
      part = call.appended ∙ now ∙ appended-more _ c.loop-done.done c.in_ok-done.field-0 bytes;
      begun = Same-trans _ _ _ so_far.begun call.begun;
      finished = Same-trans _ _ _ so_far.finished call.finished;
      names = Same-trans _ _ _ so_far.names call.names;
      keeps = Keeps-trans _ _ _ _ so_far.keeps call.keeps;
    }
