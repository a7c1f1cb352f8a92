use Rattle.std.proofs.Common.{◌≡◌, ◌<◌, ◌++◌, [], ◌∷◌, arith, map}
use Rattle.std.specs.Prelude.{replicate}
use Rattle.tree_document.specs.Line as spec
use Rattle.line_fields.specs.Need.{need_row}
use Rattle.document_reader.proofs.Sequence.{mapped_took, one_longer, one_took}
use Rattle.document_reader.proofs.reader.read_rows.Goals as goal

pub loop-left-preserved : goal.loop-left-preserved
loop-left-preserved c =
    let pushed : c.push.new.self.items ≡ c.loop-left.items.items ++ c.in-Ok.both.0 ∷ [] = c.in_ok-push.ensures.items in
    let some : 0 < c.loop-left.left = omega arith in
    record {
      took = mapped_took (λ it. spec.row_line it) _ _ c.loop-left.items.items c.push.new.self.items c.in-Ok.both.0
          c.args.bytes.now c.in-Ok.both.1.now pushed
          (one_took (replicate c.args.count need_row) need_row c.loop-left.left
          (map (λ it. spec.row_line it) c.loop-left.items.items) _ c.args.bytes.now c.loop-left.rest.now
          c.in-Ok.both.1.now some c.loop-left.invariant.took c.in-Ok.ensures);
      all = one_longer c.loop-left.items.items c.push.new.self.items c.in-Ok.both.0 c.loop-left.left c.args.count pushed
          some c.loop-left.invariant.all;
    }
