use Rattle.std.proofs.Common.{◌≡◌, ◌<◌, ◌++◌, [], ◌∷◌, arith}
use Rattle.std.specs.Prelude.{replicate}
use Rattle.std.specs.List.{flat_map}
use Rattle.tree_document.specs.Document as spec
use Rattle.line_fields.specs.Need.{need_entry}
use Rattle.document_reader.proofs.Sequence.{flat_took, one_longer, one_took}
use Rattle.document_reader.proofs.reader.read_entries.Goals as goal

pub loop-left-preserved : goal.loop-left-preserved
loop-left-preserved c =
    let pushed : c.push.new.self.items ≡ c.loop-left.items.items ++ c.in-Ok.both.0 ∷ [] = c.in_ok-push.ensures.items in
    let some : 0 < c.loop-left.left = omega arith in
    record {
      took = flat_took (λ entry. spec.entry_lines entry) _ _ c.loop-left.items.items c.push.new.self.items
          c.in-Ok.both.0 c.args.bytes.now c.in-Ok.both.1.now pushed
          (one_took (replicate c.args.count need_entry) need_entry c.loop-left.left
          (flat_map (λ entry. spec.entry_lines entry) c.loop-left.items.items) _ c.args.bytes.now
          c.loop-left.rest.now c.in-Ok.both.1.now some c.loop-left.invariant.took c.in-Ok.ensures);
      all = one_longer c.loop-left.items.items c.push.new.self.items c.in-Ok.both.0 c.loop-left.left c.args.count pushed
          some c.loop-left.invariant.all;
    }
