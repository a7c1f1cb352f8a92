use Rattle.std.proofs.Common.{◌≡◌, ◌<◌, ◌++◌, [], ◌∷◌, arith, map}
use Rattle.std.specs.Prelude.{replicate}
use Rattle.std.specs.List.{list_all}
use Rattle.tree_certificate.specs.Number.{greatest_number, is_near}
use Rattle.tree_document.specs.Line as spec
use Rattle.line_fields.specs.Need.{need_table_row}
use Rattle.document_reader.proofs.Sequence.{mapped_took, near_more, one_longer, one_took}
use Rattle.document_reader.proofs.reader.read_table_rows.Goals as goal

pub loop-left-preserved : goal.loop-left-preserved
loop-left-preserved c =
    let pushed : c.push.new.self.items ≡ c.loop-left.items.items ++ c.in-Ok.both.0 ∷ [] = c.in_ok-push.ensures.items in
    let some : 0 < c.loop-left.left = omega arith in
    record {
      took = mapped_took (λ row. spec.table_row_line row.items) _ _ c.loop-left.items.items c.push.new.self.items
          c.in-Ok.both.0 c.args.bytes.now c.in-Ok.both.1.now pushed
          (one_took (replicate c.args.count need_table_row) need_table_row c.loop-left.left
          (map (λ row. spec.table_row_line row.items) c.loop-left.items.items) _ c.args.bytes.now
          c.loop-left.rest.now c.in-Ok.both.1.now some c.loop-left.invariant.took c.in-Ok.ensures.taken);
      near = near_more (λ row. list_all (is_near greatest_number) row.items) c.loop-left.items.items
          c.push.new.self.items c.in-Ok.both.0 pushed c.loop-left.invariant.near c.in-Ok.ensures.numbers;
      all = one_longer c.loop-left.items.items c.push.new.self.items c.in-Ok.both.0 c.loop-left.left c.args.count pushed
          some c.loop-left.invariant.all;
    }
