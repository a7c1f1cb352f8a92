use Rattle.std.proofs.Common.{◌≡◌, ◌-◌, true, false, map, arith, sym, w32, ◌∙◌}
use Rattle.std.proofs.lemmas.Int.{to_z-of_z}
use Rattle.colour_graph.specs.Graph.{colour_count}
use Rattle.subset_tree.proofs.Gaining.{fits-weight, gained-all, gained-first, gained-more, gained-other, head_row}
use Rattle.tree_certificate.proofs.SetParts.{powers-le}
use Rattle.subset_tree.proofs.table.gather_gains.Goals as goal
use Rattle.subset_tree.proofs.table.gather_gains.Goals.{then-here-vertex, else-here-vertex}

pub loop-edge-init : goal.loop-edge-init
loop-edge-init c = record {
  long = c.clear_gains.ensures.length;
  gained = gained-first c.args.graph.now (map (λ row. row.items) c.args.rows.now) c.args.vertex c.args.colour
      c.edges_into-first.result.0 c.edges_into-first.result.1
      c.clear_gains.new.gains c.edges_into-first.ensures c.requires.colour.1 (c.clear_gains.ensures.length
      ∙ c.requires.room)
      (λ place within. c.clear_gains.ensures.clear place (omega (arith, within, c.clear_gains.ensures.length)));
  none = λ same. c.clear_gains.ensures.clear;
}

pub raise_gains-requires-clause-numbers : goal.raise_gains-requires-clause-numbers
raise_gains-requires-clause-numbers c =
    (head_row c.args.graph.now (λ row. row.items) c.args.rows.now c.args.vertex c.args.colour
    c.edges_into-first.result.0 c.edges_into-first.result.1 c.loop-edge.edge
    c.edge_at-here.result c.from.result c.index-rows-from.result c.deref.result.now c.requires.graph c.requires.rows
    c.edges_into-first.ensures
    c.loop-edge.auto.edge c.loop-edge-test.true c.edge_at-here.ensures.edge c.edge_at-here.ensures.is_edge
    c.if-here-vertex.true c.from.ensures c.index-rows-from.is c.deref.ensures.value).modest

pub raise_gains-requires-clause-few : goal.raise_gains-requires-clause-few
raise_gains-requires-clause-few c =
    let long = (head_row c.args.graph.now (λ row. row.items) c.args.rows.now c.args.vertex c.args.colour
    c.edges_into-first.result.0 c.edges_into-first.result.1 c.loop-edge.edge
    c.edge_at-here.result c.from.result c.index-rows-from.result c.deref.result.now c.requires.graph c.requires.rows
    c.edges_into-first.ensures
    c.loop-edge.auto.edge c.loop-edge-test.true c.edge_at-here.ensures.edge c.edge_at-here.ensures.is_edge
    c.if-here-vertex.true c.from.ensures c.index-rows-from.is c.deref.ensures.value).long in
    rw long (powers-le (colour_count c.args.graph.now - c.args.colour) (omega (arith, c.requires.few)))

pub raise_gains-requires-clause-room : goal.raise_gains-requires-clause-room
raise_gains-requires-clause-room c =
    let long = (head_row c.args.graph.now (λ row. row.items) c.args.rows.now c.args.vertex c.args.colour
    c.edges_into-first.result.0 c.edges_into-first.result.1 c.loop-edge.edge
    c.edge_at-here.result c.from.result c.index-rows-from.result c.deref.result.now c.requires.graph c.requires.rows
    c.edges_into-first.ensures
    c.loop-edge.auto.edge c.loop-edge-test.true c.edge_at-here.ensures.edge c.edge_at-here.ensures.is_edge
    c.if-here-vertex.true c.from.ensures c.index-rows-from.is c.deref.ensures.value).long in
    let here = c.loop-edge.invariant.long in
    let whole = c.requires.room in
    omega (arith, long, here, whole)

pub loop-edge-preserved : goal.loop-edge-preserved
loop-edge-preserved c =
    elim c.if-here-vertex.branch [
      | then-here-vertex w ↦
          let head = head_row c.args.graph.now (λ row. row.items) c.args.rows.now c.args.vertex c.args.colour
          c.edges_into-first.result.0 c.edges_into-first.result.1 c.loop-edge.edge
          c.edge_at-here.result w.from.result w.index-rows-from.result w.deref.result.now c.requires.graph
          c.requires.rows c.edges_into-first.ensures
          c.loop-edge.auto.edge c.loop-edge-test.true c.edge_at-here.ensures.edge c.edge_at-here.ensures.is_edge
          w.if-here-vertex.true w.from.ensures w.index-rows-from.is w.deref.ensures.value in
          let weight_is = to_z-of_z w32 c.edge_at-here.result.weight
          (fits-weight c.edge_at-here.result.weight c.edge_at-here.ensures.is_edge.weight) in
          rw w.gains-is (record {
            long = w.raise_gains.ensures.length ∙ c.loop-edge.invariant.long;
            gained = gained-more c.args.graph.now (map (λ row. row.items) c.args.rows.now) c.args.vertex c.args.colour
                c.loop-edge.edge c.loop-edge.gains
                w.raise_gains.new.gains w.deref.result.now c.edge_at-here.result c.edge_at-here.ensures.edge
                w.if-here-vertex.true head.into head.row head.long
                (rw weight_is at w.raise_gains.ensures.raised) w.raise_gains.ensures.gains
                c.loop-edge.invariant.gained;
            none = λ same. absurd (true_is_no (sym w.any-is ∙ same));
          })
      | else-here-vertex w ↦
          rw w.gains-is (record {
            long = c.loop-edge.invariant.long;
            gained = gained-other c.args.graph.now (map (λ row. row.items) c.args.rows.now) c.args.vertex c.args.colour
                c.loop-edge.edge c.loop-edge.gains
                c.edge_at-here.result c.edge_at-here.ensures.edge w.if-here-vertex.false c.loop-edge.invariant.gained;
            none = λ same. c.loop-edge.invariant.none (sym w.any-is ∙ same);
          })
    ]
  where
    true_is_no : true ≡ false → ⊥
    true_is_no same = cc

pub returns-clause-exact : goal.returns-clause-exact
returns-clause-exact c =
    gained-all c.args.graph.now (map (λ row. row.items) c.args.rows.now) c.args.vertex c.args.colour
    c.edges_into-first.result.0 c.edges_into-first.result.1 c.loop-edge.edge
    c.loop-edge.gains c.edges_into-first.ensures c.loop-edge-test.false
    (c.loop-edge.auto.edge-end c.edges_into-first.ensures.in_order) c.loop-edge.invariant.gained
