use Rattle.std.proofs.Common.{◌≡◌, ◌+◌, ◌-◌, ◌<◌, ℕ, ℤ, List, length, map, slice_set, arith, ap, subst, ◌∙◌}
use Rattle.std.proofs.lemmas.List.{with_items_is}
use Rattle.subset_tree.specs.inside.Filling.{AreFilledFrom}
use Rattle.subset_tree.proofs.Filled.{AreNumbers-filled, IsSetRow-map, filled-row}
use Rattle.subset_tree.proofs.table.fill_table.Goals as goal

pub loop-vertex-preserved : goal.loop-vertex-preserved
loop-vertex-preserved c =
    let graph = c.args.graph.now in
    let vertex = c.loop-vertex.vertex - 1 in
    let known = c.loop-vertex.invariant in
    let within : vertex < length graph.colours = omega (arith, known.within, c.loop-vertex-test.true) in
    let next : c.loop-vertex.vertex ≡ vertex + 1 = omega (arith, c.loop-vertex-test.true) in
    let same = with_items_is c.loop-vertex.gains c.filled_row.new.gains
    (omega (arith, c.deref_mut.ensures.len, c.in_ok-row.ensures.gains)) in
    rw same (record {
      within = omega (arith, within);
      room = c.in_ok-row.ensures.gains ∙ ap (λ (ns : List ℤ). length ns) c.deref_mut.ensures.value ∙ known.room;
      filled = filled-row graph (map (λ row. row.items) c.loop-vertex.rows.items)
          (map (λ row. row.items) (slice_set c.loop-vertex.rows.items vertex c.in_ok-row.row)) vertex
          c.in_ok-row.row.items c.is_graph.ensures
          (IsSetRow-map (λ row. row.items) c.loop-vertex.rows.items vertex c.in_ok-row.row
          (rw known.filled.count within))
          within c.in_ok-row.ensures.size (rw c.deref.ensures.value at c.in_ok-row.ensures.filled)
          (subst (λ (n : ℕ). AreFilledFrom graph (map (λ row. row.items) c.loop-vertex.rows.items) n) next
          known.filled);
    })

pub returns-clause-numbers : goal.returns-clause-numbers
returns-clause-numbers c =
    AreNumbers-filled c.args.graph.now (map (λ row. row.items) c.loop-vertex.rows.items) c.loop-vertex.vertex
    c.loop-vertex-test.false c.requires.colours c.loop-vertex.invariant.filled
