use Rattle.std.proofs.Common.{arith, length}
use Rattle.std.proofs.lemmas.List.{length-set}
use Rattle.std.proofs.lemmas.List.Elements.{All-set}
use Rattle.price_bound.specs.inside.Packed.{IsScaled}
use Rattle.price_bound.proofs.packed.edges_by_tail.Goals as goal

pub loop-edge-preserved-then-to-len : goal.loop-edge-preserved-then-to-len
loop-edge-preserved-then-to-len c = record {
  within = omega (arith, c.loop-edge.invariant.within);
  edges = All-set (IsScaled (length c.args.graph.now.colours)) c.loop-edge.edges.items _ _
      (record { tail = c.edge_at-here.ensures.is_edge.tail; head = c.edge_at-here.ensures.is_edge.head })
      c.loop-edge.invariant.edges;
  few = rw length-set c.loop-edge.invariant.few;
}
