use Rattle.std.proofs.Common.{w32}
use Rattle.std.proofs.lemmas.Int.{to_z-of_z}
use Rattle.colour_graph.proofs.Growing.{IsGraph-with_edge}
use Rattle.colour_graph.proofs.builder.GraphBuilder.edge.Goals as goal

pub invariant_of-self-2 : goal.invariant_of-self-2
invariant_of-self-2 c = rw (c.in_ok-push.ensures.items, to_z-of_z w32 c.args.weight c.ranges.weight) (
  IsGraph-with_edge (record {
    root_score = c.self.inside.root_score;
    colours = c.self.inside.colours.items;
    edges = c.self.inside.edges.items;
  })
      (record { tail = c.args.tail; head = c.args.head; weight = c.args.weight }) c.self.invariant.0
      (rw (← c.self.view_is) at c.requires.is_edge) (rw (← c.self.view_is) at c.requires.next),
  c.self.invariant.1,
)
