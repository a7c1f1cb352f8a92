use Rattle.std.proofs.Common.{◌<◌, ◌+◌, arith, length}
use Rattle.colour_graph.specs.Graph.{Graph, colour_count}
use Rattle.colour_graph.proofs.Growing.{IsGraph-with_vertex, end-added, ends-suffice}
use Rattle.colour_graph.proofs.builder.GraphBuilder.vertex.Goals as goal
use Rattle.colour_graph.proofs.builder.GraphBuilder.vertex.Goals.{then-len-from+in_ok-push, else-len-from}

pub invariant_of-self-2 : goal.invariant_of-self-2
invariant_of-self-2 c =
    let graph : Graph =
    record {
      root_score = c.self.inside.root_score;
      colours = c.self.inside.colours.items;
      edges =
          c.self.inside.edges.items;
    } in
    let not_before = rw (← c.self.view_is) at c.requires.not_before in
    let no_gap = rw (← c.self.view_is) at c.requires.no_gap in
    let room = rw (← c.self.view_is) at c.requires.room in
    let is = IsGraph-with_vertex graph c.args.colour c.self.invariant.0 c.requires.not_root not_before no_gap room in
    rw c.in_ok-push-2.ensures.items (elim c.if-len-from.branch [
      | then-len-from+in_ok-push w ↦ rw w.self-inside-is (
        is,
        ends-suffice graph c.args.colour (length w.push.new.self.items) (
            let few : length c.self.inside.ends.items < c.args.colour + 1 = omega (arith, w.if-len-from.true) in
            omega (
              arith,
              w.in_ok-push.ensures.len,
              end-added (colour_count graph) c.args.colour
                  (length c.self.inside.ends.items) c.self.invariant.1 (omega (arith, few)) no_gap,
            )),
      )
      | else-len-from w ↦
          rw w.self-inside-is (
            is,
            ends-suffice graph c.args.colour (length c.self.inside.ends.items)
                (omega (arith, w.if-len-from.false)),
          )
    ])
