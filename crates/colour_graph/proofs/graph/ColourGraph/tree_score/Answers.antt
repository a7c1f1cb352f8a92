use Rattle.std.proofs.Common.{◌∙◌, ◌+ℤ◌, ℤ, ap, arith, sym, take, to_z, w32, w64}
use Rattle.std.proofs.lemmas.Int.{to_z-of_z}
use Rattle.colour_graph.specs.Colourful.{score_of}
use Rattle.colour_graph.proofs.Scores.{IsNear-more, SFits-score, added, score_of-more}
use Rattle.colour_graph.proofs.graph.ColourGraph.tree_score.Goals as goal

pub loop-edge-preserved : goal.loop-edge-preserved
loop-edge-preserved c =
    let weight : ℤ = c.edge_at.result.weight in
    let is = c.edge_at.ensures.is_edge.weight in
    let out_is = c.from-score-in-loop-edge.ensures ∙ to_z-of_z w32 weight (SFits-score weight is) in
    let sum_is =
    added (to_z w64 c.loop-edge.score-bits) weight c.from-score-in-loop-edge.result c.loop-edge.edge-index
    c.loop-edge.invariant.near is out_is
    (record { sfits = c.from-score-in-loop-edge.type_inv }) (omega arith) in
    record {
      so_far = sum_is ∙ ap (λ so_far. so_far +ℤ weight) c.loop-edge.invariant.so_far
          ∙ ap (λ edge. score_of c.args.self.now (take c.loop-edge.edge-index c.args.edges.now) +ℤ edge.weight)
          c.edge_at.ensures.edge
          ∙ sym (score_of-more c.args.self.now c.args.edges.now c.loop-edge.edge-index c.loop-edge-test.true);
      near =
          rw sum_is (IsNear-more (to_z w64 c.loop-edge.score-bits) weight c.loop-edge.edge-index
          c.loop-edge.invariant.near is);
    }
