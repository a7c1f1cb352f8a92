use Rattle.std.proofs.Common.{◌≡◌, ◌<◌, ◌∙◌, ◌+ℤ◌, [], ap, arith, get_or, length, sym, to_z, of_z, w32, true, false}
use Rattle.std.proofs.lemmas.Int.{to_z-of_z}
use Rattle.std.proofs.lemmas.List.{get_or_default}
use Rattle.element_table.specs.Formula.{is_proper_part, loss_of}
use Rattle.score_tables.specs.Scores.{loss_score_of}
use Rattle.loss_graph.specs.Vertices.{vertex_at}
use Rattle.loss_graph.specs.inside.Joining.{edge_between}
use Rattle.loss_graph.proofs.Joining.{below-added, below-more, comes-next, edge-fits, joined-more, joined-same, test-is}
use Rattle.loss_graph.proofs.Joining.{weight-is}
use Rattle.loss_graph.proofs.edges.add_edges_to.Goals as goal
use Rattle.loss_graph.proofs.edges.add_edges_to.Goals.{then-is_proper_part+in_ok-edge, else-is_proper_part}

pub edge-requires-clause-is_edge : goal.edge-requires-clause-is_edge
edge-requires-clause-is_edge c =
    let before : c.loop-tail.tail < length c.args.vertices.now = omega (arith, c.requires.head) in
    let tail_is : c.index-vertices-tail-then-is_proper_part.result ≡ vertex_at c.args.vertices.now c.loop-tail.tail =
    c.index-vertices-tail-then-is_proper_part.is
    ∙ get_or_default c.args.vertices.now c.loop-tail.tail c.index-vertices-tail-then-is_proper_part.result
    (record { formula = []; peak = 0; colour = 0 }) before in
    let head_is : c.index-vertices-head-then-is_proper_part.result ≡ vertex_at c.args.vertices.now c.args.head =
    c.index-vertices-head-then-is_proper_part.is
    ∙ get_or_default c.args.vertices.now c.args.head c.index-vertices-head-then-is_proper_part.result
    (record { formula = []; peak = 0; colour = 0 }) c.requires.head in
    let weight_is : c.weight_between-weight.result
    ≡ (edge_between c.args.scores.now c.args.vertices.now (to_z w32 (of_z w32 c.args.base)) c.args.head
    c.loop-tail.tail).weight =
    c.weight_between-weight.ensures.weight
    ∙ ap (λ vertex. loss_score_of c.args.scores.now
    (loss_of vertex.formula c.index-vertices-head-then-is_proper_part.result.formula) +ℤ to_z w32
    (of_z w32 c.args.base)) tail_is
    ∙ ap (λ vertex. loss_score_of c.args.scores.now
    (loss_of (vertex_at c.args.vertices.now c.loop-tail.tail).formula vertex.formula) +ℤ to_z w32
    (of_z w32 c.args.base)) head_is in
    let test : is_proper_part (vertex_at c.args.vertices.now c.args.head).formula
    (vertex_at c.args.vertices.now c.loop-tail.tail).formula ≡ true =
    sym (c.if-is_proper_part.ensures.test
    ∙ ap (λ vertex. is_proper_part vertex.formula
    (get_or c.args.vertices.now c.loop-tail.tail c.index-vertices-tail.result).formula)
    (get_or_default c.args.vertices.now c.args.head c.index-vertices-head.result
    (record { formula = []; peak = 0; colour = 0 }) c.requires.head)
    ∙ ap (λ vertex. is_proper_part (vertex_at c.args.vertices.now c.args.head).formula vertex.formula)
    (get_or_default c.args.vertices.now c.loop-tail.tail c.index-vertices-tail.result
    (record { formula = []; peak = 0; colour = 0 }) before)) in
    let near = rw weight_is at c.weight_between-weight.ensures.near in
    rw (to_z-of_z w32 c.weight_between-weight.result (record { sfits = c.weight_between-weight.type_inv }), weight_is)
    (edge-fits c.loop-tail.builder c.args.scores.now c.args.vertices.now (to_z w32 (of_z w32 c.args.base)) c.args.head
    c.loop-tail.tail c.requires.can
    (ap (λ graph. graph.colours) c.loop-tail.invariant.joined ∙ c.requires.colours) c.requires.head
    c.loop-tail-test.true test near)

pub edge-requires-clause-next : goal.edge-requires-clause-next
edge-requires-clause-next c = comes-next c.loop-tail.builder _ c.loop-tail.invariant.below

pub loop-tail-preserved : goal.loop-tail-preserved
loop-tail-preserved c =
    let before : c.loop-tail.tail < length c.args.vertices.now = omega (arith, c.requires.head) in
    elim c.if-is_proper_part.branch [
      | then-is_proper_part+in_ok-edge w ↦ rw w.builder-is (record {
        joined =
            joined-more c.args.builder.now c.loop-tail.builder w.edge.new.self c.args.scores.now c.args.vertices.now
            (to_z w32 (of_z w32 c.args.base)) _ c.args.head c.loop-tail.tail
            c.loop-tail.invariant.joined w.in_ok-edge.ensures.added
            (to_z-of_z w32 w.weight_between-weight.result (record { sfits = w.weight_between-weight.type_inv })
            ∙ weight-is c.args.scores.now c.args.vertices.now (to_z w32 (of_z w32 c.args.base)) c.args.head
            c.loop-tail.tail w.index-vertices-tail-then-is_proper_part.result
            w.index-vertices-head-then-is_proper_part.result w.weight_between-weight.result
            w.index-vertices-tail-then-is_proper_part.is before
            w.index-vertices-head-then-is_proper_part.is c.requires.head w.weight_between-weight.ensures.weight)
            (test-is c.args.vertices.now c.args.head c.loop-tail.tail c.index-vertices-tail.result
            c.index-vertices-head.result c.is_proper_part.result true before c.requires.head
            c.is_proper_part.ensures.test w.if-is_proper_part.true);
        below =
            below-added c.loop-tail.builder w.edge.new.self c.args.head c.loop-tail.tail _ w.in_ok-edge.ensures.added
            c.loop-tail.invariant.below;
      })
      | else-is_proper_part w ↦ rw w.builder-is (record {
        joined =
            joined-same c.args.builder.now c.loop-tail.builder c.args.scores.now c.args.vertices.now
            (to_z w32 (of_z w32 c.args.base)) c.args.head c.loop-tail.tail c.loop-tail.invariant.joined
            (test-is c.args.vertices.now c.args.head c.loop-tail.tail c.index-vertices-tail.result
            c.index-vertices-head.result c.is_proper_part.result false before c.requires.head
            c.is_proper_part.ensures.test w.if-is_proper_part.false);
        below = below-more c.loop-tail.builder.edges c.args.head c.loop-tail.tail c.loop-tail.invariant.below;
      })
    ]
