use Rattle.std.proofs.Common.{◌≡◌, ◌∙◌, ◌<◌, ap, arith, length}
use Rattle.colour_graph.specs.Graph.{edge_at}
use Rattle.certificate_checker.proofs.Gaining.{moved-more}
use Rattle.certificate_checker.proofs.needed.add_gains.Goals as goal

pub loop-edge-preserved : goal.loop-edge-preserved
loop-edge-preserved c =
    let graph = c.args.graph.now in
    let tail_is : c.from.result ≡ (edge_at graph c.loop-edge.edge).tail = c.from.ensures
    ∙ ap (λ edge. edge.tail) c.edge_at.ensures.edge in
    let room : c.from.result < length c.loop-edge.gains =
    omega (arith, c.from.ensures, c.edge_at.ensures.is_edge.tail, c.requires.room, c.loop-edge.invariant.gains_long) in
    moved-more graph c.args.colour c.edges_into-first.result.0 c.edges_into-first.result.1 c.loop-edge.edge
    c.from.result
    c.loop-edge.needed c.loop-edge.gains c.args.needed.now c.args.gains.now c.move_gain.new.needed
    c.move_gain.new.gains
    c.requires.not_root c.requires.few c.edges_into-first.ensures c.loop-edge.auto.edge c.loop-edge-test.true
    c.requires.needs c.requires.gained tail_is room c.move_gain.ensures.added c.move_gain.ensures.clear
    c.loop-edge.invariant
