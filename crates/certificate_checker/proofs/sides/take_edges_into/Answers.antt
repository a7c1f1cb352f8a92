use Rattle.std.proofs.Common.{◌≡◌, ◌∙◌, arith, sym}
use Rattle.certificate_checker.proofs.SplitSides.{taken-all, taken-first, taken-left, taken-with, taken-without}
use Rattle.certificate_checker.proofs.sides.take_edges_into.Goals as goal
use Rattle.certificate_checker.proofs.sides.take_edges_into.Goals.{then-has+in_ok-push, else-has}

pub loop-edge-init : goal.loop-edge-init
loop-edge-init c =
    taken-first c.args.graph.now c.args.allowed.now c.args.colour c.edges_into-first.result.0
    c.edges_into-first.result.1 c.args.taken.now.items
    c.edges_into-first.ensures

pub loop-edge-preserved : goal.loop-edge-preserved
loop-edge-preserved c =
    let graph = c.args.graph.now in
    let allowed = c.args.allowed.now in
    let edge = c.loop-edge.edge in
    elim c.if-has.branch [
      | then-has+in_ok-push w ↦
          rw (w.allowed-is, w.taken-is)
          (taken-with graph allowed c.loop-edge.allowed w.take_out.new.self c.args.colour c.edges_into-first.result.0
          c.edges_into-first.result.1 edge
          c.args.taken.now.items c.loop-edge.taken.items w.push.new.self.items c.requires.set c.edges_into-first.ensures
          c.loop-edge.auto.edge
          c.loop-edge-test.true (sym c.has.ensures ∙ w.if-has.true) w.take_out.ensures w.in_ok-push.ensures.items
          c.loop-edge.invariant)
      | else-has w ↦
          rw (w.allowed-is, w.taken-is)
          (taken-without graph allowed c.loop-edge.allowed c.args.colour c.edges_into-first.result.0
          c.edges_into-first.result.1 edge c.args.taken.now.items
          c.loop-edge.taken.items c.requires.set c.edges_into-first.ensures c.loop-edge.auto.edge c.loop-edge-test.true
          (sym c.has.ensures ∙ w.if-has.false) c.loop-edge.invariant)
    ]

pub returns-clause-left : goal.returns-clause-left
returns-clause-left c =
    let ended : c.loop-edge.edge ≡ c.edges_into-first.result.1 =
    omega (arith, c.loop-edge.auto.edge-end c.edges_into-first.ensures.in_order) in
    taken-left c.args.graph.now c.args.allowed.now c.loop-edge.allowed c.args.colour c.edges_into-first.result.0
    c.edges_into-first.result.1 c.args.taken.now.items
    c.loop-edge.taken.items c.requires.set c.edges_into-first.ensures (rw ended at c.loop-edge.invariant)

pub returns-clause-taken : goal.returns-clause-taken
returns-clause-taken c =
    let ended : c.loop-edge.edge ≡ c.edges_into-first.result.1 =
    omega (arith, c.loop-edge.auto.edge-end c.edges_into-first.ensures.in_order) in
    taken-all c.args.graph.now c.args.allowed.now c.loop-edge.allowed c.args.colour c.edges_into-first.result.0
    c.edges_into-first.result.1 c.args.taken.now.items
    c.loop-edge.taken.items c.edges_into-first.ensures (rw ended at c.loop-edge.invariant)
