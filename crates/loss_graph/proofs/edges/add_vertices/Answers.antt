use Rattle.std.proofs.Common.{◌≡◌, ◌+◌, ◌-◌, ◌∙◌, [], ap, arith}
use Rattle.std.proofs.lemmas.List.{get_or_default}
use Rattle.colour_graph.specs.Graph.{colour_count}
use Rattle.loss_graph.proofs.Joining.{colour_count-taken}
use Rattle.loss_graph.proofs.edges.add_vertices.Goals as goal

pub vertex-requires-clause-not_root : goal.vertex-requires-clause-not_root
vertex-requires-clause-not_root c =
    rw (get_or_default c.args.vertices.now c.loop-place.place c.index-vertices-place.result
    (record { formula = []; peak = 0; colour = 0 }) c.loop-place-test.true)
    (c.requires.can.others c.loop-place.place (omega (arith, c.loop-place.auto.place)) c.loop-place-test.true)

pub vertex-requires-clause-not_before : goal.vertex-requires-clause-not_before
vertex-requires-clause-not_before c =
    let some = c.loop-place.auto.place in
    let counted =
    ap colour_count c.loop-place.invariant ∙ colour_count-taken c.args.builder.now.root_score c.args.vertices.now
    c.loop-place.place (c.loop-place.place - 1) (omega (arith, some)) (omega arith) in
    rw (get_or_default c.args.vertices.now c.loop-place.place c.index-vertices-place.result
    (record { formula = []; peak = 0; colour = 0 }) c.loop-place-test.true)
    (omega (
      arith,
      counted,
      c.requires.can.in_order (c.loop-place.place - 1) c.loop-place.place (omega (arith, some))
          c.loop-place-test.true,
    ))

pub vertex-requires-clause-no_gap : goal.vertex-requires-clause-no_gap
vertex-requires-clause-no_gap c =
    let some = c.loop-place.auto.place in
    let counted =
    ap colour_count c.loop-place.invariant ∙ colour_count-taken c.args.builder.now.root_score c.args.vertices.now
    c.loop-place.place (c.loop-place.place - 1) (omega (arith, some)) (omega arith) in
    let here : (c.loop-place.place - 1) + 1 ≡ c.loop-place.place = omega (arith, some) in
    let gap = rw here at (c.requires.can.no_gap (c.loop-place.place - 1) (omega (arith, some))) in
    rw (get_or_default c.args.vertices.now c.loop-place.place c.index-vertices-place.result
    (record { formula = []; peak = 0; colour = 0 }) c.loop-place-test.true)
    (omega (arith, counted, gap))
