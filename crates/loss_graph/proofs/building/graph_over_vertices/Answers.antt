use Rattle.std.proofs.Common.{◌≡◌, ◌∙◌, [], ap, get_or, length, of_z, to_z, w32}
use Rattle.std.proofs.lemmas.Int.{to_z-of_z}
use Rattle.std.proofs.lemmas.List.{get_or_default}
use Rattle.std.specs.List.{flat_map, range_with_len}
use Rattle.loss_graph.specs.Lists.{list_at}
use Rattle.loss_graph.specs.LossGraph.{edges_to, error_score_in}
use Rattle.loss_graph.specs.Vertices.{vertex_at}
use Rattle.loss_graph.specs.inside.Joining.{with_edges, without_edges}
use Rattle.loss_graph.proofs.building.graph_over_vertices.Goals as goal

pub returns : goal.returns
returns c =
    let list_is : c.index-lists-0.result ≡ list_at c.args.lists.now 0 =
    c.index-lists-0.is ∙ get_or_default c.args.lists.now 0 c.index-lists-0.result
    (record { mz = 0; intensity = 0; formulas = [] }) c.requires.lists.some in
    let root_is : get_or c.args.vertices.now 0 c.index-vertices-0.result ≡ vertex_at c.args.vertices.now 0 =
    get_or_default c.args.vertices.now 0 c.index-vertices-0.result (record { formula = []; peak = 0; colour = 0 })
    c.requires.can.some in
    let edges = flat_map (edges_to c.args.choice.now c.args.scores.now c.args.lists.now c.args.vertices.now)
    (range_with_len 0 (length c.args.vertices.now)) in
    c.finish.ensures ∙ c.in_ok-add_edges.ensures
    ∙ ap (λ graph. with_edges graph edges) (c.in_ok-add_vertices.ensures
    ∙ ap (λ graph. without_edges graph.root_score c.args.vertices.now) c.in_ok-builder.ensures)
    ∙ ap (λ score. with_edges (without_edges score c.args.vertices.now) edges)
    (to_z-of_z w32 c.error_score-root_score.result (record { sfits = c.error_score-root_score.type_inv })
    ∙ c.error_score-root_score.ensures.score
    ∙ ap (λ list. error_score_in c.args.choice.now c.args.scores.now list
    (get_or c.args.vertices.now 0 c.index-vertices-0.result).formula) list_is
    ∙ ap (λ vertex. error_score_in c.args.choice.now c.args.scores.now (list_at c.args.lists.now 0) vertex.formula)
    root_is)
