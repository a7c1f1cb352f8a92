use Rattle.std.proofs.Common.{◌≡◌, ◌∙◌, ap, arith, map}
use Rattle.loss_graph.specs.LossGraph.{graph_over}
use Rattle.loss_graph.specs.Vertices.{vertex_at, vertices_of}
use Rattle.loss_graph.proofs.Built.{is_built}
use Rattle.loss_graph.proofs.Facts.{CanJoin-vertices, known_of, part_of_vertices}
use Rattle.loss_graph.proofs.building.build.Goals as goal

pub graph_over_vertices-requires-clause-can : goal.graph_over_vertices-requires-clause-can
graph_over_vertices-requires-clause-can c =
    let known = known_of c.args.choice.now c.root_formula-root.result _ c.args.lists.now (record {
      proper = c.the_tests_decide.ensures.proper;
      lighter = c.atoms_weigh_more_than_a_window.ensures.proper;
    }) c.root_formula-root.ensures.root c.requires c.root_formula-root.ensures.formula
    c.in_ok-gathered.ensures.formulas in
    let few = c.if-gathered-gt-GREATEST_GRAPH.false in
    rw (c.deref.ensures.value ∙ c.in_ok-gathered.ensures.gathered.all few)
    (CanJoin-vertices c.args.choice.now c.root_formula-root.result c.args.lists.now known
    (omega (arith, few, c.in_ok-gathered.ensures.gathered.counted)))

pub graph_over_vertices-requires-clause-parts : goal.graph_over_vertices-requires-clause-parts
graph_over_vertices-requires-clause-parts c place some within =
    let known = known_of c.args.choice.now c.root_formula-root.result _ c.args.lists.now (record {
      proper = c.the_tests_decide.ensures.proper;
      lighter = c.atoms_weigh_more_than_a_window.ensures.proper;
    }) c.root_formula-root.ensures.root c.requires c.root_formula-root.ensures.formula
    c.in_ok-gathered.ensures.formulas in
    let is : c.deref.result.now ≡ vertices_of c.root_formula-root.result c.args.lists.now =
    c.deref.ensures.value ∙ c.in_ok-gathered.ensures.gathered.all c.if-gathered-gt-GREATEST_GRAPH.false in
    rw is (part_of_vertices c.args.choice.now c.root_formula-root.result c.args.lists.now known place some
    (rw is at within))

pub invariant_of-result : goal.invariant_of-result
invariant_of-result c =
    let known = known_of c.args.choice.now c.root_formula-root.result _ c.args.lists.now (record {
      proper = c.the_tests_decide.ensures.proper;
      lighter = c.atoms_weigh_more_than_a_window.ensures.proper;
    }) c.root_formula-root.ensures.root c.requires c.root_formula-root.ensures.formula
    c.in_ok-gathered.ensures.formulas in
    let all = c.in_ok-gathered.ensures.gathered.all c.if-gathered-gt-GREATEST_GRAPH.false in
    is_built c.args.choice.now c.args.scores.now c.root_formula-root.result c.args.lists.now c.in_ok-graph.graph
    c.of.result c.of-2.result known
    (c.in_ok-graph.ensures ∙ ap
    (λ vertices. graph_over c.args.choice.now c.args.scores.now (vertex_at vertices 0).formula c.args.lists.now
    vertices) (c.deref.ensures.value ∙ all))
    (c.of.ensures ∙ c.in_ok-formulas.ensures ∙ ap (map (λ vertex. vertex.formula)) (c.deref-2.ensures.value ∙ all))
    (c.of-2.ensures ∙ c.in_ok-gathered.ensures.gathered.named)

pub returns-clause-parts : goal.returns-clause-parts
returns-clause-parts c =
    let known = known_of c.args.choice.now c.root_formula-root.result _ c.args.lists.now (record {
      proper = c.the_tests_decide.ensures.proper;
      lighter = c.atoms_weigh_more_than_a_window.ensures.proper;
    }) c.root_formula-root.ensures.root c.requires c.root_formula-root.ensures.formula
    c.in_ok-gathered.ensures.formulas in
    let all = c.in_ok-gathered.ensures.gathered.all c.if-gathered-gt-GREATEST_GRAPH.false in
    is_built c.args.choice.now c.args.scores.now c.root_formula-root.result c.args.lists.now c.in_ok-graph.graph
    c.of.result c.of-2.result known
    (c.in_ok-graph.ensures ∙ ap
    (λ vertices. graph_over c.args.choice.now c.args.scores.now (vertex_at vertices 0).formula c.args.lists.now
    vertices) (c.deref.ensures.value ∙ all))
    (c.of.ensures ∙ c.in_ok-formulas.ensures ∙ ap (map (λ vertex. vertex.formula)) (c.deref-2.ensures.value ∙ all))
    (c.of-2.ensures ∙ c.in_ok-gathered.ensures.gathered.named)
