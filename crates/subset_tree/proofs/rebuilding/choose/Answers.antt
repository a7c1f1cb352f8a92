use Rattle.std.proofs.Common.{◌≡◌, ◌+◌, ◌*◌, ◌<◌, ℕ, arith, ◌∙◌, ap, sym, subst, map, inl, inr, of_z, to_z, w64, length}
use Rattle.std.proofs.Common.{◌∷◌, true}
use Rattle.std.proofs.lemmas.Bool.{cases_eq}
use Rattle.std.proofs.lemmas.Int.{ints}
use Rattle.colour_graph.specs.declared.edge.Edge.{Edge}
use Rattle.colour_graph.specs.Graph.{colour_count, edge_at}
use Rattle.subset_tree.specs.inside.Rebuilding.{IsChoice, IsMissed}
use Rattle.subset_tree.proofs.Reaching.{before_more, colour_behind, one_reaches}
use Rattle.subset_tree.proofs.Reading.{place_more}
use Rattle.subset_tree.proofs.rebuilding.choose.Goals as goal
use Rattle.subset_tree.proofs.rebuilding.choose.Goals.{else-edge_at-vertex, then-edge_at-vertex+in_default}

pub number_at-requires-clause-place : goal.number_at-requires-clause-place
number_at-requires-clause-place c =
    let some : 0 < c.args.colour = omega (arith, c.requires.before) in
    place_more c.args.rest c.args.colour (colour_count c.args.graph.now) some c.requires.counted c.requires.place

pub returns-then-left_out-number_at : goal.returns-then-left_out-number_at
returns-then-left_out-number_at c = λ set at long.
    let same : c.number_at-left_out.result ≡ c.number_at.result =
    omega (arith, ints, ap (to_z w64) c.if-left_out-number_at.true) in
    sym (c.number_at-left_out.ensures.number set at long) ∙ same
    ∙ c.number_at.ensures.number (true ∷ set) (ap (λ n. 1 + 2 * n) at)
    (before_more c.args.colour (length set) (colour_count c.args.graph.now) (omega (arith, c.requires.before)) long)

pub returns-in-Some : goal.returns-in-Some
returns-in-Some c = λ set at long.
    subst (λ (v : ℕ). IsChoice c.args.graph.now (map (λ row. row.items) c.args.rows.now) v set c.loop-edge.edge
    c.in-Some.part)
    (ap (λ (e : Edge). e.tail) (sym c.edge_at.ensures.edge) ∙ c.if-edge_at-vertex.true) (c.in-Some.ensures set at long)

pub loop-edge-preserved : goal.loop-edge-preserved
loop-edge-preserved c = λ edge from below tail set at long.
    elim (cases_eq edge c.loop-edge.edge) [
      | inl same ↦ elim c.if-edge_at-vertex.branch [
        | then-edge_at-vertex+in_default w ↦
            subst (λ (e : ℕ). IsMissed c.args.graph.now (map (λ row. row.items) c.args.rows.now) set e) (sym same)
            (w.in_default.ensures set at long)
        | else-edge_at-vertex w ↦
            absurd (w.if-edge_at-vertex.false
            (ap (λ (e : Edge). e.tail) (c.edge_at.ensures.edge ∙ ap (edge_at c.args.graph.now) (sym same)) ∙ tail))
      ]
      | inr apart ↦ c.loop-edge.invariant edge from (omega arith) tail set at long
    ]

pub returns : goal.returns
returns c = λ set at long.
    absurd (one_reaches c.args.graph.now _ c.args.vertex set c.requires.exact c.requires.vertex
    (omega (arith, c.requires.before, long))
    (λ same. c.if-left_out-number_at.false
    (ap (of_z w64)
    (c.number_at-left_out.ensures.number set at long ∙ same
    ∙ sym (c.number_at.ensures.number (true ∷ set) (ap (λ n. 1 + 2 * n) at)
    (before_more c.args.colour (length set) (colour_count c.args.graph.now) (omega (arith, c.requires.before)) long)))))
    (λ edge within tail head.
    let between = (c.edges_into-first.ensures.members edge within).1
    (colour_behind c.args.graph.now edge c.args.colour (length set) head long) in
    c.loop-edge.invariant edge between.0 (omega (arith, between.1, c.loop-edge-test.false)) tail set at long))
