use Rattle.std.proofs.Common.{◌≡◌, ◌+◌, ◌<◌, ◌≤◌, ◌++◌, ◌∷◌, [], ℕ, List, arith, ◌∙◌, ap, sym, subst, map, length, drop}
use Rattle.std.proofs.Common.{get_or}
use Rattle.std.proofs.lemmas.List.{length-replicate}
use Rattle.colour_graph.specs.Graph.{colour_of}
use Rattle.subset_tree.proofs.Passing.{written}
use Rattle.subset_tree.proofs.Standing.{Standing, at_last_colourful, at_last_rising, at_last_score, first_standing}
use Rattle.subset_tree.proofs.Standing.{seat_of_next, standing_left, standing_step, when_decided}
use Rattle.subset_tree.proofs.rebuilding.read_tree.Goals as goal
use Rattle.subset_tree.proofs.rebuilding.read_tree.Goals.{in-Some+in_ok-push, in_default}

pub loop-decided-init : goal.loop-decided-init
loop-decided-init c =
    let all = c.in_ok-owners.ensures.items_if_clones_equal (λ y same. same) in
    record {
      count = ap length all ∙ length-replicate c.colour_count-count.result 0 ∙ c.colour_count-count.ensures;
      stands = first_standing c.args.graph.now _ c.colour_count-count.result c.new-edges.result.items
          c.in_ok-owners.owners.items c.requires.graph c.colour_count-count.ensures c.new-edges.ensures.items all;
    }

pub decide-requires-clause-vertex : goal.decide-requires-clause-vertex
decide-requires-clause-vertex c =
    subst (λ (os : List ℕ). get_or os c.loop-decided.decided 0 < length c.args.graph.now.colours)
    (sym c.deref_mut.ensures.value)
    (seat_of_next c.args.graph.now _ c.loop-decided.edges.items c.loop-decided.owners.items c.loop-decided.decided
    c.loop-decided.invariant.count (omega (
      arith,
      c.loop-decided.invariant.count,
      c.loop-decided-test.true,
      c.colour_count-count.ensures,
    )) c.loop-decided.invariant.stands).0

pub decide-requires-clause-before : goal.decide-requires-clause-before
decide-requires-clause-before c =
    subst (λ (os : List ℕ). colour_of c.args.graph.now (get_or os c.loop-decided.decided 0) ≤ c.loop-decided.decided)
    (sym c.deref_mut.ensures.value)
    (seat_of_next c.args.graph.now _ c.loop-decided.edges.items c.loop-decided.owners.items c.loop-decided.decided
    c.loop-decided.invariant.count (omega (
      arith,
      c.loop-decided.invariant.count,
      c.loop-decided-test.true,
      c.colour_count-count.ensures,
    )) c.loop-decided.invariant.stands).1

pub loop-decided-preserved : goal.loop-decided-preserved
loop-decided-preserved c =
    let same : length c.decide.new.owners ≡ length c.loop-decided.owners.items =
    omega (arith, c.decide.auto.owners, ap (length {A = ℕ}) c.deref_mut.ensures.value) in
    let whole = written c.loop-decided.owners.len c.decide.new.owners c.loop-decided.owners.items same
    (omega (arith, c.loop-decided.owners.ok)) in
    let stands = subst (λ (os : List ℕ). Standing c.args.graph.now
    (map (λ row. row.items) c.args.rows.now) c.loop-decided.edges.items (drop c.loop-decided.decided os))
    (sym c.deref_mut.ensures.value) c.loop-decided.invariant.stands in
    let next : c.loop-decided.decided < length c.deref_mut.result.now =
    omega (
      arith,
      c.loop-decided.invariant.count,
      c.loop-decided-test.true,
      c.colour_count-count.ensures,
      ap (length {A = ℕ}) c.deref_mut.ensures.value,
    ) in
    record {
      count = ap length whole ∙ same ∙ c.loop-decided.invariant.count;
      stands =
          subst (λ (os : List ℕ). Standing c.args.graph.now
          (map (λ row. row.items) c.args.rows.now) c.match-decide.edges.items (drop (c.loop-decided.decided + 1) os))
          (sym whole)
          (elim c.match-decide.branch [
            | in-Some+in_ok-push w ↦
                let pushed : c.match-decide.edges.items ≡ c.loop-decided.edges.items ++ w.in-Some.edge ∷ [] =
                ap (λ v. v.items) w.edges-is ∙ w.in_ok-push.ensures.items in
                subst (λ (es : List ℕ). Standing c.args.graph.now (map (λ row. row.items) c.args.rows.now) es
                (drop (c.loop-decided.decided + 1) c.decide.new.owners)) (sym pushed)
                (standing_step c.args.graph.now _ c.loop-decided.edges.items c.deref_mut.result.now c.decide.new.owners
                c.loop-decided.decided w.in-Some.edge c.requires.graph next stands w.in-Some.ensures)
            | in_default w ↦
                subst (λ (es : List ℕ). Standing c.args.graph.now (map (λ row. row.items) c.args.rows.now) es
                (drop (c.loop-decided.decided + 1) c.decide.new.owners)) (ap (λ v. v.items) (sym w.edges-is))
                (standing_left c.args.graph.now _ c.loop-decided.edges.items c.deref_mut.result.now c.decide.new.owners
                c.loop-decided.decided next stands w.in_default.ensures.0 w.in_default.ensures.1)
          ]);
    }

pub returns-clause-colourful : goal.returns-clause-colourful
returns-clause-colourful c =
    at_last_colourful c.args.graph.now _ c.loop-decided.edges.items
    (when_decided c.args.graph.now _ c.loop-decided.edges.items c.loop-decided.owners.items c.loop-decided.decided
    (omega (arith, c.loop-decided.invariant.count, c.loop-decided-test.false, c.colour_count-count.ensures))
    c.loop-decided.invariant.stands)

pub returns-clause-rising : goal.returns-clause-rising
returns-clause-rising c =
    at_last_rising c.args.graph.now _ c.loop-decided.edges.items c.requires.graph
    (when_decided c.args.graph.now _ c.loop-decided.edges.items c.loop-decided.owners.items c.loop-decided.decided
    (omega (arith, c.loop-decided.invariant.count, c.loop-decided-test.false, c.colour_count-count.ensures))
    c.loop-decided.invariant.stands)

pub returns-clause-few : goal.returns-clause-few
returns-clause-few c = omega (arith, c.loop-decided.invariant.stands.few)

pub returns-clause-score : goal.returns-clause-score
returns-clause-score c =
    at_last_score c.args.graph.now _ c.loop-decided.edges.items c.requires.exact
    (when_decided c.args.graph.now _ c.loop-decided.edges.items c.loop-decided.owners.items c.loop-decided.decided
    (omega (arith, c.loop-decided.invariant.count, c.loop-decided-test.false, c.colour_count-count.ensures))
    c.loop-decided.invariant.stands)
