use Rattle.std.proofs.Common.{◌≡◌, arith, to_z, of_z, w64, ◌∙◌}
use Rattle.std.proofs.lemmas.Int.{ints, to_z-of_z}
use Rattle.colour_graph.specs.EdgeSet.{all_edges}
use Rattle.tree_certificate.specs.BoundView.{bound_value}
use Rattle.branch_search.specs.inside.Growing.{grown_of, total_in}
use Rattle.branch_search.proofs.Ending.{IsEnd, end-below, end-depth, end-enough, end-holds, end-spent, end-splits}
use Rattle.branch_search.proofs.Ending.{more-capped, more-stands}
use Rattle.branch_search.proofs.searching.search.Goals as goal
use Rattle.branch_search.proofs.searching.search.Goals.{then-loop-made-test+else-best-total, else-loop-made-test}

pub loop-made-preserved : goal.loop-made-preserved
loop-made-preserved g c =
    let graph = c.args.graph.now in
    let old = grown_of c.loop-made.node in
    let new = grown_of c.in_ok-node.node in
    let known = c.loop-made.invariant in
    record {
      made = omega (arith, c.in_ok-node.ensures.splits, known.made);
      within = omega (arith, c.loop-made-test.true);
      stands = more-stands graph c.grown.new.best.score old new c.in_ok-set.set c.in_ok-set.ensures.all
          c.in_ok-node.ensures.less c.in_ok-node.ensures.stands;
      capped = more-capped graph c.grown.new.best.score old new c.in_ok-set.set c.in_ok-set.ensures.all
          c.in_ok-node.ensures.less c.in_ok-node.ensures.stands known.capped;
      best = c.in_ok-node.ensures.best;
    }

pub returns-clause-holds : goal.returns-clause-holds
returns-clause-holds g c =
    let graph = c.args.graph.now in
    let node = grown_of c.loop-made.node in
    let best = c.loop-made.best in
    let known = c.loop-made.invariant in
    let end : IsEnd graph c.args.budget node best.edges.items best.score = record {
      stands = known.stands;
      few = omega (arith, known.made, known.within);
      spent = λ more. elim c.loop-made-test.branch [
        | then-loop-made-test+else-best-total w ↦
            let total : w.total.result ≡ total_in node = w.total.ensures in
            absurd (omega (arith, ints, more, total, w.if-best-total.false))
        | else-loop-made-test w ↦ omega (arith, known.made, known.within, w.loop-made-test.false)
      ];
      tree = known.best;
    } in
    let upper : to_z w64 (of_z w64 c.total-upper.result) ≡ total_in node =
    to_z-of_z w64 c.total-upper.result (record { sfits = c.total-upper.type_inv }) ∙ c.total-upper.ensures in
    end-holds graph c.args.budget node best.edges.items best.score (bound_value c.in_ok-bound.bound) _
    c.is_graph.ensures end c.in_ok-bound.ensures upper

pub returns-clause-few_splits : goal.returns-clause-few_splits
returns-clause-few_splits g c =
    let graph = c.args.graph.now in
    let node = grown_of c.loop-made.node in
    let best = c.loop-made.best in
    let known = c.loop-made.invariant in
    let end : IsEnd graph c.args.budget node best.edges.items best.score = record {
      stands = known.stands;
      few = omega (arith, known.made, known.within);
      spent = λ more. elim c.loop-made-test.branch [
        | then-loop-made-test+else-best-total w ↦
            let total : w.total.result ≡ total_in node = w.total.ensures in
            absurd (omega (arith, ints, more, total, w.if-best-total.false))
        | else-loop-made-test w ↦ omega (arith, known.made, known.within, w.loop-made-test.false)
      ];
      tree = known.best;
    } in
    let upper : to_z w64 (of_z w64 c.total-upper.result) ≡ total_in node =
    to_z-of_z w64 c.total-upper.result (record { sfits = c.total-upper.type_inv }) ∙ c.total-upper.ensures in
    end-splits graph c.args.budget node best.edges.items best.score (bound_value c.in_ok-bound.bound) _
    c.is_graph.ensures end c.in_ok-bound.ensures upper

pub returns-clause-shallow : goal.returns-clause-shallow
returns-clause-shallow g c =
    let graph = c.args.graph.now in
    let node = grown_of c.loop-made.node in
    let best = c.loop-made.best in
    let known = c.loop-made.invariant in
    let end : IsEnd graph c.args.budget node best.edges.items best.score = record {
      stands = known.stands;
      few = omega (arith, known.made, known.within);
      spent = λ more. elim c.loop-made-test.branch [
        | then-loop-made-test+else-best-total w ↦
            let total : w.total.result ≡ total_in node = w.total.ensures in
            absurd (omega (arith, ints, more, total, w.if-best-total.false))
        | else-loop-made-test w ↦ omega (arith, known.made, known.within, w.loop-made-test.false)
      ];
      tree = known.best;
    } in
    let upper : to_z w64 (of_z w64 c.total-upper.result) ≡ total_in node =
    to_z-of_z w64 c.total-upper.result (record { sfits = c.total-upper.type_inv }) ∙ c.total-upper.ensures in
    end-depth graph c.args.budget node best.edges.items best.score (bound_value c.in_ok-bound.bound) _
    c.is_graph.ensures end c.in_ok-bound.ensures upper c.requires.vertices c.requires.colours

pub returns-clause-not_below : goal.returns-clause-not_below
returns-clause-not_below g c =
    let graph = c.args.graph.now in
    let node = grown_of c.loop-made.node in
    let best = c.loop-made.best in
    let known = c.loop-made.invariant in
    let end : IsEnd graph c.args.budget node best.edges.items best.score = record {
      stands = known.stands;
      few = omega (arith, known.made, known.within);
      spent = λ more. elim c.loop-made-test.branch [
        | then-loop-made-test+else-best-total w ↦
            let total : w.total.result ≡ total_in node = w.total.ensures in
            absurd (omega (arith, ints, more, total, w.if-best-total.false))
        | else-loop-made-test w ↦ omega (arith, known.made, known.within, w.loop-made-test.false)
      ];
      tree = known.best;
    } in
    let upper : to_z w64 (of_z w64 c.total-upper.result) ≡ total_in node =
    to_z-of_z w64 c.total-upper.result (record { sfits = c.total-upper.type_inv }) ∙ c.total-upper.ensures in
    let holds = end-holds graph c.args.budget node best.edges.items best.score (bound_value c.in_ok-bound.bound) _
    c.is_graph.ensures end c.in_ok-bound.ensures upper in
    let bounded = c.a_bound_that_holds_bounds_every_tree.ensures graph (all_edges graph)
    (bound_value c.in_ok-bound.bound) _ c.is_graph.ensures holds in
    end-below graph c.args.budget node best.edges.items best.score (bound_value c.in_ok-bound.bound) _
    c.is_graph.ensures end c.in_ok-bound.ensures upper bounded

pub returns-clause-spent : goal.returns-clause-spent
returns-clause-spent g c =
    let graph = c.args.graph.now in
    let node = grown_of c.loop-made.node in
    let best = c.loop-made.best in
    let known = c.loop-made.invariant in
    let end : IsEnd graph c.args.budget node best.edges.items best.score = record {
      stands = known.stands;
      few = omega (arith, known.made, known.within);
      spent = λ more. elim c.loop-made-test.branch [
        | then-loop-made-test+else-best-total w ↦
            let total : w.total.result ≡ total_in node = w.total.ensures in
            absurd (omega (arith, ints, more, total, w.if-best-total.false))
        | else-loop-made-test w ↦ omega (arith, known.made, known.within, w.loop-made-test.false)
      ];
      tree = known.best;
    } in
    let upper : to_z w64 (of_z w64 c.total-upper.result) ≡ total_in node =
    to_z-of_z w64 c.total-upper.result (record { sfits = c.total-upper.type_inv }) ∙ c.total-upper.ensures in
    end-spent graph c.args.budget node best.edges.items best.score (bound_value c.in_ok-bound.bound) _
    c.is_graph.ensures end c.in_ok-bound.ensures upper

pub returns-clause-enough : goal.returns-clause-enough
returns-clause-enough g c =
    let graph = c.args.graph.now in
    let node = grown_of c.loop-made.node in
    let best = c.loop-made.best in
    let known = c.loop-made.invariant in
    let end : IsEnd graph c.args.budget node best.edges.items best.score = record {
      stands = known.stands;
      few = omega (arith, known.made, known.within);
      spent = λ more. elim c.loop-made-test.branch [
        | then-loop-made-test+else-best-total w ↦
            let total : w.total.result ≡ total_in node = w.total.ensures in
            absurd (omega (arith, ints, more, total, w.if-best-total.false))
        | else-loop-made-test w ↦ omega (arith, known.made, known.within, w.loop-made-test.false)
      ];
      tree = known.best;
    } in
    let upper : to_z w64 (of_z w64 c.total-upper.result) ≡ total_in node =
    to_z-of_z w64 c.total-upper.result (record { sfits = c.total-upper.type_inv }) ∙ c.total-upper.ensures in
    let holds = end-holds graph c.args.budget node best.edges.items best.score (bound_value c.in_ok-bound.bound) _
    c.is_graph.ensures end c.in_ok-bound.ensures upper in
    let bounded = c.a_bound_that_holds_bounds_every_tree.ensures graph (all_edges graph)
    (bound_value c.in_ok-bound.bound) _ c.is_graph.ensures holds in
    end-enough graph c.args.budget node best.edges.items best.score (bound_value c.in_ok-bound.bound) _
    c.is_graph.ensures end c.in_ok-bound.ensures upper bounded
