use Rattle.std.proofs.Common.{arith, inl, inr}
use Rattle.std.proofs.lemmas.Int.{ints}
use Rattle.branch_search.proofs.GrowSteps.{IsLeaf-better}
use Rattle.branch_search.proofs.LeafSteps.{IsKept, kept-new, kept-old, kept-tree, leaf-above}
use Rattle.branch_search.proofs.leaves.side_leaf.Goals as goal
use Rattle.branch_search.proofs.leaves.side_leaf.Goals.{then-tree-best, else-tree-best}

pub returns-then-own-above-clause-leaf : goal.returns-then-own-above-clause-leaf
returns-then-own-above-clause-leaf g c =
    let kept : IsKept c.args.best.now c.in_ok-own.tree c.if-tree-best.best =
    elim c.if-tree-best.branch [
      | then-tree-best w ↦ inl (w.best-is, omega (arith, ints, w.if-tree-best.true))
      | else-tree-best w ↦ inr (w.best-is, omega (arith, ints, w.if-tree-best.false))
    ] in
    IsLeaf-better c.args.graph.now c.args.allowed.now c.in_ok-own.tree.score c.if-tree-best.best.score
    c.in_ok-own.own.cert c.in_ok-own.own.total
    (kept-new c.args.best.now c.in_ok-own.tree c.if-tree-best.best kept) c.in_ok-own.ensures.leaf

pub returns-then-own-above-clause-best : goal.returns-then-own-above-clause-best
returns-then-own-above-clause-best g c =
    let kept : IsKept c.args.best.now c.in_ok-own.tree c.if-tree-best.best =
    elim c.if-tree-best.branch [
      | then-tree-best w ↦ inl (w.best-is, omega (arith, ints, w.if-tree-best.true))
      | else-tree-best w ↦ inr (w.best-is, omega (arith, ints, w.if-tree-best.false))
    ] in
    kept-tree c.args.graph.now c.args.best.now c.in_ok-own.tree c.if-tree-best.best kept c.requires.best
    c.in_ok-own.ensures.tree

pub returns-then-own-above-clause-better : goal.returns-then-own-above-clause-better
returns-then-own-above-clause-better g c =
    let kept : IsKept c.args.best.now c.in_ok-own.tree c.if-tree-best.best =
    elim c.if-tree-best.branch [
      | then-tree-best w ↦ inl (w.best-is, omega (arith, ints, w.if-tree-best.true))
      | else-tree-best w ↦ inr (w.best-is, omega (arith, ints, w.if-tree-best.false))
    ] in
    kept-old c.args.best.now c.in_ok-own.tree c.if-tree-best.best kept

pub returns-in_ok-cert-clause-leaf : goal.returns-in_ok-cert-clause-leaf
returns-in_ok-cert-clause-leaf g c =
    let graph = c.args.graph.now in
    let allowed = c.args.allowed.now in
    let kept : IsKept c.args.best.now c.in_ok-own.tree c.if-tree-best.best =
    elim c.if-tree-best.branch [
      | then-tree-best w ↦ inl (w.best-is, omega (arith, ints, w.if-tree-best.true))
      | else-tree-best w ↦ inr (w.best-is, omega (arith, ints, w.if-tree-best.false))
    ] in
    let own = IsLeaf-better graph allowed c.in_ok-own.tree.score c.if-tree-best.best.score c.in_ok-own.own.cert
    c.in_ok-own.own.total (kept-new c.args.best.now c.in_ok-own.tree c.if-tree-best.best kept)
    c.in_ok-own.ensures.leaf in
    leaf-above graph allowed c.if-tree-best.best.score c.in_ok-own.own.cert c.in_ok-own.own.total c.args.above.now.cert
    c.in_ok-cert.cert c.args.above.now.total _ own c.requires.holds c.requires.total
    (omega (arith, ints, c.if-own-above.false))
    c.in_ok-cert.ensures (omega (arith, ints))

pub returns-in_ok-cert-clause-best : goal.returns-in_ok-cert-clause-best
returns-in_ok-cert-clause-best g c =
    let kept : IsKept c.args.best.now c.in_ok-own.tree c.if-tree-best.best =
    elim c.if-tree-best.branch [
      | then-tree-best w ↦ inl (w.best-is, omega (arith, ints, w.if-tree-best.true))
      | else-tree-best w ↦ inr (w.best-is, omega (arith, ints, w.if-tree-best.false))
    ] in
    kept-tree c.args.graph.now c.args.best.now c.in_ok-own.tree c.if-tree-best.best kept c.requires.best
    c.in_ok-own.ensures.tree

pub returns-in_ok-cert-clause-better : goal.returns-in_ok-cert-clause-better
returns-in_ok-cert-clause-better g c =
    let kept : IsKept c.args.best.now c.in_ok-own.tree c.if-tree-best.best =
    elim c.if-tree-best.branch [
      | then-tree-best w ↦ inl (w.best-is, omega (arith, ints, w.if-tree-best.true))
      | else-tree-best w ↦ inr (w.best-is, omega (arith, ints, w.if-tree-best.false))
    ] in
    kept-old c.args.best.now c.in_ok-own.tree c.if-tree-best.best kept
