use Rattle.std.proofs.Common.{◌≡◌, ◌<◌, ◌+◌, ◌≤ℤ◌, ◌<ℤ◌, ℤ, ap, arith, subst, sym, ◌∙◌}
use Rattle.std.proofs.lemmas.Int.{ints}
use Rattle.std.specs.Int.{int_max}
use Rattle.colour_graph.specs.EdgeSet.{IsSetOf, leaving, only}
use Rattle.branch_search.specs.inside.Growing.{Grown, Stands, fork, grown_of, splits_in, total_in}
use Rattle.branch_search.proofs.GrowSteps.{give-first, give-second, half-of, take-first, take-second, total-first}
use Rattle.branch_search.proofs.GrowSteps.{total-given-first, total-given-second, total-second}
use Rattle.branch_search.proofs.NodeValues.{grown_of_fork}
use Rattle.branch_search.proofs.Sides.{split-in_range}
use Rattle.branch_search.proofs.growing.+grown.Goals as goal

pub only-requires-clause-in_range : goal.only-requires-clause-in_range
only-requires-clause-in_range g t c =
    let graph = c.args.graph.now in
    let allowed = c.args.allowed in
    let score = c.args.best.now.score in
    let node = grown_of c.args.node in
    let colour = c.in-Fork.colour in
    let part = c.in-Fork.part in
    let first = grown_of c.in-Fork.first in
    let second = grown_of c.in-Fork.second in
    let is : node ≡ fork c.in-Fork.field-0 colour part first second =
    ap grown_of c.in-Fork.is ∙ grown_of_fork c.in-Fork.field-0 colour part c.in-Fork.first c.in-Fork.second in
    let half = half-of graph allowed score node c.in-Fork.field-0 colour part first second is c.requires.stands in
    rw c.as_slice.ensures (split-in_range graph allowed colour part half.is_split c.requires.set)

pub grown-requires : goal.grown-requires
grown-requires g t c =
    let graph = c.args.graph.now in
    let allowed = c.args.allowed in
    let score = c.args.best.now.score in
    let node = grown_of c.args.node in
    let colour = c.in-Fork.colour in
    let part = c.in-Fork.part in
    let first = grown_of c.in-Fork.first in
    let second = grown_of c.in-Fork.second in
    let is : node ≡ fork c.in-Fork.field-0 colour part first second =
    ap grown_of c.in-Fork.is ∙ grown_of_fork c.in-Fork.field-0 colour part c.in-Fork.first c.in-Fork.second in
    let other : c.total.result ≡ total_in second = c.total.ensures ∙ ap (λ n. total_in (grown_of n)) c.get.ensures in
    let one : c.total-in-Fork.result ≡ total_in first =
    c.total-in-Fork.ensures ∙ ap (λ n. total_in (grown_of n)) c.get-in-Fork.ensures in
    let low : total_in second ≤ℤ total_in first = omega (arith, ints, one, other, c.if-total.true) in
    let side = c.in_ok-side-in-Fork.side in
    let same : side ≡ only graph allowed colour part =
    c.in_ok-side-in-Fork.ensures.only ∙ ap (only graph allowed colour) c.as_slice.ensures in
    let inside : grown_of c.into_inner.result ≡ first = ap grown_of c.into_inner.ensures in
    let stands : Stands graph side score (total_in (grown_of c.into_inner.result)) (grown_of c.into_inner.result) =
    rw (same, inside) (take-first graph allowed score node c.in-Fork.field-0 colour part first second is
    c.requires.stands low) in
    let total = total-first graph allowed score node c.in-Fork.field-0 colour part first second is
    c.requires.stands low in
    let more : score <ℤ total_in (grown_of c.into_inner.result) =
    subst (λ (n : ℤ). score <ℤ n) (total ∙ sym (ap total_in inside)) c.requires.open in
    let count : splits_in node ≡ 1 + splits_in first + splits_in second = ap splits_in is in
    let at : splits_in node ≡ t = c.decreases in
    let falls : splits_in (grown_of c.into_inner.result) < t = omega (arith, count, at, ap splits_in inside) in
    (falls, (c.requires.vertices, (c.in_ok-side-in-Fork.ensures.set, (stands, (more, c.requires.best)))))

pub returns-then-total-clause-stands : goal.returns-then-total-clause-stands
returns-then-total-clause-stands g t c =
    let graph = c.args.graph.now in
    let allowed = c.args.allowed in
    let score = c.args.best.now.score in
    let node = grown_of c.args.node in
    let colour = c.in-Fork.colour in
    let part = c.in-Fork.part in
    let first = grown_of c.in-Fork.first in
    let second = grown_of c.in-Fork.second in
    let is : node ≡ fork c.in-Fork.field-0 colour part first second =
    ap grown_of c.in-Fork.is ∙ grown_of_fork c.in-Fork.field-0 colour part c.in-Fork.first c.in-Fork.second in
    let other : c.total.result ≡ total_in second = c.total.ensures ∙ ap (λ n. total_in (grown_of n)) c.get.ensures in
    let one : c.total-in-Fork.result ≡ total_in first =
    c.total-in-Fork.ensures ∙ ap (λ n. total_in (grown_of n)) c.get-in-Fork.ensures in
    let low : total_in second ≤ℤ total_in first = omega (arith, ints, one, other, c.if-total.true) in
    let side = grown_of c.in_ok-first-in-Fork.first in
    let made : grown_of c.fork_of.result ≡ fork (int_max (total_in side) (total_in second)) colour part side second =
    c.fork_of.ensures
    ∙ ap (λ n. fork (int_max (total_in (grown_of n)) (total_in second)) colour part (grown_of n) second)
    c.in_ok-first-in-Fork-2.ensures in
    let same : c.in_ok-side-in-Fork.side ≡ only graph allowed colour part =
    c.in_ok-side-in-Fork.ensures.only ∙ ap (only graph allowed colour) c.as_slice.ensures in
    let inside : grown_of c.into_inner.result ≡ first = ap grown_of c.into_inner.ensures in
    let stands : Stands graph (only graph allowed colour part) c.grown.new.best.score (total_in first) side =
    rw (same, inside) at c.in_ok-first-in-Fork.ensures.stands in
    give-first graph allowed score node c.in-Fork.field-0 colour part first second is c.requires.stands
    c.grown.new.best.score
    c.in_ok-first-in-Fork.ensures.better (grown_of c.fork_of.result) side low made stands

pub returns-then-total-clause-less : goal.returns-then-total-clause-less
returns-then-total-clause-less g t c =
    let graph = c.args.graph.now in
    let allowed = c.args.allowed in
    let score = c.args.best.now.score in
    let node = grown_of c.args.node in
    let colour = c.in-Fork.colour in
    let part = c.in-Fork.part in
    let first = grown_of c.in-Fork.first in
    let second = grown_of c.in-Fork.second in
    let is : node ≡ fork c.in-Fork.field-0 colour part first second =
    ap grown_of c.in-Fork.is ∙ grown_of_fork c.in-Fork.field-0 colour part c.in-Fork.first c.in-Fork.second in
    let other : c.total.result ≡ total_in second = c.total.ensures ∙ ap (λ n. total_in (grown_of n)) c.get.ensures in
    let one : c.total-in-Fork.result ≡ total_in first =
    c.total-in-Fork.ensures ∙ ap (λ n. total_in (grown_of n)) c.get-in-Fork.ensures in
    let low : total_in second ≤ℤ total_in first = omega (arith, ints, one, other, c.if-total.true) in
    let side = grown_of c.in_ok-first-in-Fork.first in
    let made : grown_of c.fork_of.result ≡ fork (int_max (total_in side) (total_in second)) colour part side second =
    c.fork_of.ensures
    ∙ ap (λ n. fork (int_max (total_in (grown_of n)) (total_in second)) colour part (grown_of n) second)
    c.in_ok-first-in-Fork-2.ensures in
    let inside : grown_of c.into_inner.result ≡ first = ap grown_of c.into_inner.ensures in
    let less : total_in side ≤ℤ total_in first =
    subst (λ (n : Grown). total_in side ≤ℤ total_in n) inside c.in_ok-first-in-Fork.ensures.less in
    total-given-first graph allowed score node c.in-Fork.field-0 colour part first second is c.requires.stands
    c.grown.new.best.score
    c.in_ok-first-in-Fork.ensures.better (grown_of c.fork_of.result) side low made less

pub returns-then-total-clause-splits : goal.returns-then-total-clause-splits
returns-then-total-clause-splits g t c =
    let node = grown_of c.args.node in
    let colour = c.in-Fork.colour in
    let part = c.in-Fork.part in
    let first = grown_of c.in-Fork.first in
    let second = grown_of c.in-Fork.second in
    let is : node ≡ fork c.in-Fork.field-0 colour part first second =
    ap grown_of c.in-Fork.is ∙ grown_of_fork c.in-Fork.field-0 colour part c.in-Fork.first c.in-Fork.second in
    let side = grown_of c.in_ok-first-in-Fork.first in
    let made : grown_of c.fork_of.result ≡ fork (int_max (total_in side) (total_in second)) colour part side second =
    c.fork_of.ensures
    ∙ ap (λ n. fork (int_max (total_in (grown_of n)) (total_in second)) colour part (grown_of n) second)
    c.in_ok-first-in-Fork-2.ensures in
    let inside : grown_of c.into_inner.result ≡ first = ap grown_of c.into_inner.ensures in
    let count : splits_in node ≡ 1 + splits_in first + splits_in second = ap splits_in is in
    let new : splits_in (grown_of c.fork_of.result) ≡ 1 + splits_in side + splits_in second = ap splits_in made in
    omega (arith, count, new, ap splits_in inside, c.in_ok-first-in-Fork.ensures.splits)

pub without-requires : goal.without-requires
without-requires g t c =
    let graph = c.args.graph.now in
    let allowed = c.args.allowed in
    let score = c.args.best.now.score in
    let node = grown_of c.args.node in
    let colour = c.in-Fork.colour in
    let part = c.in-Fork.part in
    let first = grown_of c.in-Fork.first in
    let second = grown_of c.in-Fork.second in
    let is : node ≡ fork c.in-Fork.field-0 colour part first second =
    ap grown_of c.in-Fork.is ∙ grown_of_fork c.in-Fork.field-0 colour part c.in-Fork.first c.in-Fork.second in
    let half = half-of graph allowed score node c.in-Fork.field-0 colour part first second is c.requires.stands in
    rw c.as_slice-else-total.ensures (split-in_range graph allowed colour part half.is_split c.requires.set)

pub grown-requires-else-total : goal.grown-requires-else-total
grown-requires-else-total g t c =
    let graph = c.args.graph.now in
    let allowed = c.args.allowed in
    let score = c.args.best.now.score in
    let node = grown_of c.args.node in
    let colour = c.in-Fork.colour in
    let part = c.in-Fork.part in
    let first = grown_of c.in-Fork.first in
    let second = grown_of c.in-Fork.second in
    let is : node ≡ fork c.in-Fork.field-0 colour part first second =
    ap grown_of c.in-Fork.is ∙ grown_of_fork c.in-Fork.field-0 colour part c.in-Fork.first c.in-Fork.second in
    let other : c.total.result ≡ total_in second = c.total.ensures ∙ ap (λ n. total_in (grown_of n)) c.get.ensures in
    let one : c.total-in-Fork.result ≡ total_in first =
    c.total-in-Fork.ensures ∙ ap (λ n. total_in (grown_of n)) c.get-in-Fork.ensures in
    let low : total_in first <ℤ total_in second = omega (arith, ints, one, other, c.if-total.false) in
    let side = c.in_ok-side-in-Fork-2.side in
    let set : IsSetOf graph side = c.in_ok-side-in-Fork-2.ensures.same_length ∙ c.requires.set in
    let same : side ≡ leaving allowed part =
    c.in_ok-side-in-Fork-2.ensures.left ∙ ap (leaving allowed) c.as_slice-else-total.ensures in
    let inside : grown_of c.into_inner-else-total.result ≡ second = ap grown_of c.into_inner-else-total.ensures in
    let stands : Stands graph side score (total_in (grown_of c.into_inner-else-total.result))
    (grown_of c.into_inner-else-total.result) =
    rw (same, inside) (take-second graph allowed score node c.in-Fork.field-0 colour part first second is
    c.requires.stands low) in
    let total = total-second graph allowed score node c.in-Fork.field-0 colour part first second is
    c.requires.stands low in
    let more : score <ℤ total_in (grown_of c.into_inner-else-total.result) =
    subst (λ (n : ℤ). score <ℤ n) (total ∙ sym (ap total_in inside)) c.requires.open in
    let count : splits_in node ≡ 1 + splits_in first + splits_in second = ap splits_in is in
    let at : splits_in node ≡ t = c.decreases in
    let falls : splits_in (grown_of c.into_inner-else-total.result) < t =
    omega (arith, count, at, ap splits_in inside) in
    (falls, (c.requires.vertices, (set, (stands, (more, c.requires.best)))))

pub returns-clause-stands : goal.returns-clause-stands
returns-clause-stands g t c =
    let graph = c.args.graph.now in
    let allowed = c.args.allowed in
    let score = c.args.best.now.score in
    let node = grown_of c.args.node in
    let colour = c.in-Fork.colour in
    let part = c.in-Fork.part in
    let first = grown_of c.in-Fork.first in
    let second = grown_of c.in-Fork.second in
    let is : node ≡ fork c.in-Fork.field-0 colour part first second =
    ap grown_of c.in-Fork.is ∙ grown_of_fork c.in-Fork.field-0 colour part c.in-Fork.first c.in-Fork.second in
    let other : c.total.result ≡ total_in second = c.total.ensures ∙ ap (λ n. total_in (grown_of n)) c.get.ensures in
    let one : c.total-in-Fork.result ≡ total_in first =
    c.total-in-Fork.ensures ∙ ap (λ n. total_in (grown_of n)) c.get-in-Fork.ensures in
    let low : total_in first <ℤ total_in second = omega (arith, ints, one, other, c.if-total.false) in
    let side = grown_of c.in_ok-second-in-Fork.second in
    let made : grown_of c.fork_of-else-total.result ≡ fork (int_max (total_in first) (total_in side)) colour part
    first side =
    c.fork_of-else-total.ensures
    ∙ ap (λ n. fork (int_max (total_in first) (total_in (grown_of n))) colour part first (grown_of n))
    c.in_ok-second-in-Fork-2.ensures in
    let same : c.in_ok-side-in-Fork-2.side ≡ leaving allowed part =
    c.in_ok-side-in-Fork-2.ensures.left ∙ ap (leaving allowed) c.as_slice-else-total.ensures in
    let inside : grown_of c.into_inner-else-total.result ≡ second = ap grown_of c.into_inner-else-total.ensures in
    let stands : Stands graph (leaving allowed part) c.grown-else-total.new.best.score (total_in second) side =
    rw (same, inside) at c.in_ok-second-in-Fork.ensures.stands in
    give-second graph allowed score node c.in-Fork.field-0 colour part first second is c.requires.stands
    c.grown-else-total.new.best.score
    c.in_ok-second-in-Fork.ensures.better (grown_of c.fork_of-else-total.result) side low made stands

pub returns-clause-less : goal.returns-clause-less
returns-clause-less g t c =
    let graph = c.args.graph.now in
    let allowed = c.args.allowed in
    let score = c.args.best.now.score in
    let node = grown_of c.args.node in
    let colour = c.in-Fork.colour in
    let part = c.in-Fork.part in
    let first = grown_of c.in-Fork.first in
    let second = grown_of c.in-Fork.second in
    let is : node ≡ fork c.in-Fork.field-0 colour part first second =
    ap grown_of c.in-Fork.is ∙ grown_of_fork c.in-Fork.field-0 colour part c.in-Fork.first c.in-Fork.second in
    let other : c.total.result ≡ total_in second = c.total.ensures ∙ ap (λ n. total_in (grown_of n)) c.get.ensures in
    let one : c.total-in-Fork.result ≡ total_in first =
    c.total-in-Fork.ensures ∙ ap (λ n. total_in (grown_of n)) c.get-in-Fork.ensures in
    let low : total_in first <ℤ total_in second = omega (arith, ints, one, other, c.if-total.false) in
    let side = grown_of c.in_ok-second-in-Fork.second in
    let made : grown_of c.fork_of-else-total.result ≡ fork (int_max (total_in first) (total_in side)) colour part
    first side =
    c.fork_of-else-total.ensures
    ∙ ap (λ n. fork (int_max (total_in first) (total_in (grown_of n))) colour part first (grown_of n))
    c.in_ok-second-in-Fork-2.ensures in
    let inside : grown_of c.into_inner-else-total.result ≡ second = ap grown_of c.into_inner-else-total.ensures in
    let less : total_in side ≤ℤ total_in second =
    subst (λ (n : Grown). total_in side ≤ℤ total_in n) inside c.in_ok-second-in-Fork.ensures.less in
    total-given-second graph allowed score node c.in-Fork.field-0 colour part first second is c.requires.stands
    c.grown-else-total.new.best.score
    c.in_ok-second-in-Fork.ensures.better (grown_of c.fork_of-else-total.result) side low made less

pub returns-clause-splits : goal.returns-clause-splits
returns-clause-splits g t c =
    let node = grown_of c.args.node in
    let colour = c.in-Fork.colour in
    let part = c.in-Fork.part in
    let first = grown_of c.in-Fork.first in
    let second = grown_of c.in-Fork.second in
    let is : node ≡ fork c.in-Fork.field-0 colour part first second =
    ap grown_of c.in-Fork.is ∙ grown_of_fork c.in-Fork.field-0 colour part c.in-Fork.first c.in-Fork.second in
    let side = grown_of c.in_ok-second-in-Fork.second in
    let made : grown_of c.fork_of-else-total.result ≡ fork (int_max (total_in first) (total_in side)) colour part
    first side =
    c.fork_of-else-total.ensures
    ∙ ap (λ n. fork (int_max (total_in first) (total_in (grown_of n))) colour part first (grown_of n))
    c.in_ok-second-in-Fork-2.ensures in
    let inside : grown_of c.into_inner-else-total.result ≡ second = ap grown_of c.into_inner-else-total.ensures in
    let count : splits_in node ≡ 1 + splits_in first + splits_in second = ap splits_in is in
    let new : splits_in (grown_of c.fork_of-else-total.result) ≡ 1 + splits_in first + splits_in side =
    ap splits_in made in
    omega (arith, count, new, ap splits_in inside, c.in_ok-second-in-Fork.ensures.splits)
