use Rattle.std.proofs.Common.{◌≡◌, ap, arith, w64, to_z, of_z, ◌∙◌}
use Rattle.std.proofs.lemmas.Int.{ints}
use Rattle.colour_graph.specs.EdgeSet.{leaving, only}
use Rattle.branch_search.specs.inside.Growing.{grown_of, leaf}
use Rattle.branch_search.proofs.GrowSteps.{Stands-split, fork-leaves, joined}
use Rattle.branch_search.proofs.NodeValues.{grown_of_leaf}
use Rattle.branch_search.proofs.Sides.{split-in_range}
use Rattle.branch_search.proofs.Smaller.{PriceHolds-smaller, leaving-smaller, only-smaller}
use Rattle.branch_search.proofs.growing.split_leaf.Goals as goal

pub only-requires-clause-in_range : goal.only-requires-clause-in_range
only-requires-clause-in_range g c =
    rw c.deref.ensures.value (split-in_range c.args.graph.now c.args.allowed.now c.unwrap-colour.result
    c.in_ok-part.part.items c.in_ok-part.ensures.is_split c.requires.set)

pub side_leaf-requires-clause-holds : goal.side_leaf-requires-clause-holds
side_leaf-requires-clause-holds g c =
    let graph = c.args.graph.now in
    let allowed = c.args.allowed.now in
    let part = c.deref.result.now in
    rw c.in_ok-only.ensures.only (PriceHolds-smaller graph allowed (only graph allowed c.unwrap-colour.result part)
    c.args.above.cert (only-smaller graph allowed c.unwrap-colour.result part) c.requires.leaf.holds)

pub without-requires : goal.without-requires
without-requires g c =
    rw c.deref-2.ensures.value (split-in_range c.args.graph.now c.args.allowed.now c.unwrap-colour.result
    c.in_ok-part.part.items c.in_ok-part.ensures.is_split c.requires.set)

pub side_leaf-requires-2-clause-holds : goal.side_leaf-requires-2-clause-holds
side_leaf-requires-2-clause-holds g c =
    let allowed = c.args.allowed.now in
    let part = c.deref-2.result.now in
    rw c.in_ok-without.ensures.left (PriceHolds-smaller c.args.graph.now allowed (leaving allowed part)
    c.args.above.cert (leaving-smaller allowed part) c.requires.leaf.holds)

pub returns-clause-stands : goal.returns-clause-stands
returns-clause-stands g c =
    let graph = c.args.graph.now in
    let allowed = c.args.allowed.now in
    let colour = c.unwrap-colour.result in
    let part = c.in_ok-part.part.items in
    let first = c.in_ok-first.first in
    let second = c.in_ok-second.second in
    let one : to_z w64 (of_z w64 first.total) ≡ first.total = omega (arith, ints) in
    let other : to_z w64 (of_z w64 second.total) ≡ second.total = omega (arith, ints) in
    let left : grown_of c.in_ok-first-2.first ≡ leaf first.cert first.total =
    ap grown_of c.in_ok-first-2.ensures ∙ grown_of_leaf first.cert (to_z w64 (of_z w64 first.total))
    ∙ ap (leaf first.cert) one in
    let right : grown_of c.in_ok-second-2.second ≡ leaf second.cert second.total =
    ap grown_of c.in_ok-second-2.ensures ∙ grown_of_leaf second.cert (to_z w64 (of_z w64 second.total))
    ∙ ap (leaf second.cert) other in
    let only_is = c.in_ok-only.ensures.only ∙ ap (only graph allowed colour) c.deref.ensures.value in
    let leaving_is = c.in_ok-without.ensures.left ∙ ap (leaving allowed) c.deref-2.ensures.value in
    Stands-split graph allowed c.side_leaf-2.new.best.score c.side_leaf.new.best.score c.args.above.total colour part
    first.cert second.cert first.total second.total (grown_of c.fork_of.result)
    (fork-leaves (grown_of c.fork_of.result) (grown_of c.in_ok-first-2.first) (grown_of c.in_ok-second-2.second) colour
    c.from_vec.result part first.cert second.cert first.total second.total c.fork_of.ensures c.from_vec.ensures left
    right)
    c.in_ok-part.ensures c.requires.leaf.capped c.in_ok-second.ensures.better
    (rw only_is at c.in_ok-first.ensures.leaf) (rw leaving_is at c.in_ok-second.ensures.leaf)

pub returns-clause-better : goal.returns-clause-better
returns-clause-better g c =
    joined c.args.best.now.score c.side_leaf.new.best.score c.side_leaf-2.new.best.score c.in_ok-first.ensures.better
    c.in_ok-second.ensures.better
