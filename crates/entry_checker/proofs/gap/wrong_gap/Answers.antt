use Rattle.std.proofs.Common.{◌≡◌, ◌∙◌, [], ap, arith, sym, to_z, w64}
use Rattle.std.proofs.lemmas.Int.{to_z-of_z}
use Rattle.colour_graph.specs.EdgeSet.{all_edges}
use Rattle.tree_certificate.specs.BoundHolds.{splits_of}
use Rattle.tree_certificate.specs.BoundView.{bound_value}
use Rattle.tree_certificate.specs.Spent.{IsGreatestTotal}
use Rattle.entry_checker.proofs.Totals.{HasTotals-holds}
use Rattle.entry_checker.specs.GapPlaces.{UpperIsReached, all_leaves}
use Rattle.entry_checker.proofs.gap.wrong_gap.Goals as goal

pub greatest_total-greatest-requires-clause-totals : goal.greatest_total-greatest-requires-clause-totals
greatest_total-greatest-requires-clause-totals c =
    HasTotals-holds c.args.graph.now (all_edges c.args.graph.now)
    (bound_value c.args.bound.now) c.args.upper c.requires.holds

pub returns : goal.returns
returns c =
    let graph = c.args.graph.now in
    let bound = bound_value c.args.bound.now in
    let score_is = to_z-of_z w64 c.args.score c.ranges.score in
    let upper_is = to_z-of_z w64 c.args.upper c.ranges.upper in
    let count : splits_of bound ≡ c.args.budget =
    omega (arith, c.splits-splits.ensures, c.from.ensures, c.if-splits-from.false) in
    let most = c.greatest_total-greatest.result in
    let most_is : most ≡ c.args.upper = sym (to_z-of_z w64 most (record { sfits = c.greatest_total-greatest.type_inv }))
    ∙ ap (to_z w64) c.if-greatest-upper.false ∙ upper_is in
    let reached : IsGreatestTotal graph (all_leaves graph bound) most =
    c.greatest_total-greatest.ensures (all_edges graph) 0 in
    let greatest : UpperIsReached graph bound c.args.upper c.args.budget =
    record { splits = count; greatest = rw most_is at reached } in
    let start = c.nothing_found-found.ensures.gathered graph _ _ in
    let gathered = c.in_ok-look_at.ensures.gathered [] [] start in
    c.first_place.ensures graph bound c.args.score c.args.upper c.args.budget greatest
    (rw (score_is, upper_is, c.in_ok-allowed.ensures.all, c.nothing_found-found.ensures.next) at gathered)
