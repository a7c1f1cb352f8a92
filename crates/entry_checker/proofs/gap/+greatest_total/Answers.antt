use Rattle.std.proofs.Common.{◌≡◌, ◌<◌, ◌∙◌, ap, arith, of_z, to_z, w64}
use Rattle.std.proofs.lemmas.Int.{to_z-of_z}
use Rattle.std.specs.Int.{int_max}
use Rattle.tree_certificate.proofs.BoundValues.{depth_of_split, splits_of_split}
use Rattle.tree_certificate.specs.BoundHolds.{depth_of, splits_of}
use Rattle.tree_certificate.specs.BoundView.{bound_value}
use Rattle.entry_checker.proofs.Totals.{HasTotals-split, IsGreatestOf-priced, IsGreatestOf-split}
use Rattle.entry_checker.proofs.gap.+greatest_total.Goals as goal

pub greatest_total-requires : goal.greatest_total-requires
greatest_total-requires t c =
    let count = splits_of_split c.args.bound.now c.in-Split.field-0 c.in-Split.field-1 c.in-Split.first
    c.in-Split.second c.in-Split.is in
    let deep = depth_of_split c.args.bound.now c.in-Split.field-0 c.in-Split.field-1 c.in-Split.first c.in-Split.second
    c.in-Split.is in
    let has = HasTotals-split c.args.graph.now c.args.bound.now c.in-Split.field-0 c.in-Split.field-1 c.in-Split.first
    c.in-Split.second c.in-Split.is c.requires.totals in
    let one = ap (λ b. splits_of (bound_value b)) c.get.ensures in
    let other = ap (λ b. depth_of (bound_value b)) c.get.ensures in
    let at : splits_of (bound_value c.args.bound.now) ≡ t = c.decreases in
    let falls : splits_of (bound_value c.get.result.now) < t = omega (arith, count, one, at) in
    (falls, (c.requires.vertices, (omega (arith, deep, other, c.requires.depth), rw c.get.ensures has.0)))

pub greatest_total-requires-in-Split : goal.greatest_total-requires-in-Split
greatest_total-requires-in-Split t c =
    let count = splits_of_split c.args.bound.now c.in-Split.field-0 c.in-Split.field-1 c.in-Split.first
    c.in-Split.second c.in-Split.is in
    let deep = depth_of_split c.args.bound.now c.in-Split.field-0 c.in-Split.field-1 c.in-Split.first c.in-Split.second
    c.in-Split.is in
    let has = HasTotals-split c.args.graph.now c.args.bound.now c.in-Split.field-0 c.in-Split.field-1 c.in-Split.first
    c.in-Split.second c.in-Split.is c.requires.totals in
    let one = ap (λ b. splits_of (bound_value b)) c.get-in-Split.ensures in
    let other = ap (λ b. depth_of (bound_value b)) c.get-in-Split.ensures in
    let at : splits_of (bound_value c.args.bound.now) ≡ t = c.decreases in
    let falls : splits_of (bound_value c.get-in-Split.result.now) < t = omega (arith, count, one, at) in
    (falls, (c.requires.vertices, (omega (arith, deep, other, c.requires.depth), rw c.get-in-Split.ensures has.1)))

pub returns-in-Priced : goal.returns-in-Priced
returns-in-Priced t c =
    let total_is = to_z-of_z w64 c.total_of.result (record { sfits = c.total_of.type_inv }) in
    IsGreatestOf-priced c.args.graph.now c.args.bound.now c.in-Priced.cert _ c.in-Priced.is (total_is
    ∙ c.total_of.ensures)

pub returns-in-Split : goal.returns-in-Split
returns-in-Split t c =
    let graph = c.args.graph.now in
    let one = c.greatest_total.result in
    let other = c.greatest_total-in-Split.result in
    let one_is = to_z-of_z w64 one (record { sfits = c.greatest_total.type_inv }) in
    let other_is = to_z-of_z w64 other (record { sfits = c.greatest_total-in-Split.type_inv }) in
    let most_is = to_z-of_z w64 c.max.result (record { sfits = c.max.type_inv }) in
    IsGreatestOf-split graph c.args.bound.now c.in-Split.field-0 c.in-Split.field-1 c.in-Split.first c.in-Split.second
    one other _ c.in-Split.is
    (rw c.get.ensures at c.greatest_total.ensures) (rw c.get-in-Split.ensures at c.greatest_total-in-Split.ensures)
    (most_is ∙ c.max.ensures.value ∙ ap (λ n. int_max n (to_z w64 (of_z w64 other))) one_is ∙ ap (int_max one) other_is)
