use Rattle.std.proofs.Common.{◌≡◌, ◌<◌, ap, arith}
use Rattle.tree_certificate.specs.BoundHolds.{depth_of, splits_of}
use Rattle.tree_certificate.specs.BoundView.{bound_value}
use Rattle.tree_certificate.proofs.BoundValues.{depth_of_split, splits_of_split}
use Rattle.tree_certificate.proofs.bound.+depth.Goals as goal

pub depth-requires : goal.depth-requires
depth-requires t c =
    let count = splits_of_split c.args.bound.now c.in-Split.field-0 c.in-Split.field-1 c.in-Split.first
    c.in-Split.second c.in-Split.is in
    let deep = depth_of_split c.args.bound.now c.in-Split.field-0 c.in-Split.field-1 c.in-Split.first c.in-Split.second
    c.in-Split.is in
    let one = ap (λ b. splits_of (bound_value b)) c.get.ensures in
    let other = ap (λ b. depth_of (bound_value b)) c.get.ensures in
    let at : splits_of (bound_value c.args.bound.now) ≡ t = c.decreases in
    let falls : splits_of (bound_value c.get.result.now) < t = omega (arith, count, one, at) in
    (falls, omega (arith, deep, other, c.requires.depth))

pub depth-requires-in-Split : goal.depth-requires-in-Split
depth-requires-in-Split t c =
    let count = splits_of_split c.args.bound.now c.in-Split.field-0 c.in-Split.field-1 c.in-Split.first
    c.in-Split.second c.in-Split.is in
    let deep = depth_of_split c.args.bound.now c.in-Split.field-0 c.in-Split.field-1 c.in-Split.first c.in-Split.second
    c.in-Split.is in
    let one = ap (λ b. splits_of (bound_value b)) c.get-in-Split.ensures in
    let other = ap (λ b. depth_of (bound_value b)) c.get-in-Split.ensures in
    let at : splits_of (bound_value c.args.bound.now) ≡ t = c.decreases in
    let falls : splits_of (bound_value c.get-in-Split.result.now) < t = omega (arith, count, one, at) in
    (falls, omega (arith, deep, other, c.requires.depth))

pub overflow_add-result : goal.overflow_add-result
overflow_add-result t c =
    let deep = depth_of_split c.args.bound.now c.in-Split.field-0 c.in-Split.field-1 c.in-Split.first c.in-Split.second
    c.in-Split.is in
    let one = ap (λ b. depth_of (bound_value b)) c.get.ensures in
    let other = ap (λ b. depth_of (bound_value b)) c.get-in-Split.ensures in
    omega (arith, deep, one, other, c.requires.depth, c.depth.ensures, c.depth-in-Split.ensures, c.max.ensures)

pub returns-in-Split : goal.returns-in-Split
returns-in-Split t c =
    let deep = depth_of_split c.args.bound.now c.in-Split.field-0 c.in-Split.field-1 c.in-Split.first c.in-Split.second
    c.in-Split.is in
    let one = ap (λ b. depth_of (bound_value b)) c.get.ensures in
    let other = ap (λ b. depth_of (bound_value b)) c.get-in-Split.ensures in
    omega (arith, deep, one, other, c.depth.ensures, c.depth-in-Split.ensures, c.max.ensures)
