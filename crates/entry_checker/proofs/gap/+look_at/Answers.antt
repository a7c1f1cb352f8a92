use Rattle.std.proofs.Common.{◌≡◌, ◌+◌, ◌<◌, ◌∙◌, ℕ, ap, arith, length, refl, sym}
use Rattle.colour_graph.specs.EdgeSet.{leaving}
use Rattle.tree_certificate.proofs.BoundValues.{depth_of_split, splits_of_split}
use Rattle.tree_certificate.specs.BoundHolds.{depth_of, splits_of, nodes_of}
use Rattle.tree_certificate.specs.BoundView.{bound_value}
use Rattle.entry_checker.proofs.Looking.{HoldsBySides, IsFirstSide, first_side}
use Rattle.entry_checker.proofs.Looking.{first_side-in_range, first_side-long, first_side-undone}
use Rattle.entry_checker.proofs.Looking.{gathered_leaf, gathered_sides, holds_by_sides, nodes_of_split}
use Rattle.entry_checker.proofs.Looking.{second_side-long}
use Rattle.certificate_checker.proofs.SplitSides.{leaving-undone, split-in_range}
use Rattle.certificate_checker.specs.inside.Sides.{adding}
use Rattle.entry_checker.proofs.gap.+look_at.Goals as goal
use Rattle.entry_checker.proofs.gap.+look_at.Goals.{After-give_back, After-take_part, In-Split, In_ok-look_at-in-Split}

-- the splits of a bound are one more than those of its sides
counted : (t : ℕ) (c : In-Split t)
    → splits_of (bound_value c.args.bound.now)
    ≡ 1 + splits_of (bound_value c.in-Split.first) + splits_of (bound_value c.in-Split.second)
counted t c = splits_of_split c.args.bound.now c.in-Split.colour c.in-Split.part c.in-Split.first c.in-Split.second
    c.in-Split.is

-- what holds of them
held : (t : ℕ) (c : In-Split t)
    → HoldsBySides c.args.graph.now c.args.allowed.now c.in-Split.colour c.in-Split.part
    (bound_value c.in-Split.first) (bound_value c.in-Split.second) c.args.gap.upper
held t c = holds_by_sides c.args.graph.now c.args.allowed.now c.args.bound.now c.in-Split.colour c.in-Split.part
    c.in-Split.first c.in-Split.second c.args.gap.upper c.in-Split.is c.requires.holds

-- the first side, when it was looked at
first_is : (t : ℕ) (c : In_ok-look_at-in-Split t)
    → IsFirstSide c.args.graph.now c.args.allowed.now c.look_at.new.allowed c.in-Split.colour c.in-Split.part
    c.args.taken.now.items c.look_at.new.taken.items
first_is t c =
    first_side c.args.graph.now c.args.allowed.now _ c.look_at.new.allowed c.in-Split.colour c.in-Split.part _
    c.args.taken.now.items _ c.look_at.new.taken.items c.as_slice-part.ensures
    c.in_ok-keep_only-in-Split.ensures.only c.in_ok-keep_only-in-Split.ensures.taken
    c.in_ok-look_at-in-Split.ensures.set c.in_ok-look_at-in-Split.ensures.taken

-- when it is undone, the set is whole again
whole : (t : ℕ) (c : After-give_back t)
    → IsFirstSide c.args.graph.now c.args.allowed.now c.look_at.new.allowed c.in-Split.colour c.in-Split.part
    c.args.taken.now.items c.look_at.new.taken.items
    → c.give_back.new.allowed ≡ c.args.allowed.now
whole t c side =
    first_side-undone c.args.graph.now c.args.allowed.now c.look_at.new.allowed c.give_back.new.allowed
    c.in-Split.colour c.len-before.result c.in-Split.part c.args.taken.now.items c.look_at.new.taken.items
    c.requires.set (omega (arith, c.args.taken.now.ok.0, c.len-before.ensures)) side c.give_back.ensures.given

-- the second side has the other edges
rest : (t : ℕ) (c : After-take_part t) → c.give_back.new.allowed ≡ c.args.allowed.now
    → c.take_part.new.allowed ≡ leaving c.args.allowed.now c.in-Split.part
rest t c same =
    c.take_part.ensures ∙ ap (λ xs. leaving xs c.as_slice-part.result.now) same
    ∙ ap (λ xs. leaving c.args.allowed.now xs) c.as_slice-part.ensures

pub look_at-requires : goal.look_at-requires
look_at-requires t c =
    let at = goal.at.look_at-requires t c in
    let graph = c.args.graph.now in
    let count = counted t at.In-Split in
    let deep = depth_of_split c.args.bound.now c.in-Split.colour c.in-Split.part c.in-Split.first c.in-Split.second
    c.in-Split.is in
    let nodes = nodes_of_split c.args.bound.now c.in-Split.colour c.in-Split.part c.in-Split.first c.in-Split.second
    c.in-Split.is in
    let sides = held t at.In-Split in
    let one = ap (λ b. splits_of (bound_value b)) c.get.ensures in
    let other = ap (λ b. depth_of (bound_value b)) c.get.ensures in
    let all : splits_of (bound_value c.args.bound.now) ≡ t = c.decreases in
    let falls : splits_of (bound_value c.get.result.now) < t = omega (arith, count, one, all) in
    let side = first_side graph c.args.allowed.now _ c.keep_only.new.allowed c.in-Split.colour c.in-Split.part _
    c.args.taken.now.items _ c.keep_only.new.taken.items
    c.as_slice-part.ensures c.in_ok-keep_only-in-Split.ensures.only c.in_ok-keep_only-in-Split.ensures.taken refl
    refl in (
      falls,
      (
        c.requires.vertices,
        (
          omega (arith, deep, other, c.requires.depth),
          (
            omega (arith, count, one, c.requires.few, c.look_at_split.ensures.next),
            (first_side-long graph _ _ _ _ _ _ c.requires.set side, rw (side.set, c.get.ensures) sides.first_side),
          ),
        ),
      ),
    )

pub give_back-requires-clause-in_range : goal.give_back-requires-clause-in_range
give_back-requires-clause-in_range t c =
    let at = goal.at.give_back-requires-clause-in_range t c in
    let graph = c.args.graph.now in
    let long : c.len-before.result ≡ length c.args.taken.now.items =
    omega (arith, c.args.taken.now.ok.0, c.len-before.ensures) in
    let side = first_is t at.In_ok-look_at-in-Split in
    first_side-in_range graph c.args.allowed.now c.look_at.new.allowed c.in-Split.colour c.len-before.result
    c.in-Split.part c.args.taken.now.items c.look_at.new.taken.items
    c.requires.set long side

pub take_part-requires : goal.take_part-requires
take_part-requires t c =
    let at = goal.at.take_part-requires t c in
    let graph = c.args.graph.now in
    let sides = held t at.In-Split in
    let side = first_is t at.In_ok-look_at-in-Split in
    rw (c.as_slice-part.ensures, whole t at.After-give_back side)
    (split-in_range graph c.args.allowed.now c.in-Split.colour c.in-Split.part c.requires.set sides.is_split)

pub look_at-requires-in-Split : goal.look_at-requires-in-Split
look_at-requires-in-Split t c =
    let at = goal.at.look_at-requires-in-Split t c in
    let graph = c.args.graph.now in
    let count = counted t at.In-Split in
    let deep = depth_of_split c.args.bound.now c.in-Split.colour c.in-Split.part c.in-Split.first c.in-Split.second
    c.in-Split.is in
    let sides = held t at.In-Split in
    let one = ap (λ b. splits_of (bound_value b)) c.get-in-Split.ensures in
    let other = ap (λ b. depth_of (bound_value b)) c.get-in-Split.ensures in
    let before = ap (λ b. splits_of (bound_value b)) c.get.ensures in
    let all : splits_of (bound_value c.args.bound.now) ≡ t = c.decreases in
    let falls : splits_of (bound_value c.get-in-Split.result.now) < t = omega (arith, count, one, all) in
    let side = first_is t at.In_ok-look_at-in-Split in
    let left = rest t at.After-take_part (whole t at.After-give_back side) in (
      falls,
      (
        c.requires.vertices,
        (
          omega (arith, deep, other, c.requires.depth),
          (
            omega (
              arith,
              count,
              one,
              before,
              c.requires.few,
              c.look_at_split.ensures.next,
              c.in_ok-look_at-in-Split.ensures.next,
            ),
            (
              second_side-long graph c.args.allowed.now c.take_part.new.allowed c.in-Split.part c.requires.set left,
              rw (left, c.get-in-Split.ensures) sides.second_side,
            ),
          ),
        ),
      ),
    )

pub put_part-requires : goal.put_part-requires
put_part-requires t c =
    let at = goal.at.put_part-requires t c in
    let graph = c.args.graph.now in
    let sides = held t at.In-Split in
    let side = first_is t at.In_ok-look_at-in-Split in
    let left = rest t at.After-take_part (whole t at.After-give_back side) in
    let same : length c.look_at-in-Split.new.allowed ≡ length c.args.allowed.now =
    ap (λ xs. length xs) c.in_ok-look_at-in-Split-2.ensures.set
    ∙ second_side-long graph c.args.allowed.now c.take_part.new.allowed c.in-Split.part c.requires.set left
    ∙ sym c.requires.set in
    rw (c.as_slice-part.ensures, same) (split-in_range graph c.args.allowed.now c.in-Split.colour c.in-Split.part
    c.requires.set sides.is_split)

pub returns-in-Priced-clause-gathered : goal.returns-in-Priced-clause-gathered
returns-in-Priced-clause-gathered t c leaves splits before =
    gathered_leaf c.args.graph.now c.args.gap.score c.args.gap.upper c.args.allowed.now c.args.bound.now
    c.in-Priced.cert c.args.found.now.next
    leaves splits c.look_at_leaf.new.found c.in-Priced.is (c.look_at_leaf.ensures.gathered leaves splits before)

pub returns-in_ok-look_at-in-Split-2-clause-next :
    goal.returns-in_ok-look_at-in-Split-2-clause-next
returns-in_ok-look_at-in-Split-2-clause-next t c =
    let at = goal.at.returns-in_ok-look_at-in-Split-2-clause-next t c in
    let count = counted t at.In-Split in
    let one = ap (λ b. splits_of (bound_value b)) c.get.ensures in
    let other = ap (λ b. splits_of (bound_value b)) c.get-in-Split.ensures in
    omega (
      arith,
      count,
      one,
      other,
      c.look_at_split.ensures.next,
      c.in_ok-look_at-in-Split.ensures.next,
      c.in_ok-look_at-in-Split-2.ensures.next,
    )

pub returns-in_ok-look_at-in-Split-2-clause-gathered :
    goal.returns-in_ok-look_at-in-Split-2-clause-gathered
returns-in_ok-look_at-in-Split-2-clause-gathered t c leaves splits before =
    let at = goal.at.returns-in_ok-look_at-in-Split-2-clause-gathered t c in
    let graph = c.args.graph.now in
    let side = first_is t at.In_ok-look_at-in-Split in
    let left = rest t at.After-take_part (whole t at.After-give_back side) in
    let kept = sym c.in_ok-look_at-in-Split.ensures.set ∙ side.set in
    let one = c.look_at_split.ensures.gathered leaves splits before in
    let two = c.in_ok-look_at-in-Split.ensures.gathered _ _ one in
    let three = c.in_ok-look_at-in-Split-2.ensures.gathered _ _ two in
    gathered_sides graph c.args.gap.score c.args.gap.upper c.args.allowed.now c.keep_only.new.allowed
    c.take_part.new.allowed c.args.bound.now
    c.in-Split.colour c.in-Split.part c.in-Split.first c.in-Split.second c.args.found.now.next
    c.look_at_split.new.found.next c.look_at.new.found.next
    leaves splits c.look_at-in-Split.new.found c.in-Split.is kept left c.look_at_split.ensures.next
    (c.in_ok-look_at-in-Split.ensures.next
    ∙ ap (λ b. c.look_at_split.new.found.next + nodes_of (bound_value b)) c.get.ensures)
    (rw (c.get.ensures, c.get-in-Split.ensures) at three)

pub returns-in_ok-look_at-in-Split-2-clause-set : goal.returns-in_ok-look_at-in-Split-2-clause-set
returns-in_ok-look_at-in-Split-2-clause-set t c =
    let at = goal.at.returns-in_ok-look_at-in-Split-2-clause-set t c in
    let graph = c.args.graph.now in
    let sides = held t at.In-Split in
    let side = first_is t at.In_ok-look_at-in-Split in
    let left = rest t at.After-take_part (whole t at.After-give_back side) in
    c.put_part.ensures ∙ ap (λ xs. adding xs c.as_slice-part.result.now) (c.in_ok-look_at-in-Split-2.ensures.set ∙ left)
    ∙ ap (λ xs. adding (leaving c.args.allowed.now c.in-Split.part) xs) c.as_slice-part.ensures
    ∙ leaving-undone graph c.args.allowed.now c.in-Split.colour c.in-Split.part sides.is_split
