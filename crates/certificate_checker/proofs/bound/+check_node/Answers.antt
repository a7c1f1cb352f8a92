use Rattle.std.proofs.Common.{◌≡◌, ◌∙◌, ◌+◌, ◌<◌, ℕ, Ok, ap, arith, length, of_z, refl, to_z, w64}
use Rattle.std.proofs.lemmas.Int.{to_z-of_z}
use Rattle.colour_graph.specs.EdgeSet.{IsSetOf, leaving, only}
use Rattle.tree_certificate.specs.BoundHolds.{BoundHolds, IsSplit, depth_of, nodes_of, splits_of}
use Rattle.tree_certificate.specs.BoundView.{bound_value}
use Rattle.tree_certificate.proofs.BoundValues.{depth_of_split, splits_of_split}
use Rattle.certificate_checker.specs.BoundPlaces.{IsBoundPlace, IsVerdictFrom}
use Rattle.certificate_checker.specs.declared.verdict.Verdict.TheVariants.{Fails, Holds}
use Rattle.certificate_checker.specs.inside.Sides.{adding}
use Rattle.certificate_checker.proofs.BoundVerdicts.{behind-in_range, first-taken, first-undone, said-at, value_split}
use Rattle.certificate_checker.proofs.BoundVerdicts.{verdict-first, verdict-second}
use Rattle.certificate_checker.proofs.SplitSides.{leaving-undone, length-leaving, length-only, split-in_range}
use Rattle.certificate_checker.proofs.bound.+check_node.Goals as goal
use Rattle.certificate_checker.proofs.bound.+check_node.Goals.{After-give_back, After-take_part, In-Split}

-- the splits of a bound are one more than those of its sides
counted : (t : ℕ) (c : In-Split t)
    → splits_of (bound_value c.args.bound.now)
    ≡ 1 + splits_of (bound_value c.in-Split.first) + splits_of (bound_value c.in-Split.second)
counted t c = splits_of_split c.args.bound.now c.in-Split.colour c.in-Split.part c.in-Split.first c.in-Split.second
    c.in-Split.is

-- when the first side is undone, the set is whole again
whole : (t : ℕ) (c : After-give_back t) → c.give_back.new.allowed ≡ c.args.allowed.now
whole t c =
    first-undone c.args.graph.now c.args.allowed.now c.check_node.new.allowed c.give_back.new.allowed c.in-Split.colour
    c.len-before.result c.as_slice-part.result.now c.args.taken.now.items c.check_node.new.taken.items c.requires.set
    (c.in_ok-side-in-Split.ensures.set ∙ c.in_ok-keep_only-in-Split.ensures.only)
    (omega (arith, c.len-before.ensures, c.args.taken.now.ok.0))
    (c.in_ok-side-in-Split.ensures.taken ∙ c.in_ok-keep_only-in-Split.ensures.taken) c.give_back.ensures.given

-- and only what was taken out before is out of it
out : (t : ℕ) (c : After-give_back t) → c.give_back.new.taken.items ≡ c.args.taken.now.items
out t c =
    first-taken c.args.taken.now.items _ c.check_node.new.taken.items c.give_back.new.taken.items c.len-before.result
    (omega (arith, c.len-before.ensures, c.args.taken.now.ok.0))
    (c.in_ok-side-in-Split.ensures.taken ∙ c.in_ok-keep_only-in-Split.ensures.taken) c.give_back.ensures.left

-- the second side has the other edges
rest : (t : ℕ) (c : After-take_part t) → c.give_back.new.allowed ≡ c.args.allowed.now
    → c.take_part.new.allowed ≡ leaving c.args.allowed.now c.as_slice-part.result.now
rest t c same = c.take_part.ensures ∙ ap (λ set. leaving set c.as_slice-part.result.now) same

-- where the first side holds, the second begins behind its nodes
behind : (t : ℕ) (c : After-take_part t)
    → c.check_node.new.next ≡ c.args.next.now + 1 + nodes_of (bound_value c.get.result.now)
behind t c = c.in_ok-side-in-Split.ensures.behind (ap Ok c.in_default-side.is)

pub check_node-requires : goal.check_node-requires
check_node-requires t c =
    let count = counted t (goal.at.check_node-requires t c).In-Split in
    let deep = depth_of_split c.args.bound.now c.in-Split.colour c.in-Split.part c.in-Split.first c.in-Split.second
    c.in-Split.is in
    let one = ap (λ b. splits_of (bound_value b)) c.get.ensures in
    let other = ap (λ b. depth_of (bound_value b)) c.get.ensures in
    let at : splits_of (bound_value c.args.bound.now) ≡ t = c.decreases in
    let falls : splits_of (bound_value c.get.result.now) < t = omega (arith, count, one, at) in
    let few : c.args.next.now + 1 + nodes_of (bound_value c.get.result.now) < 4294967296 =
    omega (arith, count, one, c.requires.few) in
    let set_is : IsSetOf c.args.graph.now c.keep_only.new.allowed =
    ap (λ set. length set) c.in_ok-keep_only-in-Split.ensures.only
    ∙ length-only c.args.graph.now c.args.allowed.now c.in-Split.colour c.as_slice-part.result.now ∙ c.requires.set in
    (falls, (c.requires.vertices, (omega (arith, deep, other, c.requires.depth), (few, set_is))))

pub give_back-requires-clause-in_range : goal.give_back-requires-clause-in_range
give_back-requires-clause-in_range t c =
    let graph = c.args.graph.now in
    let allowed = c.args.allowed.now in
    let part = c.as_slice-part.result.now in
    let set_is : IsSetOf graph c.check_node.new.allowed =
    ap (λ set. length set) c.in_ok-side-in-Split.ensures.set
    ∙ ap (λ set. length set) c.in_ok-keep_only-in-Split.ensures.only
    ∙ length-only graph allowed c.in-Split.colour part ∙ c.requires.set in
    let before_is : c.len-before.result ≡ length c.args.taken.now.items =
    omega (arith, c.len-before.ensures, c.args.taken.now.ok.0) in
    behind-in_range graph (leaving allowed part) c.in-Split.colour c.len-before.result c.args.taken.now.items
    c.check_node.new.taken.items
    c.check_node.new.allowed set_is before_is (c.in_ok-side-in-Split.ensures.taken
    ∙ c.in_ok-keep_only-in-Split.ensures.taken)

pub returns-in-Fails-clause-verdict : goal.returns-in-Fails-clause-verdict
returns-in-Fails-clause-verdict t c =
    let graph = c.args.graph.now in
    let allowed = c.args.allowed.now in
    let colour = c.in-Split.colour in
    let part = c.as_slice-part.result.now in
    let first = bound_value c.get.result.now in
    let is_split : IsSplit graph allowed colour part = c.in_default.ensures in
    let fails : IsBoundPlace graph (only graph allowed colour part) first c.args.upper
    (c.args.next.now + 1) c.in-Fails.place =
    said-at graph c.keep_only.new.allowed (only graph allowed colour part) first
    (to_z w64 (of_z w64 c.args.upper)) c.args.upper (c.args.next.now + 1)
    c.in_ok-side-in-Split.side (Fails c.in-Fails.place) c.in_ok-keep_only-in-Split.ensures.only
    (to_z-of_z w64 c.args.upper c.ranges.upper) c.in-Fails.is
    c.in_ok-side-in-Split.ensures.verdict in
    verdict-first graph allowed colour part (bound_value c.args.bound.now) first
    (bound_value c.in-Split.second) c.args.upper c.args.next.now c.in-Fails.place
    (value_split c.args.bound.now colour c.in-Split.part part c.in-Split.first c.in-Split.second c.get.result.now
    c.in-Split.second c.in-Split.is
    c.as_slice-part.ensures c.get.ensures refl) is_split fails

pub returns-in-Fails-clause-set : goal.returns-in-Fails-clause-set
returns-in-Fails-clause-set t c = whole t (goal.at.returns-in-Fails-clause-set t c).After-give_back

pub returns-in-Fails-clause-taken : goal.returns-in-Fails-clause-taken
returns-in-Fails-clause-taken t c = out t (goal.at.returns-in-Fails-clause-taken t c).After-give_back

pub take_part-requires : goal.take_part-requires
take_part-requires t c =
    let graph = c.args.graph.now in
    let allowed = c.args.allowed.now in
    let part = c.as_slice-part.result.now in
    let is_split : IsSplit graph allowed c.in-Split.colour part = c.in_default.ensures in
    let same = whole t (goal.at.take_part-requires t c).After-give_back in
    rw same (split-in_range graph allowed c.in-Split.colour part c.requires.set is_split)

pub check_node-requires-in-Split : goal.check_node-requires-in-Split
check_node-requires-in-Split t c =
    let graph = c.args.graph.now in
    let allowed = c.args.allowed.now in
    let part = c.as_slice-part.result.now in
    let count = counted t (goal.at.check_node-requires-in-Split t c).In-Split in
    let deep = depth_of_split c.args.bound.now c.in-Split.colour c.in-Split.part c.in-Split.first c.in-Split.second
    c.in-Split.is in
    let one = ap (λ b. splits_of (bound_value b)) c.get.ensures in
    let two = ap (λ b. splits_of (bound_value b)) c.get-in-Split.ensures in
    let other = ap (λ b. depth_of (bound_value b)) c.get-in-Split.ensures in
    let all : splits_of (bound_value c.args.bound.now) ≡ t = c.decreases in
    let falls : splits_of (bound_value c.get-in-Split.result.now) < t = omega (arith, count, two, all) in
    let next = behind t (goal.at.check_node-requires-in-Split t c).After-take_part in
    let few : c.check_node.new.next + nodes_of (bound_value c.get-in-Split.result.now) < 4294967296 =
    omega (arith, count, one, two, next, c.requires.few) in
    let at = goal.at.check_node-requires-in-Split t c in
    let left = rest t at.After-take_part (whole t at.After-give_back) in
    let set_is : IsSetOf graph c.take_part.new.allowed =
    ap (λ set. length set) left ∙ length-leaving allowed part ∙ c.requires.set in
    (falls, (c.requires.vertices, (omega (arith, deep, other, c.requires.depth), (few, set_is))))

pub put_part-requires : goal.put_part-requires
put_part-requires t c k d within =
    let graph = c.args.graph.now in
    let allowed = c.args.allowed.now in
    let part = c.as_slice-part.result.now in
    let is_split : IsSplit graph allowed c.in-Split.colour part = c.in_default.ensures in
    let at = goal.at.put_part-requires t c in
    let left = rest t at.After-take_part (whole t at.After-give_back) in
    let long : length c.check_node-in-Split.new.allowed ≡ length allowed =
    ap (λ set. length set) (c.in_ok-side-in-Split-2.ensures.set ∙ left) ∙ length-leaving allowed part in
    let named = split-in_range graph allowed c.in-Split.colour part c.requires.set is_split k d within in
    omega (arith, long, named)

pub returns-in_ok-side-in-Split-2-clause-verdict : goal.returns-in_ok-side-in-Split-2-clause-verdict
returns-in_ok-side-in-Split-2-clause-verdict t c =
    let graph = c.args.graph.now in
    let allowed = c.args.allowed.now in
    let colour = c.in-Split.colour in
    let part = c.as_slice-part.result.now in
    let first = bound_value c.get.result.now in
    let second = bound_value c.get-in-Split.result.now in
    let is_split : IsSplit graph allowed colour part = c.in_default.ensures in
    let at = goal.at.returns-in_ok-side-in-Split-2-clause-verdict t c in
    let left = rest t at.After-take_part (whole t at.After-give_back) in
    let upper_is = to_z-of_z w64 c.args.upper c.ranges.upper in
    let holds : BoundHolds graph (only graph allowed colour part) first c.args.upper =
    said-at graph c.keep_only.new.allowed (only graph allowed colour part) first
    (to_z w64 (of_z w64 c.args.upper)) c.args.upper (c.args.next.now + 1)
    c.in_ok-side-in-Split.side Holds c.in_ok-keep_only-in-Split.ensures.only upper_is c.in_default-side.is
    c.in_ok-side-in-Split.ensures.verdict in
    let next = behind t (goal.at.returns-in_ok-side-in-Split-2-clause-verdict t c).After-take_part in
    let said : IsVerdictFrom graph (leaving allowed part) second c.args.upper c.check_node.new.next
    c.in_ok-side-in-Split-2.side =
    said-at graph c.take_part.new.allowed (leaving allowed part) second
    (to_z w64 (of_z w64 c.args.upper)) c.args.upper c.check_node.new.next
    c.in_ok-side-in-Split-2.side c.in_ok-side-in-Split-2.side left upper_is refl
    c.in_ok-side-in-Split-2.ensures.verdict in
    verdict-second graph allowed colour part (bound_value c.args.bound.now) first second c.args.upper c.args.next.now
    c.check_node.new.next
    c.in_ok-side-in-Split-2.side
    (value_split c.args.bound.now colour c.in-Split.part part c.in-Split.first c.in-Split.second c.get.result.now
    c.get-in-Split.result.now c.in-Split.is
    c.as_slice-part.ensures c.get.ensures c.get-in-Split.ensures) is_split holds next said

pub returns-in_ok-side-in-Split-2-clause-behind : goal.returns-in_ok-side-in-Split-2-clause-behind
returns-in_ok-side-in-Split-2-clause-behind t c = λ all.
    let count = counted t (goal.at.returns-in_ok-side-in-Split-2-clause-behind t c).In-Split in
    let one = ap (λ b. splits_of (bound_value b)) c.get.ensures in
    let two = ap (λ b. splits_of (bound_value b)) c.get-in-Split.ensures in
    let next = behind t (goal.at.returns-in_ok-side-in-Split-2-clause-behind t c).After-take_part in
    let ended : c.check_node-in-Split.new.next
    ≡ c.check_node.new.next + nodes_of (bound_value c.get-in-Split.result.now) =
    c.in_ok-side-in-Split-2.ensures.behind all in
    omega (arith, count, one, two, next, ended)

pub returns-in_ok-side-in-Split-2-clause-set : goal.returns-in_ok-side-in-Split-2-clause-set
returns-in_ok-side-in-Split-2-clause-set t c =
    let graph = c.args.graph.now in
    let allowed = c.args.allowed.now in
    let part = c.as_slice-part.result.now in
    let is_split : IsSplit graph allowed c.in-Split.colour part = c.in_default.ensures in
    let at = goal.at.returns-in_ok-side-in-Split-2-clause-set t c in
    let left = rest t at.After-take_part (whole t at.After-give_back) in
    c.put_part.ensures
    ∙ ap (λ set. adding set part) (c.in_ok-side-in-Split-2.ensures.set ∙ left)
    ∙ leaving-undone graph allowed c.in-Split.colour part is_split

pub returns-in_ok-side-in-Split-2-clause-taken : goal.returns-in_ok-side-in-Split-2-clause-taken
returns-in_ok-side-in-Split-2-clause-taken t c =
    c.in_ok-side-in-Split-2.ensures.taken
    ∙ out t (goal.at.returns-in_ok-side-in-Split-2-clause-taken t c).After-give_back
