use Rattle.std.proofs.Common.{◌≡◌, ◌∙◌, ◌+◌, ◌<◌, ◌≤◌, ◌&&◌, Bool, get_or, length, rules, sym, ap, arith, w64}
use Rattle.std.proofs.Common.{FitsSigned, to_z, of_z}
use Rattle.std.specs.Ordering.{int_eq}
use Rattle.std.proofs.lemmas.Grind.{common_steps}
use Rattle.std.proofs.lemmas.Int.{to_z-of_z}
use Rattle.score_tables.specs.Tables.{are_ordered}
use Rattle.toml.specs.View.{view}
use Rattle.profile.specs.Form as spec
use Rattle.profile.specs.inside.Ordered.{comes}
use Rattle.profile.proofs.KindLaws.{bounds_from, bounds_from-start, ordered_last, ordered_none, ordered_step}
use Rattle.profile.proofs.form.are_ordered.Goals as goal

pub returns-then-place-len : goal.returns-then-place-len
returns-then-place-len c =
    let values = c.args.items.now.items in
    let kept = rw (to_z-of_z w64 c.args.last (search rules)) at c.loop-place.invariant in
    let i = c.loop-place.place in
    let item = c.index.result.now in
    let here : get_or values i item ≡ item = grind (arith, common_steps) in
    let len : c.len.result ≡ length values = search rules in
    let last : i + 1 ≡ length values = c.if-place-len.true ∙ len in
    let fits : FitsSigned w64 c.pair_bound-bound.result = search rules in
    let bound : to_z w64 (of_z w64 c.pair_bound-bound.result) ≡ spec.pair_bound (view (get_or values i item)) =
    rw (to_z-of_z w64 c.pair_bound-bound.result fits, here) c.pair_bound-bound.ensures in
    let is = rw (to_z-of_z w64 c.args.last (search rules)) at c.is_number.ensures in
    is ∙ ap (λ b. int_eq b c.args.last) bound
    ∙ sym (ordered_last (comes c.args.rises) c.args.last values i item last)
    ∙ kept ∙ ap (are_ordered (comes c.args.rises) c.args.last) (bounds_from-start values)

pub returns-then-not-comes : goal.returns-then-not-comes
returns-then-not-comes c =
    let values = c.args.items.now.items in
    let kept = rw (to_z-of_z w64 c.args.last (search rules)) at c.loop-place.invariant in
    let i = c.loop-place.place in
    let item = c.index.result.now in
    let next = c.index-in-loop-place.result.now in
    let here : get_or values i item ≡ item = grind (arith, common_steps) in
    let there : get_or values (i + 1) item ≡ next = grind (arith, common_steps) in
    let more : i + 1 < length values = grind (arith, common_steps) in
    let fits : FitsSigned w64 c.pair_bound-bound.result = search rules in
    let fits_next : FitsSigned w64 c.pair_bound.result = search rules in
    let step = ordered_step (comes c.args.rises) c.args.last values i item next c.pair_bound-bound.result
    c.pair_bound.result c.comes.result more here there c.pair_bound-bound.ensures c.pair_bound.ensures fits fits_next
    c.comes.ensures in
    sym (step ∙ ap (λ (t : Bool). t && are_ordered (comes c.args.rises) c.args.last (bounds_from values (i + 1)))
    c.if-not-comes.true)
    ∙ kept ∙ ap (are_ordered (comes c.args.rises) c.args.last) (bounds_from-start values)

pub loop-place-preserved : goal.loop-place-preserved
loop-place-preserved c =
    let values = c.args.items.now.items in
    let last = to_z w64 (of_z w64 c.args.last) in
    let i = c.loop-place.place in
    let item = c.index.result.now in
    let next = c.index-in-loop-place.result.now in
    let here : get_or values i item ≡ item = grind (arith, common_steps) in
    let there : get_or values (i + 1) item ≡ next = grind (arith, common_steps) in
    let more : i + 1 < length values = grind (arith, common_steps) in
    let fits : FitsSigned w64 c.pair_bound-bound.result = search rules in
    let fits_next : FitsSigned w64 c.pair_bound.result = search rules in
    let step = ordered_step (comes c.args.rises) last values i item next c.pair_bound-bound.result
    c.pair_bound.result c.comes.result more here there c.pair_bound-bound.ensures c.pair_bound.ensures fits fits_next
    c.comes.ensures in
    sym (step ∙ ap (λ (t : Bool). t && are_ordered (comes c.args.rises) last (bounds_from values (i + 1)))
    c.if-not-comes.false)
    ∙ c.loop-place.invariant

pub returns : goal.returns
returns c =
    let values = c.args.items.now.items in
    let kept = rw (to_z-of_z w64 c.args.last (search rules)) at c.loop-place.invariant in
    let past : length values ≤ c.loop-place.place = grind (arith, common_steps) in
    sym (ordered_none (comes c.args.rises) c.args.last values c.loop-place.place past) ∙ kept
    ∙ ap (are_ordered (comes c.args.rises) c.args.last) (bounds_from-start values)
