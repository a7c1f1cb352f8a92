use Rattle.std.proofs.Common.{◌∙◌, ◌≤ℤ◌, ◌<◌, pos, length, sym, subst, arith, rules}
use Rattle.valence_filter.proofs.Filling.{fill-more}
use Rattle.element_table.specs.Formula.{IsFormula}
use Rattle.toml.specs.View.{table_view}
use Rattle.profile.specs.Values.{limits_of}
use Rattle.profile.proofs.ElementCast.{counted, fits_16}
use Rattle.profile.proofs.ElementRange.{filled_whole}
use Rattle.profile.proofs.LimitLaws.{length-limits_of, get_or-limits_of, limit_in_range, limits_are_counts}
use Rattle.profile.proofs.values.limits_of.Goals as goal

in_range : (c : goal.After-element_number) → (pos 0 ≤ℤ c.element_number.result) × (c.element_number.result ≤ℤ pos 1999)
in_range c = rw (← c.element_number.ensures) at
    (limit_in_range (table_view c.args.elements.now) c.loop-place.place c.requires)

pub overflow_cast-counts : goal.overflow_cast-counts
overflow_cast-counts c = fits_16 c.element_number.result (search rules) (in_range c).0 (in_range c).1

pub loop-place-preserved : goal.loop-place-preserved
loop-place-preserved c =
    let entries = table_view c.args.elements.now in
    let limits = limits_of entries in
    let in_limits : c.loop-place.place < length limits = omega (arith, length-limits_of entries) in
    fill-more limits c.loop-place.counts 0 _ 16 c.loop-place.place (omega arith) in_limits c.loop-place.invariant
    (counted c.element_number.result (search rules) (in_range c).0
    ∙ rw c.element_number.ensures (sym (get_or-limits_of entries c.loop-place.place)))

pub new-requires : goal.new-requires
new-requires c =
    let entries = table_view c.args.elements.now in
    let whole = filled_whole (limits_of entries) c.loop-place.counts 0 16 c.loop-place.place (omega arith)
    (length-limits_of entries) c.loop-place.invariant in
    subst IsFormula (sym whole) (limits_are_counts entries c.requires)

pub returns : goal.returns
returns c =
    let entries = table_view c.args.elements.now in
    c.new.ensures ∙ filled_whole (limits_of entries) c.loop-place.counts 0 16 c.loop-place.place (omega arith)
    (length-limits_of entries) c.loop-place.invariant
